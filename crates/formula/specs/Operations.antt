-- What each operation gives of a production's literal and the rule's arguments.
use Rattle.std.specs.Prelude.{ℕ, List, ℤ, Err, slice_index_or}
use Rattle.formula.specs.declared.operation.Operation.{Operation}
use Rattle.formula.specs.declared.operation.Operation.TheVariants.{Nothing, Unbound, Hole, Literal, Same, Sum, Difference, Product, Quotient, Choose}
use Rattle.formula.specs.declared.reading.Trouble.TheVariants.{NothingBound}
use Rattle.formula.specs.declared.reading.Trouble.{Trouble}
use Rattle.formula.specs.Readings.{Reading, blank, number_or_trouble}
use Rattle.formula.specs.Rules.{sum, difference, product, quotient, choose}

-- argument k, the blank where there is none
abbrev pub argument : List Reading → ℕ → Reading
argument args k = slice_index_or args k blank

abbrev pub gives : Operation → ℤ → List Reading → Reading
gives Nothing l args = blank
gives Unbound l args = Err NothingBound
gives Hole l args = Err Trouble.Hole
gives Literal l args = number_or_trouble l
gives Same l args = argument args 0
gives Sum l args = sum (argument args 0) (argument args 1)
gives Difference l args = difference (argument args 0) (argument args 1)
gives Product l args = product (argument args 0) (argument args 1)
gives Quotient l args = quotient (argument args 0) (argument args 1)
gives Choose l args = choose (argument args 0) (argument args 1) (argument args 2)
