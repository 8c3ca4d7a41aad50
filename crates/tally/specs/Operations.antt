-- What each operation gives of a production's literal and of what the rule's arguments mean.
use Rattle.std.specs.Prelude.{List, ℕ, ◌+◌, ℤ, get_or}
use Rattle.tally.specs.declared.operation.Operation.{Operation}
use Rattle.tally.specs.declared.operation.Operation.TheVariants.{Nothing, Same, PlusLiteral}
use Rattle.tally.specs.Range.{capped, literal_number}

abbrev pub gives : Operation → ℤ → List ℕ → ℕ
gives Nothing l arguments = 0
gives Same l arguments = get_or arguments 0 0
gives PlusLiteral l arguments = capped (get_or arguments 0 0 + literal_number l)
