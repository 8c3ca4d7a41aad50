-- A few results, computed from the table's own rules.
use Rattle.std.specs.Prelude.{◌≡◌, [], ◌∷◌, pos, negsuc, Ok, Err, refl}
use Rattle.formula.specs.declared.reading.Trouble.TheVariants.{Hole, OutOfRange, ZeroDivisor}
use Rattle.formula.specs.Rules.{quotient}
use Rattle.formula.specs.Table.{formula_rule}

-- -7 / 2 is -3: the fraction is dropped toward zero
abbrev pub MinusSevenByTwo : Type 0
MinusSevenByTwo = quotient (Ok (negsuc 6)) (Ok (pos 2)) ≡ Ok (negsuc 2)

pub minus_seven_by_two : MinusSevenByTwo
minus_seven_by_two = refl

-- the same as the value of production 7
pub quotient_rule : formula_rule 7 0 1 (pos 0) (Ok (negsuc 6) ∷ Ok (pos 2) ∷ []) ≡ Ok (negsuc 2)
quotient_rule = refl

pub by_zero : formula_rule 7 0 1 (pos 0) (Ok (pos 7) ∷ Ok (pos 0) ∷ []) ≡ Err ZeroDivisor
by_zero = refl

pub too_large : formula_rule 4 0 1 (pos 0) (Ok (pos 1000000000) ∷ Ok (pos 1) ∷ []) ≡ Err OutOfRange
too_large = refl

-- the first trouble counts
pub first_trouble : formula_rule 6 0 1 (pos 0) (Err Hole ∷ Err ZeroDivisor ∷ []) ≡ Err Hole
first_trouble = refl

-- a choice by 0 is its third child
pub chosen : formula_rule 8 0 1 (pos 0) (Ok (pos 0) ∷ Ok (pos 1) ∷ Ok (pos 2) ∷ []) ≡ Ok (pos 2)
chosen = refl
