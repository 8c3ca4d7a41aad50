-- What the rules of price formulas compute from what their arguments say.
use Rattle.std.specs.Prelude.{◌/◌, Bool, true, false, cond, ℤ, pos, negsuc, ◌+ℤ◌, ◌-ℤ◌, ◌*ℤ◌, neg_ℤ, Ok, Err, Result, ◌==◌, int_le, unsigned_abs}
use Rattle.formula.specs.declared.reading.Trouble.{Trouble}
use Rattle.formula.specs.declared.reading.Trouble.TheVariants.{ZeroDivisor}
use Rattle.formula.specs.Readings.{Reading, number_or_trouble}

-- both numbers, or a's trouble, or else b's
abbrev pub numbers : Reading → Reading → Result (ℤ × ℤ) Trouble
numbers (Err t) b = Err t
numbers (Ok x) (Err t) = Err t
numbers (Ok x) (Ok y) = Ok (x, y)

-- the trouble, or what comes of the two numbers
abbrev pub of_numbers : (ℤ → ℤ → Reading) → Reading → Reading → Reading
of_numbers f a b = elim (numbers a b) [ Ok n ↦ f n.0 n.1 | Err t ↦ Err t ]

abbrev pub sum : Reading → Reading → Reading
sum = of_numbers (λ x y. number_or_trouble (x +ℤ y))

abbrev pub difference : Reading → Reading → Reading
difference = of_numbers (λ x y. number_or_trouble (x -ℤ y))

abbrev pub product : Reading → Reading → Reading
product = of_numbers (λ x y. number_or_trouble (x *ℤ y))

-- whether both numbers are negative, or neither
abbrev pub alike : ℤ → ℤ → Bool
alike (pos x) (pos y) = true
alike (pos x) (negsuc y) = false
alike (negsuc x) (pos y) = false
alike (negsuc x) (negsuc y) = true

-- x / y without its fraction: the amounts are divided, and what comes is negative where one of the two numbers is
abbrev pub quotient_of : ℤ → ℤ → ℤ
quotient_of x y = let amount = unsigned_abs x / unsigned_abs y in cond (alike x y) (pos amount) (neg_ℤ (pos amount))

-- a zero divisor is trouble
abbrev pub quotient : Reading → Reading → Reading
quotient = of_numbers (λ x y. cond (unsigned_abs y == 0) (Err ZeroDivisor) (number_or_trouble (quotient_of x y)))

-- a's trouble, c if a is at most 0, else b
abbrev pub choose : Reading → Reading → Reading → Reading
choose (Err t) b c = Err t
choose (Ok n) b c = cond (int_le n (pos 0)) c b
