-- The range of figures. The struct of figures cites this file, so nothing here speaks of the struct.
use Rattle.std.specs.Prelude.{Bool, ℕ, min, leb, ℤ, pos, negsuc}

abbrev pub in_range : ℕ → Bool
in_range n = leb n 9999

-- a number, the largest figure for a larger one
abbrev pub capped : ℕ → ℕ
capped n = min n 9999

-- what a literal adds: itself, and nothing where it is negative, which is accepted nowhere
abbrev pub literal_number : ℤ → ℕ
literal_number (pos n) = n
literal_number (negsuc n) = 0
