-- One turn of the closure of a graph, and how many rows the closure has.
use Rattle.std.proofs.Common.{◌≡◌, ℕ, zero, suc, Bool, true, false, List, length, get_or, sym, refl, ap, ◌∙◌}
use lib.Bits.{bit_or, or_zero_r}
use Rattle.std.proofs.lemmas.List.{length-map}
use Rattle.std.proofs.lemmas.List.Folds.{map_fixed}
use Rattle.circularity.specs.Bits.{has, through, closed_below}

-- what one turn of the closure makes of a row
abbrev pub taken : List ℕ → ℕ → ℕ → ℕ
taken rows m row = elim (has row m) [ true ↦ bit_or row (get_or rows m 0) | false ↦ row ]

-- a vertex without edges has nothing to hand on
pub through_nothing : (m : ℕ) (start : List ℕ) → get_or start m 0 ≡ 0 → start ≡ through m start
through_nothing m start none = sym (map_fixed (taken start m) start (λ k d inside. unchanged (get_or start k d) (has (get_or start k d) m)))
  where
    unchanged : (row : ℕ) (b : Bool) → elim b [ true ↦ bit_or row (get_or start m 0) | false ↦ row ] ≡ row
    unchanged row true = ap (bit_or row) none ∙ or_zero_r row
    unchanged row false = refl

-- the closure has as many rows
pub closed_length : (m : ℕ) (start : List ℕ) → length (closed_below m start) ≡ length start
closed_length zero start = refl
closed_length (suc m) start = length-map (closed_below m start) (taken (closed_below m start) m) ∙ closed_length m start
