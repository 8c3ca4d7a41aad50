-- What an array holds that a closure fills, place by place.
use Rattle.std.proofs.Common.{◌≡◌, ℕ, zero, suc, ◌+◌, ◌<◌, ◌≤◌, List, map, get_or, ◌∙◌, subst, inl, inr, arith}
use Rattle.std.specs.Fn.{Called}
use Rattle.std.specs.Array.{IsFromFnResult, IsFromFnResultFrom}
use Rattle.std.specs.List.{range_with_len}
use Rattle.std.proofs.lemmas.Bool.{cases_eq}
use Rattle.std.proofs.lemmas.List.FromFn.{fill_by_all}
use denote.Param.Members.{Mut}

-- a closure that gives h i of each number i, and stays as it is
module _ {F : Type 0} (g : Mut F (ℕ × Unit {0}) ℕ) (h : ℕ → ℕ) (f : F)
    (gives : (i y : ℕ) (f' : F) → Called g f (i, tt) y f' → (y ≡ h i) × (f' ≡ f)) where
  filled_at : (ys : List ℕ) (n i : ℕ) → IsFromFnResultFrom g f ys i n → (k : ℕ) → i ≤ k → k < i + n → get_or ys k 0 ≡ h k
  filled_at ys zero i each k low high = absurd (omega arith)
  filled_at ys (suc n) i (f', y, is_y, call, rest) k low high =
      let (y_is, same) = gives i y f' call in
      elim (cases_eq k i) [
        | inl e ↦ rw e (is_y.1 0 ∙ y_is)
        | inr other ↦ filled_at ys n (i + 1) (subst (λ q. IsFromFnResultFrom g q ys (i + 1) n) same rest) k (omega arith) (omega arith)
      ]

  pub filled : (ys : List ℕ) (n : ℕ) → IsFromFnResult g f ys n → ys ≡ map h (range_with_len 0 n)
  filled ys n made = fill_by_all h ys n 0 made.long (λ k l. filled_at ys n 0 made.each k (omega arith) (omega arith))
