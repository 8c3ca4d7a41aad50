-- What a figure means, and the figure that a row reads as.
use Rattle.std.specs.Prelude.{◌≡◌, refl, Bool, true, false, cond, ℕ, T}
use mathlib.Core.HLevel.{is_prop→PathP}
use Rattle.std.proofs.Math.Dec.{T_prop}
use Rattle.tally.specs.declared.sum.Sum.{Sum}
use Rattle.tally.specs.Range.{in_range}

-- a figure means its number
abbrev pub value_of : Sum → ℕ
value_of s = s.value

-- a number in the range as it is, the blank for any other
abbrev pub kept : ℕ → ℕ
kept n = cond (in_range n) n 0

pub kept_within : (n : ℕ) → T (in_range (kept n))
kept_within n = decided (in_range n) refl
  where
    decided : (b : Bool) → in_range n ≡ b → T (in_range (cond b n 0))
    decided true e = rw e tt
    decided false e = tt

abbrev pub read : ℕ → Sum
read row = record { value = kept row; within = kept_within row }

-- Figures with the same number are the same.
pub same_figure : (x y : Sum) → x.value ≡ y.value → x ≡ y
same_figure x y e = λ i. record { value = e i; within = is_prop→PathP (λ j. T (in_range (e j))) (λ j. T_prop (in_range (e j))) x.within y.within i }
