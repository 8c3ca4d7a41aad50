-- What is found by gathering the outcomes of choices: each thing found comes from some choice, and what a choice gives is found.
use Rattle.std.proofs.Common.{◌≡◌, ℕ, zero, suc, ◌^◌, ◌<◌, Bool, true, false, T, ◌⊎◌, List, refl, subst, inl, inr, arith, pow_pos}
use lib.Bits.{or_lt}
use Rattle.std.proofs.lemmas.Bool.{cases_lt}
use Rattle.grammar.specs.Grammar.{Grammar}
use Rattle.circularity.specs.declared.graph.Outcome.{Outcome}
use Rattle.circularity.specs.Bits.{has, closed_below}
use Rattle.circularity.specs.Working.{chosen, rows_of, relation_in, outcome_of, nothing_found, joined, joined_if, gathered_below, choices_at, choice, found_by}
use Rattle.circularity.proofs.Bits.{T_false, T_either, T_left, T_right, has_zero, or_has, or_has_left, or_has_right, shifted_below}

-- something that can be seen in an outcome: not where nothing was found, and in a join exactly where it is seen in a part
pub record Observation (P : Outcome → Type 0) : Type 0 where
  pub never : P nothing_found → ⊥
  pub either : (x y : Outcome) → P (joined x y) → P x ⊎ P y
  pub left : (x y : Outcome) → P x → P (joined x y)
  pub right : (x y : Outcome) → P y → P (joined x y)

-- that relation r is found
pub relation_seen : (r : ℕ) → Observation (λ x. T (has x.relations r))
relation_seen r = record {
  never = λ t. T_false (has 0 r) (has_zero r) t;
  either = λ x y t. or_has x.relations y.relations r t;
  left = λ x y t. or_has_left x.relations y.relations r t;
  right = λ x y t. or_has_right x.relations y.relations r t;
}

-- that a cycle is found
pub cycle_seen : Observation (λ x. T x.cyclic)
cycle_seen = record {
  never = λ t. t;
  either = λ x y t. T_either x.cyclic y.cyclic t;
  left = λ x y t. T_left x.cyclic y.cyclic t;
  right = λ x y t. T_right x.cyclic y.cyclic t;
}

-- The relations chosen are three, among those to choose from at each child place.
pub record Fits (g : Grammar) (p : ℕ) (masks : List ℕ) (c : List ℕ) : Type 0 where
  pub three : c ≡ choice (chosen c 0) (chosen c 1) (chosen c 2)
  pub below : (k : ℕ) → k < 3 → chosen c k < 16
  pub among : (k : ℕ) → k < 3 → T (has (choices_at g p masks k) (chosen c k))

pub fits_from : (g : Grammar) (p : ℕ) (masks : List ℕ) (x y z : ℕ)
    → (x < 16) × T (has (choices_at g p masks 0) x) → (y < 16) × T (has (choices_at g p masks 1) y) → (z < 16) × T (has (choices_at g p masks 2) z)
    → Fits g p masks (choice x y z)
fits_from g p masks x y z hx hy hz = record { three = refl; below = λ k l. (at k l).0; among = λ k l. (at k l).1 }
  where
    at : (k : ℕ) → k < 3 → (chosen (choice x y z) k < 16) × T (has (choices_at g p masks k) (chosen (choice x y z) k))
    at zero l = hx
    at (suc zero) l = hy
    at (suc (suc zero)) l = hz
    at (suc (suc (suc k))) l = absurd (omega arith)

module _ (P : Outcome → Type 0) (o : Observation P) where
  last_cases : (b : Bool) (x y : Outcome) → P (joined_if b x y) → P x ⊎ (T b × P y)
  last_cases true x y h = elim (o.either x y h) [ inl a ↦ inl a | inr b ↦ inr (tt, b) ]
  last_cases false x y h = inl h

  last_keeps : (b : Bool) (x y : Outcome) → P x → P (joined_if b x y)
  last_keeps true x y h = o.left x y h
  last_keeps false x y h = h

  last_takes : (b : Bool) (x y : Outcome) → T b → P y → P (joined_if b x y)
  last_takes true x y t h = o.right x y h
  last_takes false x y t h = elim t [ ]

  pub gathered_has : (f : ℕ → Outcome) (set n : ℕ) → P (gathered_below f set n) → (k : ℕ) × (k < n) × T (has set k) × P (f k)
  gathered_has f set zero h = absurd (o.never h)
  gathered_has f set (suc n) h =
      elim (last_cases (has set n) (gathered_below f set n) (f n) h) [
        | inl a ↦ (let before = gathered_has f set n a in (before.0, omega (arith, before.1), before.2, before.3))
        | inr b ↦ (n, omega arith, b.0, b.1)
      ]

  pub has_gathered : (f : ℕ → Outcome) (set n k : ℕ) → k < n → T (has set k) → P (f k) → P (gathered_below f set n)
  has_gathered f set zero k l t h = absurd (omega arith)
  has_gathered f set (suc n) k l t h =
      elim (cases_lt k n) [
        | inl before ↦ last_keeps (has set n) (gathered_below f set n) (f n) (has_gathered f set n k before t h)
        | inr after ↦
            (let e : k ≡ n = omega arith in
            last_takes (has set n) (gathered_below f set n) (f n) (subst (λ (x : ℕ). T (has set x)) e t) (subst (λ (x : ℕ). P (f x)) e h))
      ]

  -- three choices, one after another
  gathered_thrice : (f : ℕ → ℕ → ℕ → Outcome) (a b c n : ℕ) → P (gathered_below (λ x. gathered_below (λ y. gathered_below (λ z. f x y z) c n) b n) a n)
      → (x : ℕ) × (y : ℕ) × (z : ℕ) × ((x < n) × T (has a x)) × ((y < n) × T (has b y)) × ((z < n) × T (has c z)) × P (f x y z)
  gathered_thrice f a b c n h =
      let (x, lx, tx, hx) = gathered_has (λ x. gathered_below (λ y. gathered_below (λ z. f x y z) c n) b n) a n h in
      let (y, ly, ty, hy) = gathered_has (λ y. gathered_below (λ z. f x y z) c n) b n hx in
      let (z, lz, tz, hz) = gathered_has (λ z. f x y z) c n hy in
      (x, y, z, (lx, tx), (ly, ty), (lz, tz), hz)

  thrice_gathered : (f : ℕ → ℕ → ℕ → Outcome) (a b c n x y z : ℕ) → (x < n) × T (has a x) → (y < n) × T (has b y) → (z < n) × T (has c z) → P (f x y z)
      → P (gathered_below (λ x. gathered_below (λ y. gathered_below (λ z. f x y z) c n) b n) a n)
  thrice_gathered f a b c n x y z hx hy hz h =
      has_gathered (λ x. gathered_below (λ y. gathered_below (λ z. f x y z) c n) b n) a n x hx.0 hx.1
      (has_gathered (λ y. gathered_below (λ z. f x y z) c n) b n y hy.0 hy.1
      (has_gathered (λ z. f x y z) c n z hz.0 hz.1 h))

  module _ (g : Grammar) (p : ℕ) (masks : List ℕ) where
    pub found_has : P (found_by g p masks) → (c : List ℕ) × Fits g p masks c × P (outcome_of g p c)
    found_has h =
        let (x, y, z, hx, hy, hz, seen) =
        gathered_thrice (λ x y z. outcome_of g p (choice x y z)) (choices_at g p masks 0) (choices_at g p masks 1) (choices_at g p masks 2) 16 h in
        (choice x y z, fits_from g p masks x y z hx hy hz, seen)

    pub has_found : (c : List ℕ) → Fits g p masks c → P (outcome_of g p c) → P (found_by g p masks)
    has_found c fits seen =
        thrice_gathered (λ x y z. outcome_of g p (choice x y z)) (choices_at g p masks 0) (choices_at g p masks 1) (choices_at g p masks 2) 16
        (chosen c 0) (chosen c 1) (chosen c 2)
        (fits.below 0 (omega arith), fits.among 0 (omega arith))
        (fits.below 1 (omega arith), fits.among 1 (omega arith))
        (fits.below 2 (omega arith), fits.among 2 (omega arith))
        (subst (λ d. P (outcome_of g p d)) fits.three seen)

-- ---- the set of relations found has 16 bits

gathered_small : (f : ℕ → Outcome) → ((k : ℕ) → (f k).relations < 2 ^ 16) → (set n : ℕ) → (gathered_below f set n).relations < 2 ^ 16
gathered_small f small set zero = pow_pos 16
gathered_small f small set (suc n) = step (has set n) (gathered_below f set n) (f n) (gathered_small f small set n) (small n)
  where
    step : (b : Bool) (x y : Outcome) → x.relations < 2 ^ 16 → y.relations < 2 ^ 16 → (joined_if b x y).relations < 2 ^ 16
    step true x y hx hy = or_lt 16 x.relations y.relations hx hy
    step false x y hx hy = hx

thrice_below : (f : ℕ → ℕ → ℕ → Outcome) → ((x y z : ℕ) → (f x y z).relations < 2 ^ 16) → (a b c n : ℕ)
    → (gathered_below (λ x. gathered_below (λ y. gathered_below (λ z. f x y z) c n) b n) a n).relations < 2 ^ 16
thrice_below f small a b c n =
    gathered_small (λ x. gathered_below (λ y. gathered_below (λ z. f x y z) c n) b n)
    (λ x. gathered_small (λ y. gathered_below (λ z. f x y z) c n) (λ y. gathered_small (λ z. f x y z) (λ z. small x y z) c n) b n)
    a n

pub found_below : (g : Grammar) (p : ℕ) (masks : List ℕ) → (found_by g p masks).relations < 2 ^ 16
found_below g p masks =
    thrice_below (λ x y z. outcome_of g p (choice x y z))
    (λ x y z. shifted_below 1 (relation_in (closed_below 16 (rows_of g p (choice x y z))) (g.inherited (g.symbol p)) (g.synthesized (g.symbol p))))
    (choices_at g p masks 0) (choices_at g p masks 1) (choices_at g p masks 2) 16
