-- The set bits of a number as a list that rises: it has as many places as the number has ones, and it has each set bit.
use Rattle.std.proofs.Common.{◌≡◌, ℕ, zero, suc, ◌+◌, ◌*◌, ◌/◌, ◌%◌, ◌^◌, ◌<◌, ◌≤◌, Bool, true, false, T, eqb, ◌⊎◌, List, [], ◌∷◌, ◌++◌, length, get_or, sym, refl, ap, ◌∙◌, subst, ap₂, inl, inr, mod-lt, mod-eq_of_lt, add_comm, arith, lit<, length-append, pow_pos}
use native.Mathlib.Nat.{mod-one}
use lib.Count.{ones, ones_in, ones_cat}
use lib.Pow.{mod-pow-add}
use Rattle.std.proofs.lemmas.List.{get_or_append_left, get_or_push}
use Rattle.std.proofs.lemmas.Bool.{cases_lt}
use Rattle.circularity.specs.Bits.{has}

-- n alone where the test passes
abbrev pub only : Bool → ℕ → List ℕ
only true n = n ∷ []
only false n = []

-- the bits below n that are set in c, in rising order
abbrev pub members : ℕ → ℕ → List ℕ
members zero c = []
members (suc n) c = members n c ++ only (has c n) n

-- ---- how many

digit_count : (d n : ℕ) → d < 2 → length (only (eqb d 1) n) ≡ ones d
unfolding ones ones_in
digit_count zero n l = refl
digit_count (suc zero) n l = refl
digit_count (suc (suc d)) n l = absurd (omega arith)

count_low : (n c : ℕ) → length (members n c) ≡ ones (c % 2 ^ n)
count_low zero c = digit_count 0 0 (lit< tt) ∙ sym (ap ones (mod-one c))
count_low (suc n) c =
    let d = c / 2 ^ n % 2 in
    let e : 1 + n ≡ suc n = omega arith in
    let split : c % 2 ^ suc n ≡ d * 2 ^ n + c % 2 ^ n = ap (λ (x : ℕ). c % 2 ^ x) (sym e) ∙ mod-pow-add c 1 n in
    length-append (members n c) (only (has c n) n)
    ∙ ap₂ ◌+◌ (count_low n c) (digit_count d n (mod-lt (c / 2 ^ n) (lit< tt)))
    ∙ add_comm (ones (c % 2 ^ n)) (ones d)
    ∙ sym (ap ones split ∙ ones_cat n d (c % 2 ^ n) (mod-lt c (pow_pos n)))

pub members_count : (n c : ℕ) → c < 2 ^ n → length (members n c) ≡ ones c
members_count n c l = count_low n c ∙ ap ones (mod-eq_of_lt l)

-- ---- which

-- a place of the longer list is one of the list before, or the new one
places : (b : Bool) (xs : List ℕ) (n k : ℕ) → k < length (xs ++ only b n)
    → ((k < length xs) × (get_or (xs ++ only b n) k 0 ≡ get_or xs k 0)) ⊎ (T b × (get_or (xs ++ only b n) k 0 ≡ n) × (length xs ≡ k))
places b xs n k l =
    elim (cases_lt k (length xs)) [
      | inl h ↦ inl (h, get_or_append_left xs (only b n) 0 k h)
      | inr h ↦ inr (past b l h)
    ]
  where
    past : (b : Bool) → k < length (xs ++ only b n) → length xs ≤ k → T b × (get_or (xs ++ only b n) k 0 ≡ n) × (length xs ≡ k)
    past true l h = let e : length xs ≡ k = omega (arith, length-append xs (n ∷ [])) in (tt, get_or_push xs n 0 k e, e)
    past false l h = absurd (omega (arith, length-append xs []))

pub members_has : (n c k : ℕ) → k < length (members n c) → T (has c (get_or (members n c) k 0)) × (get_or (members n c) k 0 < n)
members_has zero c k l = absurd (omega arith)
members_has (suc n) c k l =
    elim (places (has c n) (members n c) n k l) [
      | inl p ↦
          (let before = members_has n c k p.0 in
          (subst (λ (x : ℕ). T (has c x)) (sym p.1) before.0, omega (arith, p.1, before.1)))
      | inr p ↦ (subst (λ (x : ℕ). T (has c x)) (sym p.1) p.0, omega (arith, p.1))
    ]

pub members_rise : (n c j k : ℕ) → j < k → k < length (members n c) → get_or (members n c) j 0 < get_or (members n c) k 0
members_rise zero c j k l h = absurd (omega arith)
members_rise (suc n) c j k l h =
    elim (places (has c n) (members n c) n k h) [
      | inl p ↦ omega (arith, p.1, get_or_append_left (members n c) (only (has c n) n) 0 j (omega (arith, p.0)), members_rise n c j k l p.0)
      | inr p ↦
          (let before : j < length (members n c) = omega (arith, p.2) in
          omega (arith, p.1, get_or_append_left (members n c) (only (has c n) n) 0 j before, (members_has n c j before).1))
    ]

-- the new one has its place
last_place : (b : Bool) (xs : List ℕ) (n : ℕ) → T b → (k : ℕ) × (k < length (xs ++ only b n)) × (get_or (xs ++ only b n) k 0 ≡ n)
last_place true xs n t = (length xs, omega (arith, length-append xs (n ∷ [])), get_or_push xs n 0 (length xs) refl)
last_place false xs n t = elim t [ ]

pub members_all : (n c x : ℕ) → x < n → T (has c x) → (k : ℕ) × (k < length (members n c)) × (get_or (members n c) k 0 ≡ x)
members_all zero c x l t = absurd (omega arith)
members_all (suc n) c x l t =
    elim (cases_lt x n) [
      | inl h ↦
          (let before = members_all n c x h t in (
            before.0,
            omega (arith, length-append (members n c) (only (has c n) n), before.1),
            get_or_append_left (members n c) (only (has c n) n) 0 before.0 before.1 ∙ before.2,
          ))
      | inr h ↦
          (let e : n ≡ x = omega arith in
          let last = last_place (has c n) (members n c) n (subst (λ (y : ℕ). T (has c y)) (sym e) t) in
          (last.0, last.1, last.2 ∙ e))
    ]
