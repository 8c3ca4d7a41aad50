-- The number of different relations of a symbol's trees is one number, and so is their sum over all symbols.
use Rattle.std.proofs.Common.{◌≡◌, ℕ, zero, suc, ◌<◌, ◌≤◌, ◌≢◌, ◌⊎◌, get_or, sym, refl, ◌∙◌, inl, inr, arith}
use native.Mathlib.Decide.{ℕ_discrete}
use Rattle.grammar.specs.Grammar.{Grammar}
use Rattle.grammar.specs.Tree.{Tree, none}
use Rattle.grammar.specs.Circularity.{SameRelation, Relations, RelationCount, sum_below}

-- M without the number at k, of numbers up to m: the last one takes its place.
abbrev pub Without : (ℕ → ℕ → Type 0) → ℕ → ℕ → ℕ → ℕ → Type 0
Without M k m i j = ((j ≢ k) × M i j) ⊎ ((j ≡ k) × M i m)

-- M matches each number up to n with one up to m, no two with the same, and n with k: then the numbers below n are matched without k.
module _ (n m k : ℕ) (M : ℕ → ℕ → Type 0) (within : k < suc m) (last : M n k) (apart : (i j u : ℕ) → i < j → j < suc n → M i u → M j u → ⊥) (match : (i : ℕ) → i < suc n → (u : ℕ) × (u < suc m) × M i u) where
  pub apart_without : (i j u : ℕ) → i < j → j < n → Without M k m i u → Without M k m j u → ⊥
  apart_without i j u lt lt' (inl x) (inl y) = apart i j u lt (omega arith) x.1 y.1
  apart_without i j u lt lt' (inl x) (inr y) = x.0 y.0
  apart_without i j u lt lt' (inr x) (inl y) = y.0 x.0
  apart_without i j u lt lt' (inr x) (inr y) = apart i j m lt (omega arith) x.1 y.1

  pub match_found : (i u : ℕ) → i < n → u < suc m → M i u → Dec (u ≡ k) → Dec (u ≡ m) → (v : ℕ) × (v < m) × Without M k m i v
  match_found i u lt lt' r (yes e) d = absurd (apart i n k lt (omega arith) (rw e at r) last)
  match_found i u lt lt' r (no ne) (yes e) = (k, omega arith, inr (refl, rw e at r))
  match_found i u lt lt' r (no ne) (no ne') = (u, omega arith, inl (ne, r))

  pub match_without : (i : ℕ) → i < n → (v : ℕ) × (v < m) × Without M k m i v
  match_without i lt = let (u, lt', r) = match i (omega arith) in match_found i u lt lt' r (ℕ_discrete u k) (ℕ_discrete u m)

-- If each number below n has a match below m, and no two have the same, then n is at most m.
pub pigeonhole : (n m : ℕ) (M : ℕ → ℕ → Type 0) → ((i j u : ℕ) → i < j → j < n → M i u → M j u → ⊥) → ((i : ℕ) → i < n → (u : ℕ) × (u < m) × M i u) → n ≤ m
pigeonhole zero m M apart match = omega arith
pigeonhole (suc n) zero M apart match = let (u, lt, r) = match n (omega arith) in absurd (omega arith)
pigeonhole (suc n) (suc m) M apart match =
    let (k, within, last) = match n (omega arith) in
    let h : n ≤ m = pigeonhole n m (Without M k m) (apart_without n m k M within last apart match) (match_without n m k M within last apart match) in
    omega arith

module _ (g : Grammar) (s : ℕ) where
  pub same_sym : (t u : Tree) → SameRelation g s t u → SameRelation g s u t
  same_sym t u h i a inherited synthesized exists = let (there, back) = h i a inherited synthesized exists in (back, there)

  pub same_trans : (t u v : Tree) → SameRelation g s t u → SameRelation g s u v → SameRelation g s t v
  same_trans t u v h h' i a inherited synthesized exists =
      let (there, back) = h i a inherited synthesized exists in
      let (there', back') = h' i a inherited synthesized exists in
      (λ r. there' (there r), λ r. back (back' r))

  pub relations_at_most : (n m : ℕ) → Relations g s n → Relations g s m → n ≤ m
  relations_at_most n m r q =
      let t : ℕ → Tree = λ i. get_or r.trees i none in
      let u : ℕ → Tree = λ i. get_or q.trees i none in
      pigeonhole n m (λ i k. SameRelation g s (t i) (u k))
      (λ i j k lt lt' x y. r.different i j lt lt' (same_trans (t i) (u k) (t j) x (same_sym (t j) (u k) y)))
      (λ i lt. q.every (t i) (r.of_symbol i lt))

pub relations_unique : (g : Grammar) (s n m : ℕ) → Relations g s n → Relations g s m → n ≡ m
relations_unique g s n m r q = omega (arith, relations_at_most g s n m r q, relations_at_most g s m n q r)

-- equal summands have equal sums
pub sum_below_same : (f h : ℕ → ℕ) (n : ℕ) → ((s : ℕ) → s < n → f s ≡ h s) → sum_below f n ≡ sum_below h n
sum_below_same f h zero same = refl
sum_below_same f h (suc n) same = omega (arith, sum_below_same f h n (λ s lt. same s (omega arith)), same n (omega arith))

pub count_unique : (g : Grammar) (n m : ℕ) → RelationCount g n → RelationCount g m → n ≡ m
count_unique g n m c d =
    c.total_is ∙ sum_below_same c.of d.of g.symbols (λ s lt. relations_unique g s (c.of s) (d.of s) (c.relations s lt) (d.relations s lt)) ∙ sym d.total_is
