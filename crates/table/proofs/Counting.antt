-- How often a number stands in a list: at exactly one place where the count is 1, and at none or at several where it is another.
use Rattle.std.proofs.Common.{◌≡◌, ℕ, zero, suc, ◌+◌, ◌<◌, ◌≤◌, ◌==◌, cond, List, [], ◌∷◌, length, get_or, take, count_by, Bool, true, false, MatchBool, refl, sym, ◌∙◌, inl, inr, subst, arith}
use Rattle.std.proofs.lemmas.Bool.{cases_eq, cases_order}
use Rattle.std.proofs.lemmas.Bool.Decides.{nat_tests}
use Rattle.std.proofs.lemmas.List.Recursion.{is_count_by}
use Rattle.std.proofs.lemmas.List.{get_or-take, length-take-le}
use Rattle.table.specs.declared.node.Node.{Node}
use Rattle.table.specs.Nodes.{child_field}
use Rattle.table.specs.Testing.{Once}
use Rattle.table.proofs.Answering.{by_equal}

module _ (n : ℕ) where
  abbrev pub times : List ℕ → ℕ
  times [] = 0
  times (x ∷ xs) = cond (x == n) (1 + times xs) (times xs)

  -- the number stands there
  abbrev pub At : List ℕ → ℕ → Type 0
  At xs k = (k < length xs) × (get_or xs k 0 ≡ n)

  pub present : (xs : List ℕ) (k : ℕ) → At xs k → 1 ≤ times xs
  present [] k h = absurd (omega (arith, h.0))
  present (x ∷ xs) zero h = grind (arith, nat_tests)
  present (x ∷ xs) (suc k) h = let r = present xs k (omega (arith, h.0), h.1) in grind (arith, nat_tests)

  pub twice : (xs : List ℕ) (j k : ℕ) → At xs j → At xs k → j < k → 2 ≤ times xs
  twice [] j k g h l = absurd (omega (arith, h.0))
  twice (x ∷ xs) j zero g h l = absurd (omega arith)
  twice (x ∷ xs) zero (suc k) g h l = let r = present xs k (omega (arith, h.0), h.1) in grind (arith, nat_tests)
  twice (x ∷ xs) (suc j) (suc k) g h l = let r = twice xs j k (omega (arith, g.0), g.1) (omega (arith, h.0), h.1) (omega arith) in grind (arith, nat_tests)

  -- a place where it stands; where it stands twice, a later one too
  pub found : (xs : List ℕ) → 1 ≤ times xs → (k : ℕ) × At xs k
  found [] h = absurd (omega arith)
  found (x ∷ xs) h = elim (cases_eq x n) [
    | inl e ↦ (0, (omega arith, e))
    | inr e ↦ let (k, (l, s)) = found xs (grind (arith, nat_tests)) in (suc k, (omega arith, s))
  ]

  pub found_twice : (xs : List ℕ) → 2 ≤ times xs → (j k : ℕ) × At xs j × At xs k × (j < k)
  found_twice [] h = absurd (omega arith)
  found_twice (x ∷ xs) h = elim (cases_eq x n) [
    | inl e ↦ let (k, (l, s)) = found xs (grind (arith, nat_tests)) in (0, suc k, (omega arith, e), (omega arith, s), omega arith)
    | inr e ↦ let (j, k, (g, s), (h', t), l) = found_twice xs (grind (arith, nat_tests)) in (suc j, suc k, (omega arith, s), (omega arith, t), omega arith)
  ]

  -- at one place and no other
  abbrev pub OnceIn : List ℕ → Type 0
  OnceIn xs = (place : ℕ) × At xs place × ((k : ℕ) → At xs k → k ≡ place)

  same_place : (xs : List ℕ) → times xs ≡ 1 → (j k : ℕ) → At xs j → At xs k → j ≡ k
  same_place xs e j k g h = elim (cases_order j k) [
    | inl same ↦ same
    | inr (inl l) ↦ absurd (let r = twice xs j k g h l in omega arith)
    | inr (inr l) ↦ absurd (let r = twice xs k j h g l in omega arith)
  ]

  pub once_by_count : (xs : List ℕ) → MatchBool (times xs == 1) (OnceIn xs) (OnceIn xs → ⊥)
  once_by_count xs =
      by_equal (times xs) 1
      (λ e. let (place, at_place) = found xs (omega arith) in (place, at_place, λ k h. same_place xs e k place h at_place))
      (λ ne (place, at_place, alone).
      let r = present xs place at_place in
      let (j, k, g, h, l) = found_twice xs (omega arith) in
      let e = alone j g in
      let e' = alone k h in
      omega arith)

-- of the first child places exactly one names node n, where the count of those that do is 1
pub once_among : (nd : Node) (count n : ℕ) → count ≤ length nd.children → MatchBool (count_by (λ x. x == n) (take count nd.children) == 1) (Once nd count n) (Once nd count n → ⊥)
once_among nd count n few =
    subst (λ times. MatchBool (times == 1) (Once nd count n) (Once nd count n → ⊥)) (is_count_by (times n) (λ x. x == n) refl (λ x xs. refl) some)
    (changed (times n some == 1) (once_by_count n some)
    (λ (place, h, alone). record { place = place; inside = (there place h).0; named = (there place h).1; alone = λ k l e. alone k (here k l e) })
    (λ once. (once.place, here once.place once.inside once.named, λ k h. once.alone k (there k h).0 (there k h).1)))
  where
    some : List ℕ
    some = take count nd.children

    there : (k : ℕ) → At n some k → (k < count) × (child_field nd k ≡ n)
    there k h = let l : k < count = omega (arith, h.0, length-take-le count nd.children few) in (l, sym (get_or-take count nd.children k 0 l) ∙ h.1)

    here : (k : ℕ) → k < count → child_field nd k ≡ n → At n some k
    here k l e = (omega (arith, length-take-le count nd.children few), get_or-take count nd.children k 0 l ∙ e)

    changed : (b : Bool) {P Q : Type 0} → MatchBool b P (P → ⊥) → (P → Q) → (Q → P) → MatchBool b Q (Q → ⊥)
    changed true p to back = to p
    changed false p to back = λ q. p (back q)
