-- Every used node of a sheet has a tree under it: depths are bounded, and each step down goes one deeper.
use Rattle.std.proofs.Common.{◌≡◌, ℕ, zero, suc, ◌+◌, ◌<◌, ◌≤◌, Bool, true, false, List, length, refl, subst, inl, inr, arith}
use Rattle.std.proofs.lemmas.Bool.{cases_lt, both_ways}
use Rattle.grammar.specs.Grammar.{Grammar}
use Rattle.grammar.specs.Tree.{Tree, none, node}
use Rattle.table.specs.declared.node.Node.{Node}
use Rattle.table.specs.Nodes.{at, child_field, Used}
use Rattle.table.specs.Sheets.{Sheet}
use Rattle.table.specs.Represents.{Represents}
use Rattle.table.proofs.Reading.{in_order, child_or_none}
use Rattle.table.proofs.Under.{Depth, one_more, depth_of, depth_once}

module _ (g : Grammar) (ns : List Node) (sheet : Sheet g ns) (few : length ns ≤ 1000) where
  -- no used node below k is deeper than the bound
  abbrev pub Bounded : ℕ → ℕ → Type 0
  Bounded k bound = (n : ℕ) → n < k → Used ns n → (d : ℕ) → Depth ns d n → d ≤ bound

  depth_at : (n : ℕ) → n < length ns → (bound : ℕ) × (Used ns n → (d : ℕ) → Depth ns d n → d ≤ bound)
  depth_at n h = go (at ns n).used refl
    where
      go : (b : Bool) → (at ns n).used ≡ b → (bound : ℕ) × (Used ns n → (d : ℕ) → Depth ns d n → d ≤ bound)
      go true e = let here = depth_of (in_order sheet n (h, e)).climbs.1 in (here.0, λ u d w. omega (arith, depth_once ns few w here.1))
      go false e = (0, λ u d w. absurd (both_ways (at ns n).used e u.1))

  bound_below : (k : ℕ) → k ≤ length ns → (bound : ℕ) × Bounded k bound
  bound_below zero h = (0, λ n l u d w. absurd (omega arith))
  bound_below (suc k) h =
      let before = bound_below k (omega arith) in
      let last = depth_at k (omega arith) in (
        before.0 + last.0,
        λ n l u d w. elim (cases_lt n k) [
          | inl q ↦ omega (arith, before.1 n q u d w)
          | inr q ↦ let e : n ≡ k = omega arith in omega (arith, last.1 (subst (λ (i : ℕ). Used ns i) e u) d (subst (λ (i : ℕ). Depth ns d i) e w))
        ],
      )

  grown : (bound : ℕ) → Bounded (length ns) bound → (steps n d : ℕ) → Used ns n → Depth ns d n → bound < d + steps → (t : Tree) × Represents ns n t
  grown bound within zero n d u w h = absurd (omega (arith, within n u.0 u d w))
  grown bound within (suc steps) n d u w h =
      let again : (m : ℕ) → Used ns m → Depth ns (suc d) m → (t : Tree) × Represents ns m t = λ m v e. grown bound within steps m (suc d) v e (omega arith) in
      let a = at_place again 0 (omega arith) in
      let b = at_place again 1 (omega arith) in
      let c = at_place again 2 (omega arith) in
      (node n (at ns n).production (at ns n).literal a.0 b.0 c.0, (refl, u, refl, refl, a.1, b.1, c.1))
    where
      at_place : ((m : ℕ) → Used ns m → Depth ns (suc d) m → (t : Tree) × Represents ns m t) → (k : ℕ) → k < 3 → (t : Tree) × Represents ns (child_field (at ns n) k) t
      at_place again k l = elim (child_or_none sheet n u k l) [
        | inl x ↦ again (child_field (at ns n) k) x.1.used (one_more d n u x.1.parent w refl)
        | inr x ↦ (none, x.1)
      ]

  -- every used node has a tree under it
  pub represented : (n : ℕ) → Used ns n → (t : Tree) × Represents ns n t
  represented n u =
      let all = bound_below (length ns) (omega arith) in
      let here = depth_of (in_order sheet n u).climbs.1 in
      grown all.0 all.1 (suc all.0) n here.0 u here.1 (omega arith)
