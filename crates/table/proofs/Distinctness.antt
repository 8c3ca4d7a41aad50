-- No number stands twice in the tree under a node.
use Rattle.std.proofs.Common.{◌≡◌, ℕ, suc, ◌<◌, ◌≤◌, List, ◌++◌, length, ℤ, sym, refl, ◌∙◌, subst, inl, inr, arith}
use Rattle.grammar.specs.Grammar.{Grammar}
use Rattle.grammar.specs.Tree.{Tree, node, hanging}
use Rattle.table.specs.declared.node.Node.{Node}
use Rattle.table.specs.Nodes.{at, child_field, Used}
use Rattle.table.specs.Sheets.{Sheet, Hangs, root, clipping, OneChildOf, ChildAt}
use Rattle.table.specs.Represents.{Represents, numbers, In, Distinct}
use Rattle.table.proofs.Reading.{in_order, never_none, used_child}
use Rattle.table.proofs.Places.{tree_induction, represented_at, in_place, in_either, root_used, distinct_joined}
use Rattle.table.proofs.Under.{Under, Depth, one_more, depth_of, under_deeper, depth_once, same_depth_apart}
use Rattle.table.proofs.Members.{member_under}

module _ (g : Grammar) (ns : List Node) (sheet : Sheet g ns) (few : length ns ≤ 1000) where
  -- one child stands at one place
  pub one_place : (n : ℕ) → Used ns n → (j k : ℕ) → j < 3 → k < 3 → Used ns (child_field (at ns n) j) → child_field (at ns n) j ≡ child_field (at ns n) k → j ≡ k
  one_place n u j k h h' v e = go (in_order sheet (child_field (at ns n) j) v).hangs
    where
      first : (j < length (g.children (at ns n).production)) × ChildAt g ns n j
      first = used_child sheet few n u j h v

      second : (k < length (g.children (at ns n).production)) × ChildAt g ns n k
      second = used_child sheet few n u k h' (subst (λ (i : ℕ). Used ns i) e v)

      go : Hangs g ns (child_field (at ns n) j) → j ≡ k
      go (root z w) = absurd (never_none ns few n u (sym first.1.parent ∙ w))
      go (clipping z w q) = absurd (never_none ns few n u (sym first.1.parent ∙ w))
      go (Hangs.below z w o) =
          let o' : OneChildOf g ns n (child_field (at ns n) j) = subst (λ (i : ℕ). OneChildOf g ns i (child_field (at ns n) j)) first.1.parent o in
          o'.alone j first.0 refl ∙ sym (o'.alone k second.0 (sym e))

  pub distinct : (t : Tree) (n : ℕ) → Represents ns n t → Distinct (numbers t)
  distinct = tree_induction (λ t. (n : ℕ) → Represents ns n t → Distinct (numbers t)) (λ n r. tt)
      (λ m p l a b c again n r. at_node m p l a b c n r (λ k h. again k (child_field (at ns n) k) (represented_at ns n m p l a b c r k h)))
    where
      at_node : (m p : ℕ) (l : ℤ) (a b c : Tree) (n : ℕ) → Represents ns n (node m p l a b c) → ((k : ℕ) → k < 3 → Distinct (numbers (hanging (node m p l a b c) k))) → Distinct (numbers (node m p l a b c))
      at_node m p l a b c n r each = (new, distinct_joined (numbers a) (numbers b ++ numbers c) (each 0 (omega arith)) (distinct_joined (numbers b) (numbers c) (each 1 (omega arith)) (each 2 (omega arith)) (apart_at 1 2 (omega arith) (omega arith) (omega arith))) (λ x i j. elim (in_either x (numbers b) (numbers c) j) [ inl q ↦ apart_at 0 1 (omega arith) (omega arith) (omega arith) x i q | inr q ↦ apart_at 0 2 (omega arith) (omega arith) (omega arith) x i q ]))
        where
          here : (d : ℕ) × Depth ns d n
          here = depth_of (in_order sheet n r.1).climbs.1

          subtree : ℕ → Tree
          subtree k = hanging (node m p l a b c) k

          there : (k : ℕ) → k < 3 → Represents ns (child_field (at ns n) k) (subtree k)
          there = represented_at ns n m p l a b c r

          used : (k : ℕ) → k < 3 → (x : ℕ) → In x (numbers (subtree k)) → Used ns (child_field (at ns n) k)
          used k h x i = root_used ns (child_field (at ns n) k) x (subtree k) (there k h) i

          depth : (k : ℕ) → k < 3 → (x : ℕ) → In x (numbers (subtree k)) → Depth ns (suc here.0) (child_field (at ns n) k)
          depth k h x i = one_more here.0 n r.1 (used_child sheet few n r.1 k h (used k h x i)).1.parent here.1 refl

          lies : (k : ℕ) → k < 3 → (x : ℕ) → In x (numbers (subtree k)) → Under ns (child_field (at ns n) k) x
          lies k h x i = member_under g ns sheet few x (subtree k) (child_field (at ns n) k) (there k h) i

          new : In m (numbers a ++ (numbers b ++ numbers c)) → ⊥
          new i =
              let at_k = in_place m numbers m p l a b c i in
              let low = under_deeper ns few (depth at_k.0 at_k.1 m at_k.2) (lies at_k.0 at_k.1 m at_k.2) in
              omega (arith, low.1, depth_once ns few here.1 (subst (λ (j : ℕ). Depth ns low.0 j) r.0 low.2))

          apart_at : (j k : ℕ) → j < 3 → k < 3 → j < k → (x : ℕ) → In x (numbers (subtree j)) → In x (numbers (subtree k)) → ⊥
          apart_at j k h h' less x i i' =
              let same : child_field (at ns n) j ≡ child_field (at ns n) k = same_depth_apart ns few (depth j h x i) (depth k h' x i') (lies j h x i) (lies k h' x i') in
              omega (arith, one_place n r.1 j k h h' (used j h x i) same)
