-- The numbers of the tree under a node are exactly the nodes that lie under it.
use Rattle.std.proofs.Common.{◌≡◌, ℕ, ◌<◌, ◌≤◌, List, length, sym, refl, ◌∙◌, subst, inl, inr, arith}
use Rattle.grammar.specs.Grammar.{Grammar}
use Rattle.grammar.specs.Limits.{Limits}
use Rattle.grammar.specs.Text.{Segment}
use Rattle.grammar.specs.Tree.{Tree, node, hanging}
use Rattle.table.specs.declared.node.Node.{Node}
use Rattle.table.specs.Nodes.{at, child_field, Used}
use Rattle.table.specs.Nodes
use Rattle.table.specs.Climbing.{Climb}
use Rattle.table.specs.Sheets.{Sheet, Hangs, root, clipping, OneChildOf}
use Rattle.table.specs.Represents.{Represents, numbers, In}
use Rattle.table.proofs.Reading.{in_order, never_none, used_child}
use Rattle.table.proofs.Places.{tree_induction, represented_at, in_place, at_place, root_in, root_used}
use Rattle.table.proofs.Under.{Under, itself, up, under_used, under_trans, climb_under, under_climb}

-- no production has more than three children, as every language's limits say
abbrev pub AtMostThree : Grammar → Type 0
AtMostThree g = (p : ℕ) → p < g.productions → length (g.children p) ≤ 3

pub at_most_three : (g : Grammar) (text : ℕ → List Segment) → Limits g text → AtMostThree g
at_most_three g text limits p h = (limits.each p h).few_children

module _ (g : Grammar) (ns : List Node) (sheet : Sheet g ns) (few : length ns ≤ 1000) where
  -- a child field that names a used node names a node under this one
  pub child_under : (n : ℕ) → Used ns n → (k : ℕ) → k < 3 → Used ns (child_field (at ns n) k) → Under ns n (child_field (at ns n) k)
  child_under n u k h v = up n v (used_child sheet few n u k h v).1.parent (itself u refl)

  pub member_under : (x : ℕ) (t : Tree) (n : ℕ) → Represents ns n t → In x (numbers t) → Under ns n x
  member_under x = tree_induction (λ t. (n : ℕ) → Represents ns n t → In x (numbers t) → Under ns n x) (λ n r i. absurd i)
      (λ m p l a b c again n r i. elim i [
        | inl e ↦ subst (λ (j : ℕ). Under ns n j) (sym r.0 ∙ sym e) (itself r.1 refl)
        | inr j ↦
            let at_k = in_place x numbers m p l a b c j in
            let there = represented_at ns n m p l a b c r at_k.0 at_k.1 in
            let used = root_used ns (child_field (at ns n) at_k.0) x (hanging (node m p l a b c) at_k.0) there at_k.2 in
            under_trans (child_under n r.1 at_k.0 at_k.1 used) (again at_k.0 (child_field (at ns n) at_k.0) there at_k.2)
      ])

  module _ (three : AtMostThree g) where
    -- a used node whose parent is in use is a child of it, at one of the three places
    pub place_of : (x k : ℕ) → Used ns x → (at ns x).parent ≡ k → Used ns k → (j : ℕ) × (j < 3) × (child_field (at ns k) j ≡ x)
    place_of x k u e v = go (in_order sheet x u).hangs
      where
        go : Hangs g ns x → (j : ℕ) × (j < 3) × (child_field (at ns k) j ≡ x)
        go (root z w) = absurd (never_none ns few k v (sym e ∙ w))
        go (clipping z w h) = absurd (never_none ns few k v (sym e ∙ w))
        go (Hangs.below z w o) =
            let o' : OneChildOf g ns k x = subst (λ (i : ℕ). OneChildOf g ns i x) e o in
            (o'.place, omega (arith, o'.inside, three (at ns k).production (in_order sheet k v).production_exists), o'.named)

    -- with a node, its children are among the numbers of a tree
    pub child_in : (x k : ℕ) → Used ns x → (at ns x).parent ≡ k → Used ns k → (t : Tree) (n : ℕ) → Represents ns n t → In k (numbers t) → In x (numbers t)
    child_in x k u e v = tree_induction (λ t. (n : ℕ) → Represents ns n t → In k (numbers t) → In x (numbers t)) (λ n r i. i)
        (λ m p l a b c again n r i. elim i [
          | inl q ↦
              let place = place_of x k u e v in
              let there : Represents ns x (hanging (node m p l a b c) place.0) = subst (λ (j : ℕ). Represents ns j (hanging (node m p l a b c) place.0)) (subst (λ (j : ℕ). child_field (at ns j) place.0 ≡ x) (q ∙ r.0) place.2) (represented_at ns n m p l a b c r place.0 place.1) in
              inr (at_place x numbers m p l a b c place.0 place.1 (root_in ns x (hanging (node m p l a b c) place.0) (never_none ns few x u) there))
          | inr j ↦
              let at_k = in_place k numbers m p l a b c j in
              inr (at_place x numbers m p l a b c at_k.0 at_k.1 (again at_k.0 (child_field (at ns n) at_k.0) (represented_at ns n m p l a b c r at_k.0 at_k.1) at_k.2))
        ])

    pub under_member : (t : Tree) (n : ℕ) → Represents ns n t → {x : ℕ} → Under ns n x → In x (numbers t)
    under_member t n r {x} (itself u e) = subst (λ (i : ℕ). In i (numbers t)) (sym e) (root_in ns n t (never_none ns few n (subst (λ (i : ℕ). Used ns i) e u)) r)
    under_member t n r {x} (up k u e w) = child_in x k u e (under_used w) t n r (under_member t n r w)

    -- the tree under a node has exactly the nodes under it
    pub members_under : (t : Tree) (n : ℕ) → Represents ns n t → (x : ℕ) → (In x (numbers t) → Under ns n x) × (Under ns n x → In x (numbers t))
    members_under t n r x = (member_under x t n r, under_member t n r)

    -- the tree under a node without parent has exactly the nodes whose climb ends there
    pub members : (t : Tree) (n : ℕ) → Represents ns n t → (at ns n).parent ≡ Nodes.none → (x : ℕ) → (In x (numbers t) → Climb ns n x) × (Climb ns n x → In x (numbers t))
    members t n r e x = (λ i. under_climb e (member_under x t n r i), λ c. under_member t n r (climb_under c))
