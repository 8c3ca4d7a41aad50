-- Edits of a sheet replace a subtree: one child field that names another tree, or one node with another record and other children.
use Rattle.std.proofs.Common.{◌≡◌, ℕ, ◌<◌, ◌≤◌, ◌⊎◌, List, ◌++◌, length, sym, ◌∙◌, subst, inl, inr}
use Rattle.std.proofs.lemmas.Bool.Decides.{eqb_tells}
use Rattle.grammar.specs.Grammar.{Grammar}
use Rattle.grammar.specs.Tree.{Tree, node, hanging}
use Rattle.table.specs.declared.node.Node.{Node}
use Rattle.table.specs.Nodes.{at, child_field, Used}
use Rattle.table.specs.Sheets.{Sheet}
use Rattle.table.specs.Represents.{Represents, numbers, In, replace}
use Rattle.table.proofs.Reading.{in_order, never_none, used_child}
use Rattle.table.proofs.Places.{tree_induction, represented_at, in_place, at_place, root_used}
use Rattle.table.proofs.Frame.{Kept}
use Rattle.table.proofs.Under.{Under, itself, up, Depth, under_used, depth_of, none_both_ways, under_both_ways}
use Rattle.table.proofs.Members.{member_under}
use Rattle.table.proofs.Distinctness.{one_place}
use Rattle.table.proofs.Replaced.{around, redirect, Relinked, redirect_same, redirect_other, redirect_itself, around_here, around_there, around_in, replaced}

-- Node q is in use after, with the production and the literal that it had, and its child field k names m', while the other two name what they named.
pub record LinkChanged (ns ns' : List Node) (q k m' : ℕ) : Type 0 where
  pub used : Used ns' q
  pub production : (at ns' q).production ≡ (at ns q).production
  pub literal : (at ns' q).literal ≡ (at ns q).literal
  pub changed : child_field (at ns' q) k ≡ m'
  pub others : (j : ℕ) → j < 3 → (j ≡ k → ⊥) → child_field (at ns' q) j ≡ child_field (at ns q) j

module _ (g : Grammar) (ns : List Node) (sheet : Sheet g ns) (few : length ns ≤ 1000) where
  depth_at : (n : ℕ) → Used ns n → (d : ℕ) × Depth ns d n
  depth_at n u = depth_of (in_order sheet n u).climbs.1

  -- no node around m's subtree lies under m, where m does not lie above the tree
  pub around_apart : (m x : ℕ) → Under ns m x → (t : Tree) (n : ℕ) → (Under ns m n → m ≡ n) → Represents ns n t → In x (around m t) → ⊥
  around_apart m x w = tree_induction (λ t. (n : ℕ) → (Under ns m n → m ≡ n) → Represents ns n t → In x (around m t) → ⊥) (λ n above r i. i)
      (λ i p l a b c again n above r q. elim (eqb_tells i m) [
        | inl h ↦ subst (λ (xs : List ℕ). In x xs) (around_here m i p l a b c h.0) q
        | inr h ↦
            let cases : (x ≡ i) ⊎ In x (around m a ++ (around m b ++ around m c)) = subst (λ (xs : List ℕ). In x xs) (around_there m i p l a b c h.0) q in
            elim cases [
              | inl e ↦ h.1 (r.0 ∙ sym (above (subst (λ (j : ℕ). Under ns m j) (e ∙ r.0) w)))
              | inr j ↦
                  let at_k = in_place x (around m) i p l a b c j in
                  let there = represented_at ns n i p l a b c r at_k.0 at_k.1 in
                  let v = root_used ns (child_field (at ns n) at_k.0) x (hanging (node i p l a b c) at_k.0) there (around_in x m (hanging (node i p l a b c) at_k.0) at_k.2) in
                  again at_k.0 (child_field (at ns n) at_k.0) (λ z. lower n i m r.0 h.1 above r.1 at_k.0 at_k.1 v z) there at_k.2
            ]
      ])
    where
      lower : (n i m : ℕ) → i ≡ n → (i ≡ m → ⊥) → (Under ns m n → m ≡ n) → Used ns n → (k : ℕ) → k < 3 → Used ns (child_field (at ns n) k) → Under ns m (child_field (at ns n) k) → m ≡ child_field (at ns n) k
      lower n i m e other above u k h v (itself u' f) = sym f
      lower n i m e other above u k h v (up j u' f z) =
          absurd (other (e ∙ sym (above (subst (λ (y : ℕ). Under ns m y) (sym f ∙ (used_child sheet few n u k h v).1.parent) z))))

  -- a node of the tree that does not lie under m stands around m's subtree
  pub around_all : (m x : ℕ) → (Under ns m x → ⊥) → (t : Tree) (n : ℕ) → Represents ns n t → In x (numbers t) → In x (around m t)
  around_all m x out = tree_induction (λ t. (n : ℕ) → Represents ns n t → In x (numbers t) → In x (around m t)) (λ n r i. i)
      (λ i p l a b c again n r q. elim (eqb_tells i m) [
        | inl h ↦ absurd (out (subst (λ (j : ℕ). Under ns j x) (sym r.0 ∙ h.1) (member_under g ns sheet few x (node i p l a b c) n r q)))
        | inr h ↦ subst (λ (xs : List ℕ). In x xs) (sym (around_there m i p l a b c h.0)) (elim q [
          | inl e ↦ inl e
          | inr j ↦
              let at_k = in_place x numbers i p l a b c j in
              inr (at_place x (around m) i p l a b c at_k.0 at_k.1 (again at_k.0 (child_field (at ns n) at_k.0) (represented_at ns n i p l a b c r at_k.0 at_k.1) at_k.2))
        ])
      ])

  -- a number of a tree does not lie above it
  pub not_above : (m : ℕ) (t : Tree) (n : ℕ) → Represents ns n t → In m (numbers t) → Under ns m n → m ≡ n
  not_above m t n r i w = sym (under_both_ways ns few (depth_at n (root_used ns n m t r i)).1 (member_under g ns sheet few m t n r i) w)

  module _ (ns' : List Node) (t : Tree) (n : ℕ) (r : Represents ns n t) where
    -- Node m of the tree has the tree u after, and the nodes of the tree that do not lie under m are kept: then n has the tree with u in the place of m's subtree.
    pub node_replaced : (m : ℕ) (u : Tree) → In m (numbers t) → Represents ns' m u → ((x : ℕ) → In x (numbers t) → (Under ns m x → ⊥) → Kept ns ns' x) → Represents ns' n (replace m u t)
    node_replaced m u i new kept =
        subst (λ (j : ℕ). Represents ns' j (replace m u t)) (redirect_itself m n)
        (replaced ns ns' m m u (never_none ns few m (under_used (member_under g ns sheet few m t n r i))) new t n r
        (λ x q.
        let same : Kept ns ns' x = kept x (around_in x m t q) (λ w. around_apart m x w t n (not_above m t n r i) r q) in
        record { used = same.used; production = same.production; literal = same.literal; children = λ k h. same.children k h ∙ sym (redirect_itself m (child_field (at ns x) k)) }))

    -- Child field k of node q of the tree named m and names m' after, which has the tree u after, and the other nodes of the tree that do not lie under m are kept: then n has the tree with u in the place of m's subtree.
    pub link_replaced : (q k m m' : ℕ) (u : Tree) → In q (numbers t) → k < 3 → child_field (at ns q) k ≡ m → Used ns m → LinkChanged ns ns' q k m' → Represents ns' m' u → ((x : ℕ) → In x (numbers t) → (Under ns m x → ⊥) → (x ≡ q → ⊥) → Kept ns ns' x) → Represents ns' n (replace m u t)
    link_replaced q k m m' u i h e v link new kept =
        subst (λ (j : ℕ). Represents ns' j (replace m u t)) (redirect_other m m' n other_root) (replaced ns ns' m m' u (never_none ns few m v) new t n r relinked)
      where
        under_q : Under ns n q
        under_q = member_under g ns sheet few q t n r i

        used_q : Used ns q
        used_q = under_used under_q

        -- a field of a used node that names m belongs to m's parent
        names : (x : ℕ) → Used ns x → (j : ℕ) → j < 3 → child_field (at ns x) j ≡ m → (at ns m).parent ≡ x
        names x w j less f = subst (λ (y : ℕ). (at ns y).parent ≡ x) f (used_child sheet few x w j less (subst (λ (y : ℕ). Used ns y) (sym f) v)).1.parent

        parent : (at ns m).parent ≡ q
        parent = names q used_q k h e

        under_m : Under ns n m
        under_m = up q v parent under_q

        above : Under ns m n → m ≡ n
        above w = sym (under_both_ways ns few (depth_at n (root_used ns n q t r i)).1 under_m w)

        other_root : n ≡ m → ⊥
        other_root f = none_both_ways ns few (depth_at m v).1 (depth_at m v).1 q parent (subst (λ (y : ℕ). Under ns y q) f under_q)

        relinked : (x : ℕ) → In x (around m t) → Relinked ns ns' m m' x
        relinked x a = elim (eqb_tells x q) [
          | inl y ↦ subst (λ (z : ℕ). Relinked ns ns' m m' z) (sym y.1) (record { used = link.used; production = link.production; literal = link.literal; children = at_q })
          | inr y ↦
              let in_t : In x (numbers t) = around_in x m t a in
              let same : Kept ns ns' x = kept x in_t (λ w. around_apart m x w t n above r a) y.1 in
              let used_x : Used ns x = under_used (member_under g ns sheet few x t n r in_t) in
              record { used = same.used; production = same.production; literal = same.literal; children = λ j less. same.children j less ∙ sym (redirect_other m m' (child_field (at ns x) j) (λ f. y.1 (sym (names x used_x j less f) ∙ parent))) }
        ]
          where
            at_q : (j : ℕ) → j < 3 → child_field (at ns' q) j ≡ redirect m m' (child_field (at ns q) j)
            at_q j less = elim (eqb_tells j k) [
              | inl y ↦ subst (λ (z : ℕ). child_field (at ns' q) z ≡ redirect m m' (child_field (at ns q) z)) (sym y.1) (link.changed ∙ sym (redirect_same m m' (child_field (at ns q) k) e))
              | inr y ↦ link.others j less y.1 ∙ sym (redirect_other m m' (child_field (at ns q) j) (λ f. y.1 (one_place g ns sheet few q used_q j k less h (subst (λ (z : ℕ). Used ns z) (sym f) v) (f ∙ sym e))))
            ]
