-- Two tables that say the same at a tree's nodes have the same tree there.
use Rattle.std.proofs.Common.{◌≡◌, ℕ, ◌<◌, List, sym, ◌∙◌, subst, inl, inr, arith}
use Rattle.grammar.specs.Tree.{Tree, node, hanging}
use Rattle.table.specs.declared.node.Node.{Node}
use Rattle.table.specs.Nodes.{at, child_field, Used}
use Rattle.table.specs.Represents.{Represents, numbers, In}
use Rattle.table.proofs.Places.{tree_induction, represented_at, at_place}

-- Node m is in use after, with the production, the literal and the children that it had. Its parent may be another.
pub record Kept (ns ns' : List Node) (m : ℕ) : Type 0 where
  pub used : Used ns' m
  pub production : (at ns' m).production ≡ (at ns m).production
  pub literal : (at ns' m).literal ≡ (at ns m).literal
  pub children : (k : ℕ) → k < 3 → child_field (at ns' m) k ≡ child_field (at ns m) k

-- a node whose record is the same is kept
pub same_record_kept : (ns ns' : List Node) (m : ℕ) → at ns m ≡ at ns' m → Used ns' m → Kept ns ns' m
same_record_kept ns ns' m e u = record { used = u; production = rw e; literal = rw e; children = λ k h. rw e }

-- the tree under a node stays where each of its nodes is kept
pub framed : (ns ns' : List Node) (t : Tree) (n : ℕ) → Represents ns n t → ((m : ℕ) → In m (numbers t) → Kept ns ns' m) → Represents ns' n t
framed ns ns' = tree_induction (λ t. (n : ℕ) → Represents ns n t → ((m : ℕ) → In m (numbers t) → Kept ns ns' m) → Represents ns' n t) (λ n r kept. r)
    (λ m p l a b c again n r kept.
    let here : Kept ns ns' n = kept n (inl (sym r.0)) in
    let place : (k : ℕ) → k < 3 → Represents ns' (child_field (at ns' n) k) (hanging (node m p l a b c) k) =
    λ k h. subst (λ (i : ℕ). Represents ns' i (hanging (node m p l a b c) k)) (sym (here.children k h)) (again k (child_field (at ns n) k) (represented_at ns n m p l a b c r k h) (λ x i. kept x (inr (at_place x numbers m p l a b c k h i)))) in
    (r.0, here.used, here.production ∙ r.2, here.literal ∙ r.3, place 0 (omega arith), place 1 (omega arith), place 2 (omega arith)))
