-- The tree under a node is one, and is a tree of the node's symbol.
use Rattle.std.proofs.Common.{◌≡◌, ℕ, ◌<◌, ◌≤◌, List, length, sym, refl, subst, inl, inr, arith}
use Rattle.grammar.specs.Grammar.{Grammar, child}
use Rattle.grammar.specs.Tree.{Tree, none, node, TreeOf}
use Rattle.table.specs.declared.node.Node.{Node}
use Rattle.table.specs.Nodes.{at, child_field, Used}
use Rattle.table.specs.Nodes
use Rattle.table.specs.Sheets.{Sheet}
use Rattle.table.specs.Represents.{Represents}
use Rattle.table.proofs.Reading.{in_order, never_none, child_or_none}

-- under a node stands one tree
pub represented_once : (ns : List Node) → length ns ≤ 1000 → (n : ℕ) (t u : Tree) → Represents ns n t → Represents ns n u → t ≡ u
represented_once ns few n none none r s = refl
represented_once ns few n none (node m p l a b c) r s = absurd (never_none ns few n s.1 r)
represented_once ns few n (node m p l a b c) none r s = absurd (never_none ns few n r.1 s)
represented_once ns few n (node m p l a b c) (node m' p' l' a' b' c') r s =
    let first : a ≡ a' = represented_once ns few (child_field (at ns n) 0) a a' r.4 s.4 in
    let second : b ≡ b' = represented_once ns few (child_field (at ns n) 1) b b' r.5 s.5 in
    let third : c ≡ c' = represented_once ns few (child_field (at ns n) 2) c c' r.6 s.6 in
    cc (r.0, r.2, r.3, s.0, s.2, s.3)

-- where no node is, there is no tree
pub nothing_there : (ns : List Node) → length ns ≤ 1000 → (n : ℕ) (t : Tree) → n ≡ Nodes.none → Represents ns n t → t ≡ none
nothing_there ns few n t e r = represented_once ns few n t none r e

-- the tree under a used node is a tree of its symbol
pub well_formed : {g : Grammar} {ns : List Node} → Sheet g ns → length ns ≤ 1000 → (n : ℕ) (t : Tree) → Used ns n → Represents ns n t → TreeOf g (g.symbol (at ns n).production) t
well_formed {g} {ns} sheet few n none u r = absurd (never_none ns few n u r)
well_formed {g} {ns} sheet few n (node m p l a b c) u r =
    (rw (← r.2) (in_order sheet n u).production_exists, rw r.2 refl, below 0 (omega arith) a (well_formed sheet few (child_field (at ns n) 0) a) r.4, below 1 (omega arith) b (well_formed sheet few (child_field (at ns n) 1) b) r.5, below 2 (omega arith) c (well_formed sheet few (child_field (at ns n) 2) c) r.6)
  where
    below : (k : ℕ) → k < 3 → (s : Tree) → (Used ns (child_field (at ns n) k) → Represents ns (child_field (at ns n) k) s → TreeOf g (g.symbol (at ns (child_field (at ns n) k)).production) s) → Represents ns (child_field (at ns n) k) s → TreeOf g (child g p k) s
    below k h s again q = elim (child_or_none sheet n u k h) [
      | inl x ↦ subst (λ (i : ℕ). TreeOf g (child g i k) s) r.2 (subst (λ (i : ℕ). TreeOf g i s) x.1.symbol (again x.1.used q))
      | inr x ↦ subst (λ (i : ℕ). TreeOf g (child g i k) s) r.2 (subst (λ (z : Tree). TreeOf g (child g (at ns n).production k) z) (sym (nothing_there ns few (child_field (at ns n) k) s x.1 q)) x.0)
    ]
