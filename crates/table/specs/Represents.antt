-- The trees that node records hold, and how one subtree of a tree is replaced.
use Rattle.std.specs.Prelude.{◌≡◌, ℕ, true, false, ◌⊎◌, List, [], ◌∷◌, ◌++◌, ◌==◌}
use Rattle.grammar.specs.Grammar.{Grammar}
use Rattle.grammar.specs.Tree.{Tree, none, node, TreeOf}
use Rattle.table.specs.declared.node.Node.{Node}
use Rattle.table.specs.Nodes.{at, child_field, Used}
use Rattle.table.specs.Nodes
use Rattle.table.specs.Climbing.{Climb}

-- The records have this tree under node n: its root has the node's number, its record's production and literal, and at each child place hangs the tree of the child field.
-- Where the field names no node, nothing hangs.
abbrev pub Represents : List Node → ℕ → Tree → Type 0
Represents ns n none = n ≡ Nodes.none
Represents ns n (node m p l a b c) =
    (m ≡ n) × Used ns n × ((at ns n).production ≡ p) × ((at ns n).literal ≡ l) × Represents ns (child_field (at ns n) 0) a × Represents ns (child_field (at ns n) 1) b × Represents ns (child_field (at ns n) 2) c

-- the numbers of a tree's nodes: the root's first, then those of the children in order
abbrev pub numbers : Tree → List ℕ
numbers none = []
numbers (node n p l a b c) = n ∷ (numbers a ++ (numbers b ++ numbers c))

-- the number is one of these
abbrev pub In : ℕ → List ℕ → Type 0
In n [] = ⊥
In n (x ∷ xs) = (n ≡ x) ⊎ In n xs

-- no number stands twice
abbrev pub Distinct : List ℕ → Type 0
Distinct [] = Unit {0}
Distinct (x ∷ xs) = (In x xs → ⊥) × Distinct xs

-- The tree with u in the place of the subtree whose root has number m. In a tree with distinct numbers there is at most one.
abbrev pub replace : ℕ → Tree → Tree → Tree
replace m u none = none
replace m u (node n p l a b c) = elim (n == m) [ true ↦ u | false ↦ node n p l (replace m u a) (replace m u b) (replace m u c) ]

-- What the records of a sheet hold: under every used node exactly one tree, of the node's symbol and with distinct numbers;
-- under a node without parent, which is node 0 or a clipping's root, exactly the nodes whose climb ends there.
pub record HoldsTrees (g : Grammar) (ns : List Node) : Type 0 where
  pub tree : (n : ℕ) → Used ns n → (t : Tree) × Represents ns n t
  pub one_tree : (n : ℕ) (t u : Tree) → Represents ns n t → Represents ns n u → t ≡ u
  pub of_symbol : (n : ℕ) (t : Tree) → Used ns n → Represents ns n t → TreeOf g (g.symbol (at ns n).production) t
  pub distinct_numbers : (n : ℕ) (t : Tree) → Represents ns n t → Distinct (numbers t)
  pub nodes_below : (n : ℕ) (t : Tree) → (at ns n).parent ≡ Nodes.none → Represents ns n t → (m : ℕ) → (In m (numbers t) → Climb ns n m) × (Climb ns n m → In m (numbers t))
