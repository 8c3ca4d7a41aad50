-- Which nodes a call touched. A figure's rule is touched when a touched node's production holds it, at that node.
-- An open sheet keeps the call and the first of these nodes; the others are told by the records.
use Rattle.std.specs.Prelude.{◌≡◌, ℕ, ◌<◌, ◌⊎◌, List, length, ◌≢◌}
use Rattle.grammar.specs.Grammar.{Grammar}
use Rattle.table.specs.declared.node.Node.{Node}
use Rattle.table.specs.Nodes.{none, at, child_field}
use Rattle.edit.specs.declared.opened.OpenedBy.{OpenedBy}
use Rattle.edit.specs.declared.opened.OpenedBy.TheVariants.{Make, Insert, Cut, Paste, Exchange, Retype}

-- node m is a child of node n
abbrev pub ChildOf : Grammar → List Node → ℕ → ℕ → Type 0
ChildOf g ns n m = (k : ℕ) × (k < length (g.children (at ns n).production)) × (child_field (at ns n) k ≡ m)

-- node m is the parent of node n, which has one
abbrev pub ParentOf : List Node → ℕ → ℕ → Type 0
ParentOf ns n m = ((at ns n).parent ≡ m) × (m ≢ none)

-- Node m is touched: by make and insert the node and its children, by cut the new hole and its parent, by paste and exchange the parent of the
-- place, by retype the node. The first of them is n.
abbrev pub Touched : Grammar → List Node → OpenedBy → ℕ → ℕ → Type 0
Touched g ns Make n m = (m ≡ n) ⊎ ChildOf g ns n m
Touched g ns Insert n m = (m ≡ n) ⊎ ChildOf g ns n m
Touched g ns Cut n m = (m ≡ n) ⊎ ParentOf ns n m
Touched g ns Paste n m = m ≡ n
Touched g ns Exchange n m = m ≡ n
Touched g ns Retype n m = m ≡ n
