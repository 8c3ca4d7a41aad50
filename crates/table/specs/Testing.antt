-- What the parts of the sheet test find out: parts of what a used node's record keeps, each by itself.
use Rattle.std.specs.Prelude.{◌≡◌, ℕ, ◌<◌, ◌≤◌, T, List, length}
use Rattle.grammar.specs.Grammar.{Grammar}
use Rattle.table.specs.declared.node.Node.{Node}
use Rattle.table.specs.Nodes.{none, at, child_field, Used}
use Rattle.table.specs.Sheets.{ChildAt}

-- no child stands at a place from the given one on
abbrev pub NoChildFrom : Node → ℕ → Type 0
NoChildFrom nd from = (k : ℕ) → from ≤ k → k < 3 → child_field nd k ≡ none

-- exactly one of the first child places names node n
pub record Once (nd : Node) (count n : ℕ) : Type 0 where
  pub place : ℕ
  pub inside : place < count
  pub named : child_field nd place ≡ n
  pub alone : (k : ℕ) → k < count → child_field nd k ≡ n → k ≡ place

-- node c is in use, is of this symbol and names node n as its parent
pub record ChildOf (g : Grammar) (ns : List Node) (n c symbol : ℕ) : Type 0 where
  pub used : Used ns c
  pub of_symbol : g.symbol (at ns c).production ≡ symbol
  pub parent : (at ns c).parent ≡ n

-- every child of node n is as it should be
abbrev pub ChildrenFit : Grammar → List Node → ℕ → Type 0
ChildrenFit g ns n = (k : ℕ) → k < length (g.children (at ns n).production) → ChildAt g ns n k

-- what a used node's record keeps, but for how the node hangs and that climbing ends
pub record RecordFits (g : Grammar) (ns : List Node) (n : ℕ) : Type 0 where
  pub production_exists : (at ns n).production < g.productions
  pub start : (n ≡ 0 → (at ns n).production ≡ 0) × ((at ns n).production ≡ 0 → n ≡ 0)
  pub literal_accepted : T (g.accepts (at ns n).production (at ns n).literal)
  pub children : ChildrenFit g ns n
  pub no_further : NoChildFrom (at ns n) (length (g.children (at ns n).production))
