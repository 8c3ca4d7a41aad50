-- When the nodes of a table form a sheet: one tree under node 0, any number of clippings, and free nodes.
-- This is about the whole table; damage anywhere is damage.
use Rattle.std.specs.Prelude.{◌≡◌, ℕ, ◌<◌, ◌≤◌, true, false, T, List, length, ◌≢◌}
use Rattle.grammar.specs.Grammar.{Grammar, child}
use Rattle.table.specs.declared.node.Node.{Node}
use Rattle.table.specs.Nodes.{none, at, child_field, Used, Blank}
use Rattle.table.specs.Climbing.{Climb}

-- production p is a hole
abbrev pub Hole : Grammar → ℕ → Type 0
Hole g p = (0 < p) × (p < g.symbols)

-- The child field k of node n names a used node of the right symbol that names n as its parent.
pub record ChildAt (g : Grammar) (ns : List Node) (n k : ℕ) : Type 0 where
  pub used : Used ns (child_field (at ns n) k)
  pub symbol : g.symbol (at ns (child_field (at ns n) k)).production ≡ child g (at ns n).production k
  pub parent : (at ns (child_field (at ns n) k)).parent ≡ n

-- Node n is exactly one child of node m.
pub record OneChildOf (g : Grammar) (ns : List Node) (m n : ℕ) : Type 0 where
  pub place : ℕ
  pub inside : place < length (g.children (at ns m).production)
  pub named : child_field (at ns m) place ≡ n
  pub alone : (k : ℕ) → k < length (g.children (at ns m).production) → child_field (at ns m) k ≡ n → k ≡ place

-- How a used node hangs: node 0 has no parent; any other is exactly one child of its parent, or has no parent, is no hole, and is the root of a clipping.
pub data Hangs (g : Grammar) (ns : List Node) (n : ℕ) : Type 0 where
  root : n ≡ 0 → (at ns n).parent ≡ none → Hangs g ns n
  clipping : (n ≢ 0) → (at ns n).parent ≡ none → (Hole g (at ns n).production → ⊥) → Hangs g ns n
  below : (n ≢ 0) → Used ns (at ns n).parent → OneChildOf g ns (at ns n).parent n → Hangs g ns n

-- What a used node's record keeps.
pub record InOrder (g : Grammar) (ns : List Node) (n : ℕ) : Type 0 where
  pub production_exists : (at ns n).production < g.productions
  -- production 0 stands at node 0 and nowhere else
  pub start : (n ≡ 0 → (at ns n).production ≡ 0) × ((at ns n).production ≡ 0 → n ≡ 0)
  pub literal_accepted : T (g.accepts (at ns n).production (at ns n).literal)
  pub children : (k : ℕ) → k < length (g.children (at ns n).production) → ChildAt g ns n k
  pub no_further : (k : ℕ) → length (g.children (at ns n).production) ≤ k → k < 3 → child_field (at ns n) k ≡ none
  pub hangs : Hangs g ns n
  -- climbing ends
  pub climbs : (r : ℕ) × Climb ns r n

-- what node n's record keeps, in use or free
abbrev pub Good : Grammar → List Node → ℕ → Type 0
Good g ns n = elim (at ns n).used [ true ↦ InOrder g ns n | false ↦ Blank (at ns n) ]

-- The nodes form a sheet.
pub record Sheet (g : Grammar) (ns : List Node) : Type 0 where
  pub root_used : Used ns 0
  pub each : (n : ℕ) → n < length ns → Good g ns n

-- a node is the root of a clipping: it is in use, is not node 0, and has no parent
abbrev pub ClippingRoot : List Node → ℕ → Type 0
ClippingRoot ns n = Used ns n × (n ≢ 0) × ((at ns n).parent ≡ none)
