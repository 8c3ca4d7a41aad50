-- When a language is circular, which relations its trees have, and how many different ones.
use Rattle.std.specs.Prelude.{◌≡◌, ℕ, zero, suc, ◌+◌, ◌<◌, ◌≤◌, ◌⊎◌, List, [], length, slice_index_or}
use Rattle.grammar.specs.Grammar.{Grammar, attributes}
use Rattle.grammar.specs.Tree.{Tree, none, TreeOf, RootedBy}
use Rattle.grammar.specs.Dependence.{Instance, instance, WaitsAtRoot, Waits, Over}

-- A language is circular if some tree of it, with any symbol at its root, has a figure that waits on itself.
abbrev pub Circular : Grammar → Type 0
Circular g = (s : ℕ) × (t : Tree) × (x : Instance) × (s < g.symbols) × TreeOf g s t × Over (Waits g t) x x

-- The production roots a tree with a cycle through one of the root's own rules.
pub record Culprit (g : Grammar) (p : ℕ) : Type 0 where
  pub symbol : ℕ
  pub tree : Tree
  pub symbol_exists : symbol < g.symbols
  pub is_tree : TreeOf g symbol tree
  pub rooted : RootedBy tree p
  pub from : Instance
  pub to : Instance
  pub own_rule : WaitsAtRoot g tree from to
  pub back : (to ≡ from) ⊎ Over (Waits g tree) to from

-- The relation of a tree: its root's synthesized attribute a depends on its inherited attribute i over one or more rules.
abbrev pub Related : Grammar → Tree → ℕ → ℕ → Type 0
Related g t i a = Over (Waits g t) (instance [] a) (instance [] i)

-- Two trees of symbol s have the same relation: the same pairs of an inherited and a synthesized attribute of the symbol.
abbrev pub SameRelation : Grammar → ℕ → Tree → Tree → Type 0
SameRelation g s t u =
    (i a : ℕ) → i < g.inherited s → g.inherited s ≤ a → a < attributes g s → (Related g t i a → Related g u i a) × (Related g u i a → Related g t i a)

-- The trees of symbol s have n different relations: n trees of it differ pairwise in their relations, and every tree of it has the relation of one of these.
pub record Relations (g : Grammar) (s n : ℕ) : Type 0 where
  pub trees : List Tree
  pub many : length trees ≡ n
  pub of_symbol : (k : ℕ) → k < n → TreeOf g s (slice_index_or trees k none)
  pub different : (j k : ℕ) → j < k → k < n → SameRelation g s (slice_index_or trees j none) (slice_index_or trees k none) → ⊥
  pub every : (t : Tree) → TreeOf g s t → (k : ℕ) × (k < n) × SameRelation g s t (slice_index_or trees k none)

-- the sum of f over the numbers below n
abbrev pub sum_below : (ℕ → ℕ) → ℕ → ℕ
sum_below f zero = 0
sum_below f (suc n) = sum_below f n + f n

-- A passing test's number: the number of different relations of each symbol's trees, added over all symbols.
pub record RelationCount (g : Grammar) (total : ℕ) : Type 0 where
  pub of : ℕ → ℕ
  pub relations : (s : ℕ) → s < g.symbols → Relations g s (of s)
  pub total_is : total ≡ sum_below of g.symbols
