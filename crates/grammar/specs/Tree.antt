-- Trees of a language.
use Rattle.std.specs.Prelude.{◌≡◌, ℕ, ◌<◌, [], ◌∷◌, ℤ, slice_index_or}
use Rattle.grammar.specs.Grammar.{Grammar, child}

-- A finite tree: nothing, or a node with its number, its production, its literal and the trees that hang at its three child places.
-- A production with fewer children has nothing at the further places.
pub data Tree : Type 0 where
  none : Tree
  node : (number production : ℕ) (literal : ℤ) (first second third : Tree) → Tree

-- the tree at a child place, counted from 0
abbrev pub hanging : Tree → ℕ → Tree
hanging none k = none
hanging (node n p l a b c) k = slice_index_or (a ∷ b ∷ c ∷ []) k none

-- The tree is a tree of symbol s: its root's production is one of that symbol's, and at each child place hangs a tree of the child's symbol.
-- Any literals may stand in it, accepted or not. The number just past the last symbol stands for a child that is not there.
abbrev pub TreeOf : Grammar → ℕ → Tree → Type 0
TreeOf g s none = s ≡ g.symbols
TreeOf g s (node n p l a b c) =
    (p < g.productions) × (g.symbol p ≡ s) × TreeOf g (child g p 0) a × TreeOf g (child g p 1) b × TreeOf g (child g p 2) c

-- the production of the tree's root is p
abbrev pub RootedBy : Tree → ℕ → Type 0
RootedBy none p = ⊥
RootedBy (node n q l a b c) p = q ≡ p
