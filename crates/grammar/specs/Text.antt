-- The text of a production: what printing writes for it, segment by segment.
use Rattle.std.specs.Prelude.{ℕ, List, [], ◌∷◌}
use Rattle.grammar.specs.declared.language.Piece.{Piece}
use Rattle.grammar.specs.declared.language.Piece.TheVariants.{Fixed, Literal, Child}

-- fixed bytes, the production's literal in base ten, or the text of a child (children are counted from 1, as places are)
pub data Segment : Type 0 where
  bytes : List ℕ → Segment
  literal : Segment
  child : ℕ → Segment

-- the segment that a piece of the program stands for
abbrev pub segment : Piece → Segment
segment (Fixed b) = bytes b.now
segment Literal = literal
segment (Child i) = child i

-- the children that segments name, in their order
abbrev pub named : List Segment → List ℕ
named [] = []
named (bytes b ∷ rest) = named rest
named (literal ∷ rest) = named rest
named (child i ∷ rest) = i ∷ named rest
