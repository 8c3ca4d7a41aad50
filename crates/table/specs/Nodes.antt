-- Node records, and how a table of them is read.
use Rattle.std.specs.Prelude.{◌≡◌, ℕ, ◌<◌, true, false, List, [], length, pos, slice_index, slice_index_or}
use Rattle.table.specs.declared.node.Node.{Node}

-- the number that stands for no node
abbrev pub none : ℕ
none = 65535

-- what is read past the end of a table
abbrev pub nowhere : Node
nowhere = record { used = false; production = 0; literal = pos 0; parent = 0; children = [] }

-- node n's record
abbrev pub at : List Node → ℕ → Node
at ns n = slice_index_or ns n nowhere

-- the field of a child place, counted from 0
abbrev pub child_field : Node → ℕ → ℕ
child_field nd k = slice_index nd.children k

-- node n is in the table and in use
abbrev pub Used : List Node → ℕ → Type 0
Used ns n = (n < length ns) × ((at ns n).used ≡ true)

-- A free node's record is blank: production 0, literal 0, no parent and no children.
pub record Blank (nd : Node) : Type 0 where
  pub free : nd.used ≡ false
  pub production : nd.production ≡ 0
  pub literal : nd.literal ≡ pos 0
  pub parent : nd.parent ≡ none
  pub children : (k : ℕ) → k < 3 → child_field nd k ≡ none
