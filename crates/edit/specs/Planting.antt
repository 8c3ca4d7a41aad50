-- Holes put down at some nodes, one for each child of a production.
use Rattle.std.specs.Prelude.{◌≡◌, ℕ, ◌+◌, ◌*◌, ◌<◌, ◌≤◌, List, length, ◌≢◌, slice_index}
use Rattle.table.specs.declared.node.Node.{Node}
use Rattle.table.specs.Nodes.{at}
use Rattle.edit.specs.Fresh.{hole_record}

-- the first nodes of a list lie in a table and are different
pub record Apart (size count : ℕ) (nodes : List ℕ) : Type 0 where
  pub inside : (k : ℕ) → k < count → slice_index nodes k < size
  pub different : (j k : ℕ) → j < k → k < count → slice_index nodes k ≢ slice_index nodes j

-- the first nodes of a list have their four values
abbrev pub Roomy : ℕ → ℕ → List ℕ → Type 0
Roomy size count nodes = (k : ℕ) → k < count → 4 * slice_index nodes k + 4 ≤ size

-- Holes of the first symbols stand at the first nodes, under a parent, and every other record is as it was.
pub record Planted (symbols : List ℕ) (parent : ℕ) (nodes : List ℕ) (count : ℕ) (before after : List Node) : Type 0 where
  pub many : length after ≡ length before
  pub hole : (k : ℕ) → k < count → at after (slice_index nodes k) ≡ hole_record (slice_index symbols k) parent
  pub same : (x : ℕ) → ((k : ℕ) → k < count → x ≢ slice_index nodes k) → at after x ≡ at before x
