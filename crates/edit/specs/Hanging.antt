-- What the step that cut, paste and exchange share asks of the records.
use Rattle.std.specs.Prelude.{◌≡◌, ℕ, ◌<◌, List, length}
use Rattle.table.specs.declared.node.Node.{Node}
use Rattle.table.specs.Nodes.{at, child_field}

-- Node n hangs from its parent, and the root of another tree can be hung in its place: the three nodes are apart and in the table.
pub record Hangable (ns : List Node) (root n : ℕ) : Type 0 where
  pub root_inside : root < length ns
  pub node_inside : n < length ns
  pub parent_inside : (at ns n).parent < length ns
  pub root_apart : root ≡ n → ⊥
  pub parent_apart : (at ns n).parent ≡ n → ⊥
  pub parent_no_root : (at ns n).parent ≡ root → ⊥
  pub place : ℕ
  pub place_inside : place < 3
  pub named : child_field (at ns (at ns n).parent) place ≡ n
