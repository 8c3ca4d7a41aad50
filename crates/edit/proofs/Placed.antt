-- A node on the sheet lies in the table.
use Rattle.std.proofs.Common.{ℕ, ◌<◌, List, length}
use Rattle.table.specs.declared.node.Node.{Node}
use Rattle.table.specs.Climbing.{Climb}
use Rattle.table.proofs.Under.{climb_used}

pub lies_inside : (ns : List Node) (r n : ℕ) → Climb ns r n → n < length ns
lies_inside ns r n climb = (climb_used climb).0
