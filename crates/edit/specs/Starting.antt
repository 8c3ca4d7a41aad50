-- What make does first: every node is freed.
use Rattle.std.specs.Prelude.{◌≡◌, ℕ, ◌<◌, List}
use Rattle.table.specs.declared.node.Node.{Node}
use Rattle.table.specs.Nodes.{at}
use Rattle.edit.specs.Fresh.{free_record}

-- the nodes below a number are free
abbrev pub FreeTo : ℕ → List Node → Type 0
FreeTo end ns = (n : ℕ) → n < end → at ns n ≡ free_record
