use Rattle.std.proofs.Common.{◌≡◌}
use Rattle.edit.specs.Fresh.{free_below}
use Rattle.edit.proofs.fresh.next_free.Given as goal

abbrev pub invariant-loop-n : goal.invariant-loop-n
invariant-loop-n l = free_below l.nodes l.below ≡ free_below l.nodes l.n
