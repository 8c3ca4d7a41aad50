use Rattle.std.proofs.Common.{arith}
use Rattle.edit.proofs.Freshness.{named_of_more}
use Rattle.edit.proofs.fresh.new_nodes.Goals as goal

pub loop-child-preserved : goal.loop-child-preserved
loop-child-preserved c =
    named_of_more c.args.table.nodes.now c.args.count c.loop-child.child-index c.loop-child.below c.in_ok-below.below c.loop-child.child-items
    (omega arith) (omega arith) c.loop-child.invariant c.in_ok-below.ensures
