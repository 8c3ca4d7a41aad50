use Rattle.std.proofs.Common.{arith}
use Rattle.edit.proofs.Listing.{gathered_more, gathered_not}
use Rattle.edit.proofs.discarding.gather.Goals as goal
use Rattle.edit.proofs.discarding.gather.Goals.{then-climbs_to, else-climbs_to}

pub loop-n-preserved : goal.loop-n-preserved
loop-n-preserved c = elim c.if-climbs_to.branch [
  | then-climbs_to w ↦
      simp (w.slots-is, w.count-is)
      (gathered_more c.args.table.nodes.now c.args.root c.args.slots.now c.loop-n.n c.loop-n.count c.loop-n.slots c.loop-n.invariant (omega arith) w.if-climbs_to.ensures)
  | else-climbs_to w ↦
      simp (w.slots-is, w.count-is)
      (gathered_not c.args.table.nodes.now c.args.root c.args.slots.now c.loop-n.n c.loop-n.count c.loop-n.slots c.loop-n.invariant w.if-climbs_to.ensures)
]
