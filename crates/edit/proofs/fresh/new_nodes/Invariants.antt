use Rattle.edit.proofs.Freshness.{NamedOf}
use Rattle.edit.proofs.fresh.new_nodes.Given as goal

abbrev pub invariant-loop-child : goal.invariant-loop-child
invariant-loop-child l = NamedOf l.table.nodes.now l.count l.child-index l.below l.child-items
