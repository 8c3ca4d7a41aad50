use Rattle.edit.specs.Gathering.{Gathered}
use Rattle.edit.proofs.discarding.gather.Given as goal

abbrev pub invariant-loop-n : goal.invariant-loop-n
invariant-loop-n l = Gathered l.table.nodes.now l.root l.n l.initial.slots l.slots l.count
