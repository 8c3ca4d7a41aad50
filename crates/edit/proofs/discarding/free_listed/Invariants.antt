use Rattle.edit.specs.Gathering.{Freed}
use Rattle.edit.proofs.discarding.free_listed.Given as goal

abbrev pub invariant-loop-n : goal.invariant-loop-n
invariant-loop-n l = Freed l.listed l.n-index l.initial.nodes l.nodes
