use Rattle.table.proofs.Climbs.{Walked}
use Rattle.table.proofs.climb.Table.top_of.Given as goal

abbrev pub invariant-loop-step : goal.invariant-loop-step
invariant-loop-step l = Walked l.self.nodes.now l.n l._step l.reached
