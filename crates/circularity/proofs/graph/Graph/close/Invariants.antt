use Rattle.std.proofs.Common.{◌≡◌}
use Rattle.circularity.specs.Bits.{closed_below}
use Rattle.circularity.proofs.graph.Graph.close.Given as goal

abbrev pub invariant-loop-vertex : goal.invariant-loop-vertex
invariant-loop-vertex l = l.self.rows ≡ closed_below l.vertex l.initial.self.rows
