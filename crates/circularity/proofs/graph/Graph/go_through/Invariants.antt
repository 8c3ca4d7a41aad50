use Rattle.std.proofs.Common.{◌≡◌, map, take, drop, ◌++◌}
use Rattle.circularity.proofs.Turns.{taken}
use Rattle.circularity.proofs.graph.Graph.go_through.Given as goal

abbrev pub invariant-loop-row : goal.invariant-loop-row
invariant-loop-row l = l.row-items ≡ map (taken l.fn.self.rows l.vertex) (take l.row-index l.fn.self.rows) ++ drop l.row-index l.fn.self.rows
