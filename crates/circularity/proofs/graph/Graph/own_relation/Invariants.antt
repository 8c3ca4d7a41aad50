use Rattle.std.proofs.Common.{◌≡◌}
use Rattle.circularity.specs.Working.{relation_in}
use Rattle.circularity.proofs.graph.Graph.own_relation.Given as goal

abbrev pub invariant-loop-number : goal.invariant-loop-number
invariant-loop-number l = l.relation ≡ relation_in l.self.rows l.inherited l.number
