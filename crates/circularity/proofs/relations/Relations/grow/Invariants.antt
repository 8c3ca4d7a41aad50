use Rattle.std.proofs.Common.{◌≡◌}
use Rattle.circularity.specs.Working.{grown}
use Rattle.circularity.proofs.relations.Relations.grow.Given as goal

abbrev pub invariant-loop-number : goal.invariant-loop-number
invariant-loop-number g l = l.self.masks ≡ grown (g.L.Language.grammar l.language) l.number l.initial.self.masks
