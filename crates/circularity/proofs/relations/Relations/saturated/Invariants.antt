use Rattle.std.proofs.Common.{◌≡◌, ℕ, ◌-◌, sum}
use Rattle.circularity.specs.Working.{rounds}
use Rattle.circularity.proofs.relations.Relations.saturated.Given as goal

abbrev pub invariant-loop-found : goal.invariant-loop-found
invariant-loop-found g l = (n : ℕ) × (l.found.masks ≡ rounds (g.L.Language.grammar l.language) n)

abbrev pub decreases-loop-found : goal.decreases-loop-found
decreases-loop-found g l = 1048560 - sum l.found.masks
