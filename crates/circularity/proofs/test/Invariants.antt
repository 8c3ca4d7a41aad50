use Rattle.std.proofs.Common.{ℕ, ◌<◌, T}
use Rattle.circularity.specs.Working.{found_by}
use Rattle.circularity.proofs.test.Given as goal

abbrev pub invariant-loop-number : goal.invariant-loop-number
invariant-loop-number g l = (p : ℕ) → p < l.number → T (found_by (g.L.Language.grammar l.language) p l.found.masks).cyclic → ⊥
