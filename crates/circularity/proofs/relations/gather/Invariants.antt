use Rattle.std.proofs.Common.{◌≡◌, ℕ, ◌<◌}
use Rattle.circularity.specs.declared.graph.Outcome.{Outcome}
use Rattle.circularity.specs.Working.{gathered_below}
use Rattle.circularity.proofs.relations.gather.Given as goal

abbrev pub invariant-loop-relation : goal.invariant-loop-relation
invariant-loop-relation g l =
    (f : ℕ → Outcome) → ((relation : ℕ) (outcome : Outcome) → relation < 16 → goal.F-post g l.outcome_of relation outcome → outcome ≡ f relation)
    → l.found ≡ gathered_below f l.set l.relation
