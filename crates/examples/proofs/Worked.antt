-- The three languages: their sets of relations, computed, and the verdicts.
use Rattle.std.proofs.Common.{ℕ, List, ◌∷◌, replicate, refl, lit<}
use lib.Count.{ones}
use Rattle.circularity.specs.Working.{Saturated}
use Rattle.formula.specs.Table.{formula_grammar, formula_text}
use Rattle.formula.specs.Keeping.{formula_limits}
use Rattle.plan.specs.Table.{plan_grammar, plan_text, altered_grammar}
use Rattle.plan.specs.TableLimits.{plan_limits, altered_limits}
use Rattle.examples.specs.Table.{PassesWith, RefusedNaming}
use Rattle.examples.proofs.Runs.{passes_with, refused_naming}

-- the sets of a language with three symbols at most
abbrev sets : ℕ → ℕ → ℕ → List ℕ
sets a b c = a ∷ b ∷ c ∷ replicate 13 0

formula_sets : Saturated formula_grammar (sets 1 3 0)
formula_sets = record { turns = 2; made = refl; still = refl }

pub formula_passes : PassesWith formula_grammar 3
unfolding ones
formula_passes = passes_with formula_grammar formula_text formula_limits (sets 1 3 0) formula_sets tt 3 refl

plan_sets : Saturated plan_grammar (sets 1 514 13)
plan_sets = record { turns = 2; made = refl; still = refl }

pub plan_passes : PassesWith plan_grammar 6
unfolding ones
plan_passes = passes_with plan_grammar plan_text plan_limits (sets 1 514 13) plan_sets tt 6 refl

altered_sets : Saturated altered_grammar (sets 1 2562 13)
altered_sets = record { turns = 2; made = refl; still = refl }

pub altered_refused : RefusedNaming altered_grammar 0 5
altered_refused = refused_naming altered_grammar plan_text altered_limits (sets 1 2562 13) altered_sets 0 5 tt (lit< tt) tt
