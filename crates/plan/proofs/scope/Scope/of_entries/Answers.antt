use Rattle.std.proofs.Common.{rules, ◌∙◌, ap}
use Rattle.std.specs.List.{fold}
use Rattle.plan.specs.Scope.{scope_of}
use Rattle.plan.proofs.Words.{with_entry, folded, range_items}
use Rattle.plan.proofs.scope.Scope.of_entries.Goals as goal

pub returns : goal.returns
unfolding scope_of
returns g c = λ entries small gives.
    let run = c.fold-word.ensures.runs in
    run.3 (with_entry entries) (λ word k longer f' called. search (rules, gives))
    ∙ ap (fold (with_entry entries) 0) (range_items run.0 0 32 run.1 run.2)
    ∙ folded entries small
