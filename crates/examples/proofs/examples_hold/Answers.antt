use Rattle.std.proofs.Common.{refl}
use Rattle.examples.proofs.Worked.{formula_passes, plan_passes, altered_refused}
use Rattle.examples.proofs.examples_hold.Goals as goal

pub returns : goal.returns
returns c =
    record { formula_passes = formula_passes; plan_passes = plan_passes; altered_plan_refused = altered_refused; minus_seven_by_two = refl }
