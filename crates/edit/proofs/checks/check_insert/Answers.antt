use Rattle.std.proofs.Common.{to_z-of_z}
use Rattle.edit.proofs.Checking.{production_refused}
use Rattle.edit.proofs.checks.check_insert.Goals as goal

pub returns-in_err-check_production : goal.returns-in_err-check_production
returns-in_err-check_production g c =
    production_refused (g.L.Language.grammar c.args.view.language.now) c.args.view.nodes.now c.args.view.values c.args.n c.args.production c.args.literal _ (to_z-of_z c.ranges.literal) _
    c.in_err-check_production.field-0.0 c.from_residual.result c.in_err-check_production.ensures c.from_residual.ensures.1
