use Rattle.std.proofs.Common.{[], ◌∷◌, ◌++◌}
use Rattle.table.proofs.Refusing.{handed_on}
use Rattle.edit.specs.Checks.{hole_at, same_symbol, with_a_clipping}
use Rattle.edit.proofs.clipping_checks.check_paste.Goals as goal

pub returns-in_err-check_with_clipping : goal.returns-in_err-check_with_clipping
returns-in_err-check_with_clipping g c =
    handed_on [] (with_a_clipping (g.L.Language.grammar c.args.view.language.now) c.args.view.nodes.now c.args.view.values c.args.root c.args.n)
    ((hole_at (g.L.Language.grammar c.args.view.language.now) c.args.view.nodes.now c.args.n ∷ []) ++ (same_symbol (g.L.Language.grammar c.args.view.language.now) c.args.view.nodes.now c.args.root c.args.n ∷ [])) _ _ tt c.in_err-check_with_clipping.ensures c.from_residual.ensures.1
