use Rattle.std.proofs.Common.{length, refl}
use Rattle.table.proofs.Climbs.{climb_used}
use Rattle.table.proofs.Members.{at_most_three}
use Rattle.edit.specs.Checks.{paste_checks}
use Rattle.edit.specs.Calls.{PasteWork}
use Rattle.edit.proofs.Forest.{sheet_is_forest}
use Rattle.edit.proofs.HungRecords.{hangable}
use Rattle.edit.proofs.PasteDone.{hole_elsewhere, paste_done}
use Rattle.edit.proofs.Editing.{refused}
use Rattle.edit.proofs.pasting.paste.Goals as goal

pub returns-in_err-check_paste : goal.returns-in_err-check_paste
returns-in_err-check_paste g c =
    refused (g.L.Language.grammar c.args.language.now) (λ row. g.L.Value.Figure.means (g.L.Value.Figure.reads row)) g.L.Value.Figure.nothing c.args.nodes.now c.args.values.now
    (paste_checks (g.L.Language.grammar c.args.language.now) c.args.nodes.now (length c.args.values.now) c.args.root c.args.node)
    (λ a. PasteWork (g.L.Language.grammar c.args.language.now) (λ row. g.L.Value.Figure.means (g.L.Value.Figure.reads row)) g.L.Value.Figure.nothing c.args.nodes.now c.args.values.now c.args.nodes.now c.args.values.now c.args.root c.args.node)
    _ c.from_residual.result c.in_err-check_paste.ensures c.from_residual.ensures.1

pub hang-requires : goal.hang-requires
hang-requires g c =
    let m = c.in_ok-check_paste.ensures in
    hangable (g.L.Language.grammar c.args.language.now) c.args.nodes.now m.1.0.few (at_most_three (g.L.Language.grammar c.args.language.now) (g.L.Language.text c.args.language.now) (g.L.Language.limits c.args.language.now))
    (sheet_is_forest (g.L.Language.grammar c.args.language.now) c.args.nodes.now m.1.1.0) c.args.root c.args.node m.1.1.1.0 m.1.1.1.1.0
    (hole_elsewhere (g.L.Language.grammar c.args.language.now) c.args.nodes.now m.1.1.0 c.args.node (climb_used c.args.nodes.now 0 c.args.node m.1.1.1.1.0) m.1.1.1.1.1.0)

pub returns : goal.returns
returns g c =
    let m = c.in_ok-check_paste.ensures in (
      m,
      paste_done (g.L.Language.grammar c.args.language.now) (g.L.Language.text c.args.language.now) (g.L.Language.limits c.args.language.now) (λ row. g.L.Value.Figure.means (g.L.Value.Figure.reads row)) g.L.Value.Figure.nothing c.args.nodes.now c.hang.new.nodes c.args.values.now c.args.values.now
          c.args.root c.args.node m.1.0.few m.1.1.0 m.1.1.1.0 m.1.1.1.1.0 m.1.1.1.1.1.0 m.1.1.1.1.1.1.0 c.hang.ensures _ refl refl,
    )
