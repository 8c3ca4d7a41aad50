use Rattle.std.proofs.Common.{to_z-of_z}
use Rattle.table.proofs.Members.{at_most_three}
use Rattle.edit.proofs.Relabelling.{retype_done}
use Rattle.edit.proofs.retyping.retype.Goals as goal

pub returns : goal.returns
returns g c =
    retype_done (g.L.Language.grammar c.args.language.now) (λ row. g.L.Value.Figure.means (g.L.Value.Figure.reads row)) g.L.Value.Figure.nothing c.args.nodes.now c.set_literal.new.nodes c.args.values.now c.args.n c.args.literal _
    (at_most_three (g.L.Language.grammar c.args.language.now) (g.L.Language.text c.args.language.now) (g.L.Language.limits c.args.language.now)) (to_z-of_z c.ranges.literal) c.in_ok-check_retype.ensures c.set_literal.ensures
