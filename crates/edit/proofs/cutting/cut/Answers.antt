use Rattle.edit.proofs.CutDone.{hole_hangable, cut_done}
use Rattle.edit.proofs.cutting.cut.Goals as goal

pub hang-requires : goal.hang-requires
hang-requires g c =
    let m = c.in_ok-hole.ensures in
    rw (c.hole_node.ensures, c.symbol-symbol.ensures)
    (hole_hangable (g.L.Language.grammar c.args.language.now) (g.L.Language.text c.args.language.now) (g.L.Language.limits c.args.language.now) c.args.nodes.now c.args.node c.in_ok-hole.hole m.0.1.0.few m.0.1.1.0 m.0.1.1.1.0 m.0.1.1.1.1.0 m.1)

pub returns : goal.returns
returns g c =
    let m = c.in_ok-hole.ensures in
    let hung = rw (c.hole_node.ensures, c.symbol-symbol.ensures) at c.hang.ensures in (
      m.0,
      cut_done (g.L.Language.grammar c.args.language.now) (g.L.Language.text c.args.language.now) (g.L.Language.limits c.args.language.now) c.args.nodes.now c.args.node c.in_ok-hole.hole m.0.1.0.few m.0.1.1.0 m.0.1.1.1.0 m.0.1.1.1.1.0 m.1
          (λ row. g.L.Value.Figure.means (g.L.Value.Figure.reads row)) g.L.Value.Figure.nothing c.hang.new.nodes c.args.values.now c.blank_node.new.values hung c.blank_node.ensures,
    )
