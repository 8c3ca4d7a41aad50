use Rattle.std.proofs.Common.{length, to_z-of_z}
use Rattle.edit.proofs.Editing.{insert_refused}
use Rattle.edit.proofs.Filling.{fields_enough, fields_apart, fields_roomy, insert_done}
use Rattle.edit.proofs.inserting.insert.Goals as goal

pub returns-in_err-at : goal.returns-in_err-at
returns-in_err-at g c =
    insert_refused (g.L.Language.grammar c.args.language.now) (λ row. g.L.Value.Figure.means (g.L.Value.Figure.reads row)) g.L.Value.Figure.nothing c.args.nodes.now c.args.values.now c.args.n c.args.literal _ (to_z-of_z c.ranges.literal)
    c.in_err-at.field-0.0 c.from_residual.result c.from_residual.ensures.1 c.args.production c.in_err-at.ensures

pub put_holes-requires : goal.put_holes-requires
put_holes-requires g c = (
  fields_enough (g.L.Language.grammar c.args.language.now) (g.L.Language.text c.args.language.now) (g.L.Language.limits c.args.language.now) c.args.nodes.now (length c.args.values.now) c.args.n c.args.production c.args.literal _ (to_z-of_z c.ranges.literal)
      c.in_ok-at.at c.children-symbols.result.now c.children-symbols.ensures c.in_ok-at.ensures,
  fields_apart (g.L.Language.grammar c.args.language.now) (g.L.Language.text c.args.language.now) (g.L.Language.limits c.args.language.now) c.args.nodes.now (length c.args.values.now) c.args.n c.args.production c.args.literal _ (to_z-of_z c.ranges.literal)
      c.in_ok-at.at c.children-symbols.result.now c.children-symbols.ensures c.in_ok-at.ensures c.set_production.new.nodes c.set_production.auto.nodes,
)

pub blank_nodes-requires : goal.blank_nodes-requires
blank_nodes-requires g c = fields_roomy (g.L.Language.grammar c.args.language.now) (g.L.Language.text c.args.language.now) (g.L.Language.limits c.args.language.now) c.args.nodes.now (length c.args.values.now) c.args.n c.args.production c.args.literal _ (to_z-of_z c.ranges.literal)
    c.in_ok-at.at c.children-symbols.result.now c.children-symbols.ensures c.in_ok-at.ensures

pub returns : goal.returns
returns g c =
    insert_done (g.L.Language.grammar c.args.language.now) (g.L.Language.text c.args.language.now) (g.L.Language.limits c.args.language.now) c.args.nodes.now (length c.args.values.now) c.args.n c.args.production c.args.literal _ (to_z-of_z c.ranges.literal)
    c.in_ok-at.at c.children-symbols.result.now c.children-symbols.ensures c.in_ok-at.ensures (λ row. g.L.Value.Figure.means (g.L.Value.Figure.reads row)) g.L.Value.Figure.nothing
    c.set_production.new.nodes c.put_holes.new.nodes c.args.values.now c.blank_nodes.new.values c.set_production.ensures c.put_holes.ensures c.blank_nodes.ensures
