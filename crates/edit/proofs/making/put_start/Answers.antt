-- The table in which new nodes are looked for holds all nodes, and that is said by itself: where a part of them is handed on, this is what fails.
-- The code as it stands needs no `take_all`; with it a part that is the whole, as `&nodes[..nodes.len()]`, is proved too, so that only a shorter one is refused.
use Rattle.std.proofs.Common.{◌≡◌, length, arith, rules}
use Rattle.std.proofs.lemmas.List.{take_all}
use Rattle.edit.specs.Fresh.{NewNodes}
use Rattle.edit.proofs.Starting.{new_found, holes_fit, made_of}
use Rattle.edit.proofs.making.put_start.Goals as goal

pub unwrap-children-requires : goal.unwrap-children-requires
unwrap-children-requires g c =
    let whole : c.new.result.nodes.now ≡ c.args.nodes.now = search (rules, take_all (length c.args.nodes.now) c.args.nodes.now (omega arith)) in
    new_found (g.L.Language.grammar c.args.language.now) _ (g.L.Language.limits c.args.language.now) c.args.nodes.now c.requires.1.1 c.requires.1.0 c.children-symbols.result.now c.children-symbols.ensures c.new_nodes.result (rw whole at c.new_nodes.ensures)

pub put_holes-requires : goal.put_holes-requires
put_holes-requires g c =
    let whole : c.new.result.nodes.now ≡ c.args.nodes.now = search (rules, take_all (length c.args.nodes.now) c.args.nodes.now (omega arith)) in
    let new : NewNodes c.args.nodes.now (length c.children-symbols.result.now) c.unwrap-children.result = search rules in
    holes_fit (g.L.Language.grammar c.args.language.now) _ (g.L.Language.limits c.args.language.now) c.args.nodes.now c.requires.1.1 c.requires.1.0 c.children-symbols.result.now c.children-symbols.ensures c.unwrap-children.result new

pub returns : goal.returns
returns g c =
    let whole : c.new.result.nodes.now ≡ c.args.nodes.now = search (rules, take_all (length c.args.nodes.now) c.args.nodes.now (omega arith)) in
    let new : NewNodes c.args.nodes.now (length c.children-symbols.result.now) c.unwrap-children.result = search rules in
    made_of (g.L.Language.grammar c.args.language.now) _ (g.L.Language.limits c.args.language.now) c.args.nodes.now c.requires.1.1 c.requires.1.0 c.children-symbols.result.now c.children-symbols.ensures c.unwrap-children.result new c.put_holes.new.nodes c.put_holes.ensures
