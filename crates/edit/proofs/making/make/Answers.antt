use Rattle.std.proofs.Common.{suc, ◌≤◌, length, arith}
use Rattle.edit.proofs.MadeSheet.{make_work}
use Rattle.edit.proofs.making.make.Goals as goal

pub returns : goal.returns
returns g c =
    let met = c.in_ok-check_memory.ensures.answer in
    let room : suc (length ((g.L.Language.grammar c.args.language.now).children 0)) ≤ length c.args.nodes.now = rw (← c.children.ensures) (omega arith) in (
      (met.0, (met.1.0, (room, tt))),
      make_work (g.L.Language.grammar c.args.language.now) _ (g.L.Language.limits c.args.language.now) _ _ c.args.nodes.now c.fill.new.self c.put_start.new.nodes
          c.args.values.now c.blank_first.new.values met.1.0.few room c.fill.ensures.len c.put_start.ensures c.blank_first.ensures,
    )
