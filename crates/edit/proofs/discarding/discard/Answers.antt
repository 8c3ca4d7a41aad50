use Rattle.std.proofs.Common.{List, length, subst}
use Rattle.table.specs.declared.node.Node.{Node}
use Rattle.edit.specs.Gathering.{Gathered}
use Rattle.edit.proofs.FreedClipping.{discard_work}
use Rattle.edit.proofs.Listing.{listed_inside, cut_list_freed}
use Rattle.edit.proofs.discarding.discard.Goals as goal

pub free_listed-requires : goal.free_listed-requires
free_listed-requires g c =
    listed_inside c.args.root c.gather-count.result c.args.nodes.now c.args.waiting.now c.gather-count.new.slots
    (subst (λ (ns : List Node). Gathered ns c.args.root (length ns) c.args.waiting.now c.gather-count.new.slots c.gather-count.result) c.in_ok-table.ensures.table c.gather-count.ensures)

pub returns : goal.returns
returns g c =
    let met = c.in_ok-table.ensures.answer in
    let room = c.in_ok-check_buffer.ensures in
    let root = c.if-not-is_clipping_root.ensures in
    let freed =
    cut_list_freed c.args.root c.gather-count.result c.args.nodes.now c.free_listed.new.nodes c.args.waiting.now c.gather-count.new.slots room.0
    (subst (λ (ns : List Node). Gathered ns c.args.root (length ns) c.args.waiting.now c.gather-count.new.slots c.gather-count.result) c.in_ok-table.ensures.table c.gather-count.ensures)
    c.free_listed.ensures
    in (
      (
        (met.0, (met.1.0, (met.1.1.0, (room.0, (root, tt))))),
        discard_work (g.L.Language.grammar c.args.language.now) c.args.nodes.now c.free_listed.new.nodes c.args.root met.1.1.0 met.1.0.few root
            freed.records _ _ c.args.values.now c.args.waiting.now c.gather-count.new.slots freed.same_waiting,
      ),
      tt,
    )
