use Rattle.std.proofs.Common.{◌≡◌, get_or, set, ap, ◌∙◌, rules}
use Rattle.std.proofs.lemmas.List.{get_or_default}
use Rattle.std.proofs.lemmas.List.Edits.{map_over_more}
use Rattle.circularity.proofs.Turns.{taken}
use Rattle.circularity.proofs.graph.Graph.go_through.Goals as goal
use Rattle.circularity.proofs.graph.Graph.go_through.Goals.{then-has, else-has}

pub loop-row-preserved : goal.loop-row-preserved
loop-row-preserved c =
    let start = c.args.self.now.rows in
    let rows = c.loop-row.row-items in
    let i = c.loop-row.row-index in
    let row = get_or rows i 0 in
    let here : c.if-has.row ≡ taken start c.args.vertex row = elim c.if-has.branch [ then-has w ↦ search rules | else-has w ↦ search rules ] in
    ap (set rows i) here
    ∙ map_over_more (taken start c.args.vertex) start rows i row (search rules) c.loop-row.invariant (get_or_default rows i 0 row (search rules))
