use Rattle.std.proofs.Common.{◌≡◌, ◌*◌, ◌%◌, ◌^◌, ap, ◌∙◌, ap₂}
use Rattle.circularity.specs.declared.graph.Outcome.{Outcome}
use Rattle.circularity.specs.Bits.{closed_below}
use Rattle.circularity.specs.Working.{relation_in, rows_of, has_cycle, outcome}
use Rattle.circularity.proofs.graph.Production.outcome.Goals as goal

pub returns : goal.returns
unfolding outcome
returns g c =
    let gr = g.L.Language.grammar c.args.self.now.language.now in
    let p = c.args.self.now.number in
    let closed : c.close.new.self.rows ≡ closed_below 16 (rows_of gr p c.args.choice) = c.close.ensures ∙ ap (closed_below 16) c.local_graph-graph.ensures in
    let h_is : c.inherited.result ≡ gr.inherited (gr.symbol p) = c.inherited.ensures ∙ ap gr.inherited c.symbol-symbol.ensures.value in
    let s_is : c.synthesized.result ≡ gr.synthesized (gr.symbol p) = c.synthesized.ensures ∙ ap gr.synthesized c.symbol-symbol.ensures.value in
    ap₂ {C = Outcome} (λ r b. record { relations = (1 * 2 ^ r) % 2 ^ 16; cyclic = b })
    (c.own_relation-relation.ensures.value ∙ ap (λ rows. relation_in rows c.inherited.result c.synthesized.result) closed
    ∙ ap₂ (relation_in (closed_below 16 (rows_of gr p c.args.choice))) h_is s_is)
    (c.has_cycle.ensures ∙ ap has_cycle closed)
