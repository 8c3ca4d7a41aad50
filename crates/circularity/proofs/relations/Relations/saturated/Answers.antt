use Rattle.std.proofs.Common.{◌≡◌, suc, ap, ◌∙◌, rules}
use Rattle.circularity.specs.Working.{grown}
use Rattle.circularity.proofs.Rounds.{nearer}
use Rattle.circularity.proofs.relations.Relations.saturated.Goals as goal

pub loop-found-smaller : goal.loop-found-smaller
loop-found-smaller g c =
    let differs : c.grow.new.self.masks ≡ c.loop-found.found.masks → ⊥ = λ e. search rules in
    nearer (g.L.Language.grammar c.args.language.now) _ (g.L.Language.limits c.args.language.now) c.loop-found.found.masks c.grow.new.self.masks
    c.loop-found.invariant.0 c.loop-found.invariant.1 c.grow.ensures differs

pub loop-found-preserved : goal.loop-found-preserved
loop-found-preserved g c =
    let gr = g.L.Language.grammar c.args.language.now in
    (suc c.loop-found.invariant.0, c.grow.ensures ∙ ap (grown gr gr.productions) c.loop-found.invariant.1)
