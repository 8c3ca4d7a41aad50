use Rattle.std.proofs.Common.{◌∙◌}
use Rattle.circularity.proofs.Gathers.{grown_next}
use Rattle.circularity.proofs.relations.Relations.grow.Goals as goal

pub loop-number-preserved : goal.loop-number-preserved
loop-number-preserved g c =
    grown_next (g.L.Language.grammar c.args.language.now) c.loop-number.number c.args.self.now.masks c.loop-number.self.masks c.loop-number.invariant
    _ (c.from.ensures ∙ c.symbol.ensures.value) _ c.try_production-found.ensures
