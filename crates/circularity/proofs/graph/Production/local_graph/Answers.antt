use Rattle.std.proofs.Common.{rules}
use Rattle.circularity.specs.Working.{row_of}
use Rattle.circularity.proofs.Filled.{filled}
use Rattle.circularity.proofs.graph.Production.local_graph.Goals as goal

pub returns : goal.returns
returns g c =
    filled _ (row_of (g.L.Language.grammar c.args.self.now.language.now) c.args.self.now.number c.args.choice) _ (λ i y f' k. search rules)
    c.from_fn.result 16 c.from_fn.ensures.items
