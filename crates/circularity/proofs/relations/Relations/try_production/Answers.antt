use Rattle.std.proofs.Common.{◌≡◌, ◌∙◌, rules}
use Rattle.circularity.specs.Working.{gathered, outcome, choice}
use Rattle.circularity.proofs.Gathers.{found_in, found_from}
use Rattle.circularity.proofs.relations.Relations.try_production.Goals as goal

pub returns : goal.returns
returns g c =
    let gr = g.L.Language.grammar c.args.production.now.language.now in
    let p = c.args.production.now.number in
    let found : c.gather.result ≡ found_in gr p c.choices-firsts.result c.choices-seconds.result c.choices-thirds.result =
    c.gather.ensures (λ x. gathered (λ y. gathered (λ z. outcome gr p (choice x y z)) c.choices-thirds.result) c.choices-seconds.result)
    (λ x o inside post. search rules) in
    found ∙ found_from gr p c.args.self.now.masks _ _ _ c.choices-firsts.ensures c.choices-seconds.ensures c.choices-thirds.ensures
