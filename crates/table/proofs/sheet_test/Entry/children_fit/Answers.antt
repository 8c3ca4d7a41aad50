use Rattle.std.proofs.Common.{◌≡◌, rules, tests, refl}
use Rattle.std.proofs.lemmas.Iterator.{YieldsList-from_slice, YieldsList-from_zip, cases_from_all}
use Rattle.table.specs.Nodes.{at}
use Rattle.table.proofs.Children.{Fits, few_children, fit_by_pairs}
use Rattle.table.proofs.sheet_test.Entry.children_fit.Goals as goal

pub returns : goal.returns
returns g c =
    let gr = g.L.Language.grammar c.args.self.now.language.now in
    let ns = c.args.self.now.table.nodes.now in
    let n = c.args.self.now.n in
    let first : c.zip.result.a.rest.now ≡ (at ns n).children = search rules in
    let second : c.zip.result.b.rest.now ≡ gr.children (at ns n).production = search rules in
    fit_by_pairs gr ns n (search rules) (few_children gr _ (g.L.Language.limits c.args.self.now.language.now) _ c.requires _ refl) c.all.result
    (cases_from_all c.all.new.self _ _ (Fits gr ns n) (λ p. Fits gr ns n p → ⊥) c.all.ensures.ran
    (YieldsList-from_zip (YieldsList-from_slice _ first) (YieldsList-from_slice _ second))
    (λ p q k. search (rules, tests)) (λ p q k. search (rules, tests)))
