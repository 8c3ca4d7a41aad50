use Rattle.std.proofs.Common.{sym, ap, ◌∙◌, arith, below_none, below_more}
use Rattle.circularity.proofs.Bits.{T_true, T_false}
use Rattle.circularity.proofs.Rounds.{saturated_passes, saturated_culprit}
use Rattle.circularity.proofs.test.Goals as goal

pub loop-number-init : goal.loop-number-init
loop-number-init g c = below_none _

pub loop-number-preserved : goal.loop-number-preserved
loop-number-preserved g c =
    below_more _ _ c.loop-number.invariant (T_false _ (sym (ap (λ o. o.cyclic) c.try_production.ensures) ∙ c.if-try_production.false))

pub returns : goal.returns
returns g c =
    saturated_passes (g.L.Language.grammar c.args.language.now) _ (g.L.Language.limits c.args.language.now) c.saturated-found.result.masks
    c.saturated-found.ensures (λ p h. c.loop-number.invariant p (omega (arith, c.productions-number-end.ensures))) _ c.count.ensures

pub returns-then-try_production : goal.returns-then-try_production
returns-then-try_production g c =
    saturated_culprit (g.L.Language.grammar c.args.language.now) _ (g.L.Language.limits c.args.language.now) c.saturated-found.result.masks
    c.saturated-found.ensures c.loop-number.number (omega (arith, c.productions-number-end.ensures))
    (T_true _ (sym (ap (λ o. o.cyclic) c.try_production.ensures) ∙ c.if-try_production.true))
