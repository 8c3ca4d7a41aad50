-- Where a rule takes nothing, its function is found by the numbers alone.
use Rattle.plan.proofs.language.PlanLanguage.evaluate.Goals as goal

pub returns-in-1-eq0-eq3 : goal.returns-in-1-eq0-eq3
returns-in-1-eq0-eq3 c = let h = c.in-1-eq0-eq3 in rw (h.is-0, h.is-1, h.is-2)

pub returns-in-2-eq0-eq1 : goal.returns-in-2-eq0-eq1
returns-in-2-eq0-eq1 c = let h = c.in-2-eq0-eq1 in rw (h.is-0, h.is-1, h.is-2)

pub returns-in-2-eq0-eq2 : goal.returns-in-2-eq0-eq2
returns-in-2-eq0-eq2 c = let h = c.in-2-eq0-eq2 in rw (h.is-0, h.is-1, h.is-2)

pub returns-in-6-eq0-eq2 : goal.returns-in-6-eq0-eq2
returns-in-6-eq0-eq2 c = let h = c.in-6-eq0-eq2 in rw (h.is-0, h.is-1, h.is-2)
