-- One line more of the script.
use Rattle.std.proofs.Common.{◌++◌, refl, append_assoc}
use Rattle.script.proofs.conversation.run.Goals as goal

pub loop-line-preserved : goal.loop-line-preserved
loop-line-preserved g c = λ others t.
    let said = c.in_ok-answer_line.ensures in
    rw (said.1, append_assoc)
    (c.loop-line.invariant (said.0 ++ others)
    (rw c.in-Some.ensures.steps (said.0, others, c.answer_line.new.conversation, said.2, t, refl)))
