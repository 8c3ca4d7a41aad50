-- What is printed so far, and whatever the lines that are left print, is a transcript of the whole.
use Rattle.std.proofs.Common.{ℕ, List, ◌++◌, vec_items}
use Rattle.script.specs.Transcript.{Transcript}
use Rattle.script.specs.Words.{lines, lines_left}
use Rattle.script.proofs.conversation.run.Given as goal

abbrev pub invariant-loop-line : goal.invariant-loop-line
invariant-loop-line g l =
    (others : List ℕ)
    → Transcript g.C.Conversation.answers g.C.Conversation.closing l.conversation (lines_left l.line-iterator) others
    → Transcript g.C.Conversation.answers g.C.Conversation.closing l.fn.conversation (lines l.fn.input) (vec_items l.out ++ others)
