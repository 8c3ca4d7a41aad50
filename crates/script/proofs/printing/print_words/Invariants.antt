-- What is printed, and the words that are left, make up all the words.
use Rattle.std.proofs.Common.{◌≡◌, ◌++◌, vec_items}
use Rattle.script.specs.Printed.{echoed}
use Rattle.script.specs.Words.{words, words_left}
use Rattle.script.proofs.printing.print_words.Given as goal

abbrev pub invariant-loop-word : goal.invariant-loop-word
invariant-loop-word l =
    vec_items l.out ++ echoed (words_left l.word-iterator) ≡ vec_items l.initial.out ++ echoed (words l.line)
