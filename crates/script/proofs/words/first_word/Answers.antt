-- The first word: lemmas on where bytes are cut.
use Rattle.std.proofs.Common.{rules}
use Rattle.std.proofs.lemmas.List.{take_rest}
use Rattle.script.proofs.Cutting.{no_word, first_word}
use Rattle.script.proofs.words.first_word.Goals as goal

pub returns-in_err-start : goal.returns-in_err-start
returns-in_err-start c = rw c.from_residual.ensures (no_word c.args.line.now (search rules))

pub returns : goal.returns
returns c =
    let cut = first_word c.args.line.now _ c.in_ok-start.start c.position-end.result (take_rest c.args.line.now c.in_ok-start.start)
    (search rules, search rules, search rules) (search rules) in
    search rules
