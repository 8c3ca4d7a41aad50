-- The name of a call, byte by byte.
use Rattle.std.proofs.Common.{sym, ap, ◌∙◌, codes, arith, rules}
use Rattle.std.proofs.lemmas.Slice.Eq.{text_from_reads}
use Rattle.script.specs.Reading.{call_of}
use Rattle.script.specs.Words.{words_left}
use Rattle.script.proofs.reading.call_of.Goals as goal

pub returns-in-language : goal.returns-in-language
returns-in-language c =
    c.language_call.ensures
    ∙ sym (ap (λ name. call_of name (words_left c.args.arguments)) (text_from_reads c.args.name.now (codes "language") (omega arith) (search rules)))
