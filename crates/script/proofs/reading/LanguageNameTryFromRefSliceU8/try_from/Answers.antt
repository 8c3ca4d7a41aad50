-- The name of a language, byte by byte.
use Rattle.std.proofs.Common.{sym, ap, codes, arith, rules}
use Rattle.std.proofs.lemmas.Slice.Eq.{text_from_reads}
use Rattle.script.specs.Reading.{language_named}
use Rattle.script.proofs.reading.LanguageNameTryFromRefSliceU8.try_from.Goals as goal

pub returns-in-formula : goal.returns-in-formula
returns-in-formula c = sym (ap language_named (text_from_reads c.args.name.now (codes "formula") (omega arith) (search rules)))

pub returns-in-altered : goal.returns-in-altered
returns-in-altered c = sym (ap language_named (text_from_reads c.args.name.now (codes "altered") (omega arith) (search rules)))
