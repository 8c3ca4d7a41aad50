-- The first line: lemmas on where bytes are cut.
use Rattle.std.proofs.Common.{rules}
use Rattle.script.proofs.Cutting.{whole, first_line}
use Rattle.script.specs.Words.{is_line_feed}
use Rattle.script.proofs.words.first_line.Goals as goal

pub returns-in-None : goal.returns-in-None
returns-in-None c = whole is_line_feed c.args.input.now (search rules)

pub returns-in-Some : goal.returns-in-Some
returns-in-Some c = first_line c.args.input.now c.in-Some.end (search rules, search rules, search rules)
