-- What the test of a language is answered.
use Rattle.std.specs.Prelude.{◌≡◌, Result}
use Rattle.grammar.specs.Grammar.{Grammar}
use Rattle.circularity.specs.Verdict.{Verdict}
use Rattle.circularity.specs.declared.Passes.{Passes}
use Rattle.circularity.specs.declared.fault.LanguageFault.{LanguageFault}
use Rattle.script.specs.declared.answer.Answer.{Answer}
use Rattle.script.specs.Answers.{test_answer}

-- the answer says what a true verdict on the table says
abbrev pub Tested : Grammar → Answer → Type 0
Tested grammar answer = (verdict : Result Passes LanguageFault) × Verdict grammar verdict × (answer ≡ test_answer verdict)
