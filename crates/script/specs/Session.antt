-- What a session answers to each call, and the language chosen after it, for the languages of a program.
use Rattle.std.specs.Prelude.{◌≡◌, Option, None, Some, Result, Ok, Err}
use Rattle.grammar.specs.Grammar.{Grammar}
use Rattle.script.specs.declared.answer.Answer.{Answer}
use Rattle.script.specs.declared.answer.Answer.TheVariants.{Done, NotAccepted}
use Rattle.script.specs.declared.call.Call.{Call}
use Rattle.script.specs.declared.call.Call.TheVariants.{Language, Test}
use Rattle.script.specs.declared.call.LanguageName.{LanguageName}
use Rattle.script.specs.declared.call.Reason.{Reason}
use Rattle.script.specs.declared.call.Reason.TheVariants.{NoLanguage}
use Rattle.script.specs.Testing.{Tested}

-- the language is the one that the session works in from here on, or what is chosen stays, and the answer says why
abbrev pub ChosenAs : {L : Type 0} → Result L Reason → Option L → Answer → Option L → Type 0
ChosenAs (Ok language) before answer after = (answer ≡ Done) × (after ≡ Some language)
ChosenAs (Err reason) before answer after = (answer ≡ NotAccepted reason) × (after ≡ before)

-- A test is one of the language chosen.
abbrev pub TestedIn : {L : Type 0} → (L → Grammar) → Option L → Answer → Type 0
TestedIn grammar None answer = answer ≡ NotAccepted NoLanguage
TestedIn grammar (Some language) answer = Tested (grammar language) answer

-- which answer a call gets, and the language chosen after it
abbrev pub Answered : {L : Type 0} → (Option L → LanguageName → Result L Reason) → (L → Grammar) → Option L → Call → Answer → Option L → Type 0
Answered choice grammar before (Language name) answer after = ChosenAs (choice before name) before answer after
Answered choice grammar before Test answer after = TestedIn grammar before answer × (after ≡ before)
