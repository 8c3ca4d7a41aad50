-- The text of an answer, and the answer of the test of circularity.
use Rattle.std.specs.Prelude.{ℕ, List, ◌++◌, Ok, Err, codes, decimal, Result}
use Rattle.circularity.specs.Faults.{number_of, layer_of, named_by, refusal_text}
use Rattle.circularity.specs.declared.Passes.{Passes as Passed}
use Rattle.circularity.specs.declared.fault.LanguageFault.{LanguageFault}
use Rattle.script.specs.declared.answer.Answer.{Answer}
use Rattle.script.specs.declared.answer.Answer.TheVariants.{Done, Passes, Refused, NotAccepted, NoSheet}
use Rattle.script.specs.declared.call.Reason.{Reason}
use Rattle.script.specs.declared.call.Reason.TheVariants.{UnknownCall, WrongNumberOfWords, UnknownLanguage, NoLanguage, LanguageChosen}

abbrev pub reason_text : Reason → List ℕ
reason_text UnknownCall = codes "unknown call"
reason_text WrongNumberOfWords = codes "wrong number of words"
reason_text UnknownLanguage = codes "unknown language"
reason_text NoLanguage = codes "no language chosen"
reason_text LanguageChosen = codes "language already chosen"

abbrev pub answer_text : Answer → List ℕ
answer_text Done = codes "ok"
answer_text (Passes relations) = codes "passes " ++ decimal relations
answer_text (Refused refusal) = refusal_text refusal
answer_text (NotAccepted reason) = codes "not accepted: " ++ reason_text reason
answer_text NoSheet = codes "no sheet"

-- A pass says how many relations there are; a fault is refused by its number, its layer and what it names.
abbrev pub test_answer : Result Passed LanguageFault → Answer
test_answer (Ok passes) = Passes passes.relations
test_answer (Err fault) = Refused (record { number = number_of fault; layer = layer_of fault; named = named_by fault })
