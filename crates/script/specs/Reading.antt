-- Which line makes which call.
use Rattle.std.specs.Prelude.{ℕ, List, [], ◌∷◌, codes, ◌==◌, if◌then◌else◌, slice_index, Option, Some, None, Result, Ok, Err}
use Rattle.std.specs.Str.{bytes_eq}
use Rattle.script.specs.declared.call.LanguageName.{LanguageName}
use Rattle.script.specs.declared.call.LanguageName.TheVariants.{Formula, Plan, Altered}
use Rattle.script.specs.declared.call.Call.{Call}
use Rattle.script.specs.declared.call.Call.TheVariants.{Language, Test}
use Rattle.script.specs.declared.call.Reason.{Reason}
use Rattle.script.specs.declared.call.Reason.TheVariants.{UnknownCall, WrongNumberOfWords, UnknownLanguage}
use Rattle.script.specs.Words.{words}

-- the language of a name
abbrev pub language_named : List ℕ → Result LanguageName Reason
language_named name =
    if bytes_eq name (codes "formula") then Ok Formula
    else (if bytes_eq name (codes "plan") then Ok Plan
    else (if bytes_eq name (codes "altered") then Ok Altered else Err UnknownLanguage))

-- the call that chooses a language
abbrev pub choice : Result LanguageName Reason → Result Call Reason
choice (Ok language) = Ok (Language language)
choice (Err reason) = Err reason

-- the words behind `language`: the name of a language
abbrev pub language_call : List (List ℕ) → Result Call Reason
language_call [] = Err WrongNumberOfWords
language_call (name ∷ []) = choice (language_named name)
language_call (name ∷ more ∷ rest) = Err WrongNumberOfWords

-- the words behind `test`: none
abbrev pub test_call : List (List ℕ) → Result Call Reason
test_call [] = Ok Test
test_call (more ∷ rest) = Err WrongNumberOfWords

-- the first word names the call, and the others are its arguments
abbrev pub call_of : List ℕ → List (List ℕ) → Result Call Reason
call_of name arguments =
    if bytes_eq name (codes "language") then language_call arguments
    else (if bytes_eq name (codes "test") then test_call arguments else Err UnknownCall)

-- A line without words and a comment, whose first word begins with `#`, are passed over.
abbrev pub words_line : List (List ℕ) → Option (Result Call Reason)
words_line [] = None
words_line (name ∷ arguments) = if slice_index name 0 == 35 then None else Some (call_of name arguments)

-- what a line is, by its words alone
abbrev pub line_of : List ℕ → Option (Result Call Reason)
line_of line = words_line (words line)
