-- What a program prints for a script, by what its conversation answers to each call.
use Rattle.std.specs.Prelude.{◌≡◌, ℕ, List, [], ◌∷◌, ◌++◌, codes, Option, None, Some, Result, Ok, Err}
use Rattle.std.specs.Io.KnownBytes.{Appends}
use Rattle.script.specs.declared.answer.Answer.{Answer}
use Rattle.script.specs.declared.answer.Answer.TheVariants.{NotAccepted}
use Rattle.script.specs.declared.call.Call.{Call}
use Rattle.script.specs.declared.call.Reason.{Reason}
use Rattle.script.specs.Printed.{reply}
use Rattle.script.specs.Reading.{line_of}
use Rattle.script.specs.Words.{words}

-- What is printed for a line, and the conversation after it. `answers before call answer after` says that a call is answered so.
-- A line that is passed over prints nothing; a line that makes no call prints why, and changes nothing.
abbrev pub PrintedFor : {S : Type 0} → (S → Call → Answer → S → Type 0) → S → List (List ℕ) → Option (Result Call Reason) → List ℕ → S → Type 0
PrintedFor answers before words None printed after = (printed ≡ []) × (after ≡ before)
PrintedFor answers before words (Some (Err reason)) printed after = (printed ≡ reply words (NotAccepted reason)) × (after ≡ before)
PrintedFor answers before words (Some (Ok call)) printed after =
    (answer : Answer) × (printed ≡ reply words answer) × answers before call answer after

-- what one line of the script prints
abbrev pub Prints : {S : Type 0} → (S → Call → Answer → S → Type 0) → S → List ℕ → List ℕ → S → Type 0
Prints answers before line printed after = PrintedFor answers before (words line) (line_of line) printed after

-- the line that is printed at the end of the script
abbrev pub last_line : Answer → List ℕ
last_line answer = reply (codes "end" ∷ []) answer

-- what the lines of a script print, one after the other, and the line at the end
abbrev pub Transcript : {S : Type 0} → (S → Call → Answer → S → Type 0) → (S → Answer) → S → List (List ℕ) → List ℕ → Type 0
Transcript answers closing before [] printed = printed ≡ last_line (closing before)
Transcript {S} answers closing before (line ∷ rest) printed =
    (first : List ℕ) × (others : List ℕ) × (after : S) × Prints answers before line first after
    × Transcript answers closing after rest others × (printed ≡ first ++ others)

-- A transcript of the script goes to a writer, behind what it holds.
abbrev pub Said : {S : Type 0} → (S → Call → Answer → S → Type 0) → (S → Answer) → S → List (List ℕ) → Option (List ℕ) → Option (List ℕ) → Type 0
Said answers closing before script held holds =
    (printed : List ℕ) × Transcript answers closing before script printed × Appends held holds printed
