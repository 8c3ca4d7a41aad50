-- What is printed: the words of a line, an arrow, the answer.
use Rattle.std.specs.Prelude.{ℕ, List, [], ◌∷◌, ◌++◌, codes}
use Rattle.script.specs.declared.answer.Answer.{Answer}
use Rattle.script.specs.Answers.{answer_text}

-- the words, each with a blank behind it
abbrev pub echoed : List (List ℕ) → List ℕ
echoed [] = []
echoed (word ∷ rest) = word ++ (32 ∷ echoed rest)

-- the arrow, the answer and the line feed
abbrev pub after_arrow : Answer → List ℕ
after_arrow answer = codes "=> " ++ (answer_text answer ++ (10 ∷ []))

-- the whole line
abbrev pub reply : List (List ℕ) → Answer → List ℕ
reply words answer = echoed words ++ after_arrow answer
