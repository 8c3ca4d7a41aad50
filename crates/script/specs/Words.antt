-- The lines of an input, and the words of a line.
use Rattle.std.specs.Prelude.{◌≡◌, ℕ, ◌<◌, Bool, ◌||◌, List, [], ◌∷◌, length, ◌==◌, true, false, filter, Option, None, Some}
use Rattle.std.specs.List.{slice_split}
use denote.Ref.{Bor}
use Rattle.script.specs.declared.words.Words.{Words}
use Rattle.script.specs.declared.words.Lines.{Lines}

-- the bytes between words: space, tab and carriage return
abbrev pub is_blank : ℕ → Bool
is_blank b = b == 32 || (b == 9 || b == 13)

-- the byte between lines
abbrev pub is_line_feed : ℕ → Bool
is_line_feed b = b == 10

-- The lines of an input: what stands between its line feeds. What follows the last line feed is a line too, mostly an empty one.
abbrev pub lines : List ℕ → List (List ℕ)
lines input = slice_split is_line_feed input

-- whether a piece of a line is not empty
abbrev pub has_bytes : List ℕ → Bool
has_bytes [] = false
has_bytes (b ∷ piece) = true

-- The words of a line: what stands between its blanks, where that is not empty.
abbrev pub words : List ℕ → List (List ℕ)
words line = filter has_bytes (slice_split is_blank line)

-- The first word of a line, and the rest of the line, which has the other words.
pub record FirstWord (line word rest : List ℕ) : Type 0 where
  pub words_are : words line ≡ word ∷ words rest
  pub some : 0 < length word
  pub shorter : length rest < length line

-- The first line of an input, and the rest, which has the other lines.
pub record FirstLine (input line rest : List ℕ) : Type 0 where
  pub lines_are : lines input ≡ line ∷ lines rest
  pub shorter : length rest < length input

-- the words that are left
abbrev pub words_left : Words → List (List ℕ)
words_left ws = words ws.rest.now

-- the lines that are left
abbrev pub lines_from : Option (Bor (List ℕ)) → List (List ℕ)
lines_from None = []
lines_from (Some rest) = lines rest.now

abbrev pub lines_left : Lines → List (List ℕ)
lines_left ls = lines_from ls.rest
