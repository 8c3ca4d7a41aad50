-- What a figure says: a number within the range, or one of five troubles.
use Rattle.std.specs.Prelude.{ℕ, Bool, cond, ◌&&◌, [], ◌∷◌, ℤ, pos, negsuc, Ok, Err, Result, int_le, nat_le, slice_index_or}
use Rattle.formula.specs.declared.reading.Trouble.{Trouble}
use Rattle.formula.specs.declared.reading.Trouble.TheVariants.{Blank, Hole, OutOfRange, ZeroDivisor, NothingBound}
use Rattle.formula.specs.declared.reading.UnknownTrouble.{UnknownTrouble}

-- what a figure says: its number, or the trouble that stands in the number's place
abbrev pub Reading : Type 0
Reading = Result ℤ Trouble

-- a number lies between -1,000,000,000 and 1,000,000,000
abbrev pub in_range : ℤ → Bool
in_range n = int_le (negsuc 999999999) n && int_le n (pos 1000000000)

-- the number that a trouble goes by
abbrev pub trouble_number : Trouble → ℕ
trouble_number Blank = 0
trouble_number Hole = 1
trouble_number OutOfRange = 2
trouble_number ZeroDivisor = 3
trouble_number NothingBound = 4

-- a reading is lawful where its number lies in the range, or its trouble goes by a number up to 4
abbrev pub lawful : Reading → Bool
lawful (Ok n) = in_range n
lawful (Err t) = nat_le (trouble_number t) 4

-- the trouble that goes by a number, or the number back where none does
abbrev pub numbered_trouble : ℕ → Result Trouble UnknownTrouble
numbered_trouble k = slice_index_or (Ok Blank ∷ Ok Hole ∷ Ok OutOfRange ∷ Ok ZeroDivisor ∷ Ok NothingBound ∷ []) k (Err (record { 0 = k }))

-- the reading of a number: itself, or trouble where it lies outside the range
abbrev pub number_or_trouble : ℤ → Reading
number_or_trouble n = cond (in_range n) (Ok n) (Err OutOfRange)

-- the reading of what comes of a computation: a number outside the range is trouble
abbrev pub as_reading : Result ℤ Trouble → Reading
as_reading (Ok n) = number_or_trouble n
as_reading (Err t) = Err t

-- what stands where there is nothing
abbrev pub blank : Reading
blank = Err Blank
