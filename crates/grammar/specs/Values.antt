-- What values mean that lie in lent memory.
use Rattle.std.specs.Prelude.{ℕ, List, map, slice_index_or}

-- the meaning of the value in row f, by what the row reads as; past the last row the blank's
abbrev pub meaning_at : {R V M : Type 0} → (V → M) → (R → V) → M → List R → ℕ → M
meaning_at means reads blank rows f = slice_index_or (map (λ r. means (reads r)) rows) f blank

-- the meanings of the values in some rows, in order
abbrev pub meanings : {R V M : Type 0} → (V → M) → (R → V) → M → List R → List ℕ → List M
meanings means reads blank rows fs = map (λ f. meaning_at means reads blank rows f) fs
