-- What is promised of the figures of price formulas: which there are, when two mean the same, and what a row reads as.
use Rattle.std.specs.Prelude.{◌≡◌, Ok, Err, ◌<◌, ◌≤◌}
use Rattle.grammar.specs.Limits.{Lawful}
use Rattle.formula.specs.declared.quantity.Quantity.{Quantity}
use Rattle.formula.specs.declared.quantity.row.QuantityRow.{QuantityRow}
use Rattle.formula.specs.declared.reading.Trouble.{Trouble}
use Rattle.formula.specs.Readings.{Reading, blank, trouble_number}

-- a number lies in the range, and a trouble goes by one of the numbers 0 to 4
abbrev pub Within : Reading → Type 0
Within (Ok n) = Lawful n
Within (Err t) = trouble_number t ≤ 4

-- the same case with the same number
abbrev pub Same : Reading → Reading → Type 0
Same (Ok m) (Ok n) = m ≡ n
Same (Ok m) (Err t) = ⊥
Same (Err s) (Ok n) = ⊥
Same (Err s) (Err t) = trouble_number s ≡ trouble_number t

-- what a row reads as: the number or the trouble that it holds, and the blank where it holds neither
abbrev pub Reads : QuantityRow → Reading → Type 0
Reads (QuantityRow.Number n) r = (Lawful n → r ≡ Ok n) × ((Lawful n → ⊥) → r ≡ blank)
Reads (QuantityRow.Trouble k) r = (k ≤ 4 → (t : Trouble) × (r ≡ Err t) × (trouble_number t ≡ k)) × (4 < k → r ≡ blank)

pub record Figures (means : Quantity → Reading) (reads : QuantityRow → Quantity) (nothing : Reading) : Type 0 where
  -- no figure lies outside
  pub within : (q : Quantity) → Within (means q)
  pub same : (p q : Quantity) → (means p ≡ means q → Same (means p) (means q)) × (Same (means p) (means q) → means p ≡ means q)
  pub row : (row : QuantityRow) → Reads row (means (reads row))
  pub blank_is : nothing ≡ Err Trouble.Blank
