-- What a figure's row reads as.
use Rattle.std.specs.Prelude.{◌≡◌, Bool, true, false, cond, T, Ok, Err, refl}
use mathlib.Core.HLevel.{is_prop→PathP}
use Rattle.std.proofs.Math.Dec.{T_prop}
use Rattle.formula.specs.declared.quantity.Quantity.{Quantity}
use Rattle.formula.specs.declared.quantity.row.QuantityRow.{QuantityRow}
use Rattle.formula.specs.Readings.{Reading, lawful, blank, numbered_trouble}

-- what a figure says is its meaning
abbrev pub reading_of : Quantity → Reading
reading_of q = q.reading

-- what a row says, whether or not it is lawful
abbrev pub row_reading : QuantityRow → Reading
row_reading (QuantityRow.Number n) = Ok n
row_reading (QuantityRow.Trouble k) = elim (numbered_trouble k) [ Ok t ↦ Err t | Err e ↦ blank ]

-- a lawful reading as it is, the blank for any other
abbrev pub kept : Reading → Reading
kept r = cond (lawful r) r blank

pub kept_lawful : (r : Reading) → T (lawful (kept r))
kept_lawful r = decided (lawful r) refl
  where
    decided : (b : Bool) → lawful r ≡ b → T (lawful (cond b r blank))
    decided true e = rw e tt
    decided false e = tt

-- the figure that a row reads as: a row that holds no lawful figure reads as the blank
abbrev pub read : QuantityRow → Quantity
read row = record { reading = kept (row_reading row); within = kept_lawful (row_reading row) }

-- Figures that say the same are the same.
pub same_figure : (p q : Quantity) → p.reading ≡ q.reading → p ≡ q
same_figure p q e = λ i. record { reading = e i; within = is_prop→PathP (λ j. T (lawful (e j))) (λ j. T_prop (lawful (e j))) p.within q.within i }
