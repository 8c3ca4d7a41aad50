-- The figures of a plan: what a rule reads in one, and what a row in lent memory reads as.
-- A figure's meaning is the figure itself: two are the same exactly when they are the same case with the same number.
use Rattle.std.specs.Prelude.{◌≡◌, ℕ, zero, suc, ◌<◌}
use Rattle.plan.specs.declared.figure.PlanType.{PlanType}
use Rattle.plan.specs.declared.figure.PlanType.TheVariants.{Unknown, Number, Truth}
use Rattle.plan.specs.declared.figure.PlanFigure.{PlanFigure}
use Rattle.plan.specs.declared.figure.PlanRow.{PlanRow}

-- the types by their numbers
abbrev pub number_of_type : PlanType → ℕ
number_of_type Unknown = 0
number_of_type Number = 1
number_of_type Truth = 2

-- a number that is no type's stands for the unknown type
abbrev pub type_of_number : ℕ → PlanType
type_of_number zero = Unknown
type_of_number (suc zero) = Number
type_of_number (suc (suc zero)) = Truth
type_of_number (suc (suc (suc n))) = Unknown

-- the blank
abbrev pub blank_figure : PlanFigure
blank_figure = PlanFigure.«Type» Unknown

-- the figure that a row reads as; a type above 2 reads as the blank
abbrev pub read_row : PlanRow → PlanFigure
read_row (PlanRow.Scope s) = PlanFigure.Scope s
read_row (PlanRow.«Type» n) = PlanFigure.«Type» (type_of_number n)
read_row (PlanRow.Count n) = PlanFigure.Count n

-- what a rule reads in a figure: a figure of another kind than it wants reads as scope 0, type 0 or count 0
abbrev pub scope_in : PlanFigure → ℕ
scope_in (PlanFigure.Scope s) = s
scope_in (PlanFigure.«Type» t) = 0
scope_in (PlanFigure.Count n) = 0

abbrev pub type_in : PlanFigure → PlanType
type_in (PlanFigure.Scope s) = Unknown
type_in (PlanFigure.«Type» t) = t
type_in (PlanFigure.Count n) = Unknown

abbrev pub count_in : PlanFigure → ℕ
count_in (PlanFigure.Scope s) = 0
count_in (PlanFigure.«Type» t) = 0
count_in (PlanFigure.Count n) = n

-- the same case with the same number
abbrev pub SameFigure : PlanFigure → PlanFigure → Type 0
SameFigure (PlanFigure.Scope s) (PlanFigure.Scope t) = s ≡ t
SameFigure (PlanFigure.Scope s) (PlanFigure.«Type» t) = ⊥
SameFigure (PlanFigure.Scope s) (PlanFigure.Count t) = ⊥
SameFigure (PlanFigure.«Type» s) (PlanFigure.Scope t) = ⊥
SameFigure (PlanFigure.«Type» s) (PlanFigure.«Type» t) = number_of_type s ≡ number_of_type t
SameFigure (PlanFigure.«Type» s) (PlanFigure.Count t) = ⊥
SameFigure (PlanFigure.Count s) (PlanFigure.Scope t) = ⊥
SameFigure (PlanFigure.Count s) (PlanFigure.«Type» t) = ⊥
SameFigure (PlanFigure.Count s) (PlanFigure.Count t) = s ≡ t

-- What the figures of plans are, for the meaning of a figure, the figure of a row, and the blank's meaning.
pub record PlanFigures (means : PlanFigure → PlanFigure) (reads : PlanRow → PlanFigure) (nothing : PlanFigure) : Type 0 where
  -- a figure means itself, so two mean the same exactly when they are the same case with the same number
  pub means_itself : (f : PlanFigure) → means f ≡ f
  pub same_case_and_number : (f g : PlanFigure) → means f ≡ means g → SameFigure f g
  pub told_by_case_and_number : (f g : PlanFigure) → SameFigure f g → means f ≡ means g
  -- every row reads as a figure; a type above 2 reads as the blank
  pub reads_rows : (r : PlanRow) → reads r ≡ read_row r
  pub unlawful_is_blank : (n : ℕ) → 2 < n → means (reads (PlanRow.«Type» n)) ≡ nothing
  -- the blank is type 0
  pub blank_is : nothing ≡ PlanFigure.«Type» Unknown
