-- The function of each rule of a plan, of the literal and of the figures that it takes.
use Rattle.std.specs.Prelude.{ℕ, ◌+◌, ◌/◌, ◌%◌, min, cond, List, ℤ, pos, negsuc, ◌==◌, slice_index_or}
use Rattle.plan.specs.declared.figure.PlanType.{PlanType}
use Rattle.plan.specs.declared.figure.PlanType.TheVariants.{Unknown, Number, Truth}
use Rattle.plan.specs.declared.figure.PlanFigure.{PlanFigure}
use Rattle.plan.specs.Figures.{blank_figure, type_of_number, scope_in, type_in, count_in}
use Rattle.plan.specs.Scope.{entry, declared, overlaid}

-- what a rule is: a function of the literal and the arguments
abbrev pub Function : Type 0
Function = ℤ → List PlanFigure → PlanFigure

-- argument k, read as a scope, a type or a count; the blank where there is none
abbrev pub scope_at : List PlanFigure → ℕ → ℕ
scope_at arguments k = scope_in (slice_index_or arguments k blank_figure)

abbrev pub type_at : List PlanFigure → ℕ → PlanType
type_at arguments k = type_in (slice_index_or arguments k blank_figure)

abbrev pub count_at : List PlanFigure → ℕ → ℕ
count_at arguments k = count_in (slice_index_or arguments k blank_figure)

-- rules without arguments
abbrev pub no_names : Function
no_names l arguments = PlanFigure.Scope 0

abbrev pub the_type : PlanType → Function
the_type t l arguments = PlanFigure.«Type» t

abbrev pub none_bad : Function
none_bad l arguments = PlanFigure.Count 0

-- rules that hand a figure on
abbrev pub same_scope : Function
same_scope l arguments = PlanFigure.Scope (scope_at arguments 0)

abbrev pub same_count : Function
same_count l arguments = PlanFigure.Count (count_at arguments 0)

-- counts add up to 65,535
abbrev pub capped : ℕ → ℕ
capped n = min n 65535

abbrev pub both_bad : Function
both_bad l arguments = PlanFigure.Count (capped (count_at arguments 0 + count_at arguments 1))

-- The number that a literal stands for. No negative literal is accepted where this number is asked for; rules are total all the same,
-- and 128 stands for such a literal: it is no name's number, and 128 / 4 is none either.
abbrev pub literal_number : ℤ → ℕ
literal_number (pos n) = n
literal_number (negsuc n) = 128

-- A declaration's literal is 4 * name + type; a literal that is not accepted is taken apart in the same way.
abbrev pub declared_name : ℤ → ℕ
declared_name l = literal_number l / 4

abbrev pub declared_type : ℤ → ℕ
declared_type l = literal_number l % 4

-- the scope after a declaration; arguments past the first are ignored
abbrev pub with_declared : Function
with_declared l arguments = PlanFigure.Scope (declared (scope_at arguments 0) (declared_name l) (declared_type l))

-- 1 if a term's type is known and another than the declared one, else 0
abbrev pub mismatch : PlanType → ℕ → ℕ
mismatch Unknown d = 0
mismatch Number d = cond (d == 1) 0 1
mismatch Truth d = cond (d == 2) 0 1

-- a declaration is as bad as its term, and 1 more at a mismatch
abbrev pub declaration_bad : Function
declaration_bad l arguments = PlanFigure.Count (capped (count_at arguments 1 + mismatch (type_at arguments 0) (declared_type l)))

-- what a block's inside sees: its own names over those outside
abbrev pub inside_scope : Function
inside_scope l arguments = PlanFigure.Scope (overlaid (scope_at arguments 0) (scope_at arguments 1))

-- the type that a scope has for the name that the literal is: unknown for a name that is undeclared or declared twice
abbrev pub type_of_name : ℕ → ℤ → PlanType
type_of_name scope l = type_of_number (entry scope (literal_number l))

abbrev pub name_type : Function
name_type l arguments = PlanFigure.«Type» (type_of_name (scope_at arguments 0) l)

-- 1 for an unknown type, else 0
abbrev pub unknowns : PlanType → ℕ
unknowns Unknown = 1
unknowns Number = 0
unknowns Truth = 0

abbrev pub name_bad : Function
name_bad l arguments = PlanFigure.Count (unknowns (type_of_name (scope_at arguments 0) l))

-- 1 for a truth, which cannot be compared, else 0
abbrev pub truths : PlanType → ℕ
truths Unknown = 0
truths Number = 0
truths Truth = 1

abbrev pub comparison_bad : Function
comparison_bad l arguments =
    PlanFigure.Count (capped (count_at arguments 2 + count_at arguments 3 + truths (type_at arguments 0) + truths (type_at arguments 1)))
