-- The table of price formulas: for each production its symbol, its children, its rules and its text.
use Rattle.std.specs.Prelude.{ℕ, Bool, true, false, List, [], ◌∷◌, map, length, ℤ, codes, ◌==◌, nat_eq, slice_index, slice_index_or, unsigned_abs}
use Rattle.grammar.specs.declared.language.Occurrence.{Occurrence}
use Rattle.grammar.specs.Grammar.{Grammar, Rule, is_at}
use Rattle.grammar.specs.Text.{Segment, bytes, literal, child}
use Rattle.formula.specs.declared.operation.Operation.{Operation}
use Rattle.formula.specs.declared.operation.Operation.TheVariants.{Nothing, Unbound, Hole, Literal, Same, Sum, Difference, Product, Quotient, Choose}
use Rattle.formula.specs.Operations.{gives}
use Rattle.formula.specs.Readings.{Reading, in_range}

-- one rule: what it gives, by which operation, and of which arguments
pub record Line : Type 0 where
  pub target : Occurrence
  pub operation : Operation
  pub arguments : List Occurrence

pub record Production : Type 0 where
  pub symbol : ℕ
  pub children : List ℕ
  pub lines : List Line
  pub text : List Segment

-- the symbols: the sheet has the attribute val; an expression E inherits it, and has the attribute val
abbrev pub sheet : ℕ
sheet = 0

abbrev pub E : ℕ
E = 1

abbrev pub at : ℕ → ℕ → Occurrence
at i a = record { place = i; attribute = a }

-- a sheet's val, an expression's own it and val, and those of a production's child
abbrev pub sheet_val : Occurrence
sheet_val = at 0 0

abbrev pub it : Occurrence
it = at 0 0

abbrev pub val : Occurrence
val = at 0 1

abbrev pub it_of : ℕ → Occurrence
it_of i = at i 0

abbrev pub val_of : ℕ → Occurrence
val_of i = at i 1

abbrev pub by : Occurrence → Operation → List Occurrence → Line
by target operation arguments = record { target = target; operation = operation; arguments = arguments }

-- a child's it is the production's own
abbrev pub hands_on : ℕ → Line
hands_on i = by (it_of i) Same (it ∷ [])

-- an expression of n children with its text and the rule for its val; its other rules
abbrev pub expression : List ℕ → List Segment → List Line → Production
expression children text lines = record { symbol = E; children = children; lines = lines; text = text }

-- an operation on the vals of two expressions, in the order in which they stand
abbrev pub two : Operation → List ℕ → Production
two operation sign =
    expression (E ∷ E ∷ []) (bytes (codes "(") ∷ child 1 ∷ bytes sign ∷ child 2 ∷ bytes (codes ")") ∷ [])
    (by val operation (val_of 1 ∷ val_of 2 ∷ []) ∷ hands_on 1 ∷ hands_on 2 ∷ [])

abbrev pub the_productions : List Production
the_productions =
    -- 0 sheet: of an expression to which nothing is bound
    record { symbol = sheet; children = E ∷ []; lines = by sheet_val Same (val_of 1 ∷ []) ∷ by (it_of 1) Unbound [] ∷ []; text = child 1 ∷ [] }
    -- 1 hole
    ∷ expression [] (bytes (codes "_") ∷ []) (by val Hole [] ∷ [])
    -- 2 constant
    ∷ expression [] (literal ∷ []) (by val Literal [] ∷ [])
    -- 3 it
    ∷ expression [] (bytes (codes "it") ∷ []) (by val Same (it ∷ []) ∷ [])
    -- 4 sum, 5 difference, 6 product, 7 quotient
    ∷ two Sum (codes "+")
    ∷ two Difference (codes "-")
    ∷ two Product (codes "*")
    ∷ two Quotient (codes "/")
    -- 8 choose: the branch that is not taken is an argument too
    ∷ expression (E ∷ E ∷ E ∷ []) (bytes (codes "[") ∷ child 1 ∷ bytes (codes "?") ∷ child 2 ∷ bytes (codes ":") ∷ child 3 ∷ bytes (codes "]") ∷ [])
    (by val Choose (val_of 1 ∷ val_of 2 ∷ val_of 3 ∷ []) ∷ hands_on 1 ∷ hands_on 2 ∷ hands_on 3 ∷ [])
    -- 9 let: the second child's it is the first child's val
    ∷ expression (E ∷ E ∷ []) (bytes (codes "{") ∷ child 1 ∷ bytes (codes ";") ∷ child 2 ∷ bytes (codes "}") ∷ [])
    (by val Same (val_of 2 ∷ []) ∷ hands_on 1 ∷ by (it_of 2) Same (val_of 1 ∷ []) ∷ [])
    ∷ []

-- production p; past the last one an expression of nothing, which means nothing
abbrev pub production : ℕ → Production
production p = slice_index_or the_productions p (expression [] [] [])

abbrev pub rule_of : Line → Rule
rule_of l = record { target = l.target; arguments = l.arguments }

-- a constant accepts every number in the range, every other production 0 alone
abbrev pub accepted : ℕ → ℤ → Bool
accepted p l = elim (p == 2) [ true ↦ in_range l | false ↦ nat_eq (unsigned_abs l) 0 ]

abbrev pub formula_grammar : Grammar
formula_grammar =
    record {
      symbols = 2;
      productions = length the_productions;
      inherited = λ s. slice_index (0 ∷ 1 ∷ []) s;
      synthesized = λ s. slice_index (1 ∷ 1 ∷ []) s;
      symbol = λ p. (production p).symbol;
      children = λ p. (production p).children;
      rules = λ p. map rule_of (production p).lines;
      accepts = accepted;
    }

-- the operation of the rule for attribute a at place i: that of the first rule with that target
abbrev pub operation_in : List Line → ℕ → ℕ → Operation
operation_in [] i a = Nothing
operation_in (l ∷ ls) i a = elim (is_at l.target i a) [ true ↦ l.operation | false ↦ operation_in ls i a ]

abbrev pub operation_of : ℕ → ℕ → ℕ → Operation
operation_of p i a = operation_in (production p).lines i a

abbrev pub formula_text : ℕ → List Segment
formula_text p = (production p).text

-- the function of the rule for attribute a at place i of production p, of the literal and the arguments
abbrev pub formula_rule : ℕ → ℕ → ℕ → ℤ → List Reading → Reading
formula_rule p i a = gives (operation_of p i a)
