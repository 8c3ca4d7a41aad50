-- The table of tallies: symbols, attributes, productions with their rules, the literals that they accept, and their texts.
use Rattle.std.specs.Prelude.{Bool, true, false, List, [], ◌∷◌, map, ℕ, codes, eqb, leb, ℤ, pos, negsuc, nat_abs, length, get_or}
use Rattle.grammar.specs.declared.language.Occurrence.{Occurrence}
use Rattle.grammar.specs.Grammar.{Grammar, is_at}
use Rattle.grammar.specs.Text.{Segment, bytes, literal, child}
use Rattle.tally.specs.declared.operation.Operation.{Operation}
use Rattle.tally.specs.declared.operation.Operation.TheVariants.{Nothing, Same, PlusLiteral}
use Rattle.tally.specs.Operations.{gives}

-- Symbol 0 is a sheet, which has its total; symbol 1 is an item, which inherits what was counted before it and has what is counted after it.
abbrev pub item : ℕ
item = 1

abbrev pub total : Occurrence
total = record { place = 0; attribute = 0 }

abbrev pub before : ℕ → Occurrence
before place = record { place = place; attribute = 0 }

abbrev pub after : ℕ → Occurrence
after place = record { place = place; attribute = 1 }

-- a rule: what it gives, by which operation, and what it takes
pub record Line : Type 0 where
  pub target : Occurrence
  pub operation : Operation
  pub arguments : List Occurrence

abbrev pub by : Occurrence → Operation → List Occurrence → Line
by target operation arguments = record { target = target; operation = operation; arguments = arguments }

pub record Production : Type 0 where
  pub symbol : ℕ
  pub children : List ℕ
  pub text : List Segment
  pub rules : List Line

-- past the last production an item of nothing, which means nothing
abbrev pub no_production : Production
no_production = record { symbol = item; children = []; text = []; rules = [] }

abbrev pub the_productions : List Production
the_productions =
    -- 0 sheet: of an item before which nothing was counted
    record {
      symbol = 0;
      children = item ∷ [];
      text = child 1 ∷ [];
      rules = by total Same (after 1 ∷ []) ∷ by (before 1) Nothing [] ∷ [];
    }
    -- 1 the hole of items counts nothing
    ∷ record {
      symbol = item;
      children = [];
      text = bytes (codes "_") ∷ [];
      rules = by (after 0) Same (before 0 ∷ []) ∷ [];
    }
    -- 2 amount: its literal is counted
    ∷ record {
      symbol = item;
      children = [];
      text = literal ∷ [];
      rules = by (after 0) PlusLiteral (before 0 ∷ []) ∷ [];
    }
    -- 3 pair: one item, then another
    ∷ record {
      symbol = item;
      children = item ∷ item ∷ [];
      text = bytes (codes "(") ∷ child 1 ∷ bytes (codes " ") ∷ child 2 ∷ bytes (codes ")") ∷ [];
      rules = by (before 1) Same (before 0 ∷ []) ∷ by (before 2) Same (after 1 ∷ []) ∷ by (after 0) Same (after 2 ∷ []) ∷ [];
    }
    ∷ []

abbrev pub production : ℕ → Production
production p = get_or the_productions p no_production

-- the literals that a production accepts: an amount 0 to 999, every other production 0 alone
abbrev pub to_999 : ℤ → Bool
to_999 (pos n) = leb n 999
to_999 (negsuc n) = false

abbrev pub accepted : ℕ → ℤ → Bool
accepted p l = elim (eqb p 2) [ true ↦ to_999 l | false ↦ eqb (nat_abs l) 0 ]

abbrev pub tally_grammar : Grammar
tally_grammar =
    record {
      symbols = 2;
      productions = length the_productions;
      inherited = λ s. get_or (0 ∷ 1 ∷ []) s 0;
      synthesized = λ s. get_or (1 ∷ 1 ∷ []) s 0;
      symbol = λ p. (production p).symbol;
      children = λ p. (production p).children;
      rules = λ p. map (λ r. record { target = r.target; arguments = r.arguments }) (production p).rules;
      accepts = accepted;
    }

-- the operation of the first rule that gives attribute a at place i; where there is none, nothing
abbrev pub operation_in : List Line → ℕ → ℕ → Operation
operation_in [] i a = Nothing
operation_in (r ∷ rs) i a = elim (is_at r.target i a) [ true ↦ r.operation | false ↦ operation_in rs i a ]

abbrev pub operation_of : ℕ → ℕ → ℕ → Operation
operation_of p i a = operation_in (production p).rules i a

-- the function of the rule for attribute a at place i of production p, of the literal and of what its arguments mean
abbrev pub tally_rule : ℕ → ℕ → ℕ → ℤ → List ℕ → ℕ
tally_rule p i a = gives (operation_of p i a)

abbrev pub tally_text : ℕ → List Segment
tally_text p = (production p).text
