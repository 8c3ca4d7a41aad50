-- The table of plans: symbols, attributes, productions with their rules, the literals that they accept, and their texts.
use Rattle.std.specs.Prelude.{ℕ, ◌%◌, Bool, true, false, ◌&&◌, ◌||◌, List, [], ◌∷◌, map, ℤ, pos, negsuc, codes, ◌==◌, nat_lt, slice_index, slice_index_or}
use Rattle.std.specs.Int.Signed.{le_z}
use Rattle.grammar.specs.declared.language.Occurrence.{Occurrence}
use Rattle.grammar.specs.Grammar.{Grammar, is_at}
use Rattle.grammar.specs.Text.{Segment, bytes, literal, child}
use Rattle.plan.specs.declared.figure.PlanType.TheVariants.{Unknown, Number, Truth}
use Rattle.plan.specs.Figures.{blank_figure}
use Rattle.plan.specs.Rules.{Function, no_names, the_type, none_bad, same_scope, same_count, both_bad, with_declared, declaration_bad, inside_scope, name_type, name_bad, comparison_bad}

-- Symbol 0 is a plan, symbol 1 a step, symbol 2 a term.
abbrev pub step : ℕ
step = 1

abbrev pub term : ℕ
term = 2

-- A plan has one attribute: how much in it is bad.
abbrev pub plan_bad : ℕ
plan_bad = 0

-- A step inherits the scope of the steps before it in its block, and all that can be seen inside it.
-- It synthesizes the scope after it, and how much in it is bad.
abbrev pub step_in : ℕ
step_in = 0

abbrev pub step_env : ℕ
step_env = 1

abbrev pub step_out : ℕ
step_out = 2

abbrev pub step_bad : ℕ
step_bad = 3

-- A term inherits what can be seen in it, and synthesizes its type and how much in it is bad.
abbrev pub term_env : ℕ
term_env = 0

abbrev pub term_type : ℕ
term_type = 1

abbrev pub term_bad : ℕ
term_bad = 2

abbrev pub inherited_by : ℕ → ℕ
inherited_by symbol = slice_index (0 ∷ 2 ∷ 1 ∷ []) symbol

abbrev pub synthesized_by : ℕ → ℕ
synthesized_by symbol = slice_index (1 ∷ 2 ∷ 2 ∷ []) symbol

-- a production's own attribute, its first child's and its second child's
abbrev pub own : ℕ → Occurrence
own attribute = record { place = 0; attribute = attribute }

abbrev pub first : ℕ → Occurrence
first attribute = record { place = 1; attribute = attribute }

abbrev pub second : ℕ → Occurrence
second attribute = record { place = 2; attribute = attribute }

-- a rule: the attribute that it gives, the attributes that it takes, and its function of the literal and of their figures
pub record PlanRule : Type 0 where
  pub target : Occurrence
  pub arguments : List Occurrence
  pub function : Function

abbrev pub gives : Occurrence → List Occurrence → Function → PlanRule
gives target arguments function = record { target = target; arguments = arguments; function = function }

pub record Production : Type 0 where
  pub symbol : ℕ
  pub children : List ℕ
  pub accepts : ℤ → Bool
  pub text : List Segment
  pub rules : List PlanRule

-- the literals that a production accepts: 0 alone, a declaration's 4 * name + type, any lawful one, or a name
abbrev pub zero_alone : ℤ → Bool
zero_alone (pos n) = n == 0
zero_alone (negsuc n) = false

abbrev pub declaration : ℤ → Bool
declaration (pos n) = nat_lt n 128 && (n % 4 == 1 || n % 4 == 2)
declaration (negsuc n) = false

abbrev pub lawful : ℤ → Bool
lawful l = le_z (negsuc 999999999) l && le_z l (pos 1000000000)

abbrev pub name : ℤ → Bool
name (pos n) = nat_lt n 32
name (negsuc n) = false

-- 0: a plan is a step, which starts with no names and sees the names that it declares itself.
abbrev pub plan_production : Production
plan_production =
    record {
      symbol = 0;
      children = step ∷ [];
      accepts = zero_alone;
      text = child 1 ∷ [];
      rules =
          gives (first step_in) [] no_names
          ∷ gives (first step_env) (first step_out ∷ []) same_scope
          ∷ gives (own plan_bad) (first step_bad ∷ []) same_count
          ∷ [];
    }

-- 1: the hole of steps changes nothing.
abbrev pub step_hole : Production
step_hole =
    record {
      symbol = step;
      children = [];
      accepts = zero_alone;
      text = bytes (codes "~") ∷ [];
      rules = gives (own step_out) (own step_in ∷ []) same_scope ∷ gives (own step_bad) [] none_bad ∷ [];
    }

-- 2: the hole of terms has no known type.
abbrev pub term_hole : Production
term_hole =
    record {
      symbol = term;
      children = [];
      accepts = zero_alone;
      text = bytes (codes "_") ∷ [];
      rules = gives (own term_type) [] (the_type Unknown) ∷ gives (own term_bad) [] none_bad ∷ [];
    }

-- 3: a chain is two steps, one after the other.
abbrev pub chain : Production
chain =
    record {
      symbol = step;
      children = step ∷ step ∷ [];
      accepts = zero_alone;
      text = child 1 ∷ bytes (codes ";") ∷ child 2 ∷ [];
      rules =
          gives (first step_in) (own step_in ∷ []) same_scope
          ∷ gives (first step_env) (own step_env ∷ []) same_scope
          ∷ gives (second step_in) (first step_out ∷ []) same_scope
          ∷ gives (second step_env) (own step_env ∷ []) same_scope
          ∷ gives (own step_out) (second step_out ∷ []) same_scope
          ∷ gives (own step_bad) (first step_bad ∷ second step_bad ∷ []) both_bad
          ∷ [];
    }

-- 4: a declaration gives a name a type; `taken` are the attributes that its `out` takes.
abbrev pub declaration_taking : List Occurrence → Production
declaration_taking taken =
    record {
      symbol = step;
      children = term ∷ [];
      accepts = declaration;
      text = bytes (codes "let ") ∷ literal ∷ bytes (codes "=") ∷ child 1 ∷ [];
      rules =
          gives (first term_env) (own step_env ∷ []) same_scope
          ∷ gives (own step_out) taken with_declared
          ∷ gives (own step_bad) (first term_type ∷ first term_bad ∷ []) declaration_bad
          ∷ [];
    }

-- 5: a block is a step with names of its own.
abbrev pub block : Production
block =
    record {
      symbol = step;
      children = step ∷ [];
      accepts = zero_alone;
      text = bytes (codes "{") ∷ child 1 ∷ bytes (codes "}") ∷ [];
      rules =
          gives (first step_in) [] no_names
          ∷ gives (first step_env) (first step_out ∷ own step_env ∷ []) inside_scope
          ∷ gives (own step_out) (own step_in ∷ []) same_scope
          ∷ gives (own step_bad) (first step_bad ∷ []) same_count
          ∷ [];
    }

-- 6: a number.
abbrev pub number : Production
number =
    record {
      symbol = term;
      children = [];
      accepts = lawful;
      text = literal ∷ [];
      rules = gives (own term_type) [] (the_type Number) ∷ gives (own term_bad) [] none_bad ∷ [];
    }

-- 7: a name has the type that it was declared with, and is bad where it has none.
abbrev pub name_production : Production
name_production =
    record {
      symbol = term;
      children = [];
      accepts = name;
      text = bytes (codes "v") ∷ literal ∷ [];
      rules = gives (own term_type) (own term_env ∷ []) name_type ∷ gives (own term_bad) (own term_env ∷ []) name_bad ∷ [];
    }

-- 8: a comparison is a truth, and compares no truths.
abbrev pub less : Production
less =
    record {
      symbol = term;
      children = term ∷ term ∷ [];
      accepts = zero_alone;
      text = bytes (codes "(") ∷ child 1 ∷ bytes (codes "<") ∷ child 2 ∷ bytes (codes ")") ∷ [];
      rules =
          gives (first term_env) (own term_env ∷ []) same_scope
          ∷ gives (second term_env) (own term_env ∷ []) same_scope
          ∷ gives (own term_type) [] (the_type Truth)
          ∷ gives (own term_bad) (first term_type ∷ second term_type ∷ first term_bad ∷ second term_bad ∷ []) comparison_bad
          ∷ [];
    }

-- what is said past the last production, where it means nothing
abbrev pub no_production : Production
no_production = record { symbol = 0; children = []; accepts = λ l. false; text = []; rules = [] }

-- the productions, by the attributes that a declaration's `out` takes
abbrev pub production_taking : List Occurrence → ℕ → Production
production_taking taken p =
    slice_index_or
    (plan_production ∷ step_hole ∷ term_hole ∷ chain ∷ declaration_taking taken ∷ block ∷ number ∷ name_production ∷ less ∷ [])
    p
    no_production

abbrev pub grammar_taking : List Occurrence → Grammar
grammar_taking taken =
    record {
      symbols = 3;
      productions = 9;
      inherited = inherited_by;
      synthesized = synthesized_by;
      symbol = λ p. (production_taking taken p).symbol;
      children = λ p. (production_taking taken p).children;
      rules = λ p. map (λ r. record { target = r.target; arguments = r.arguments }) (production_taking taken p).rules;
      accepts = λ p. (production_taking taken p).accepts;
    }

-- the function of the first rule that gives attribute a at place i; where there is none, the blank
abbrev pub function_in : List PlanRule → ℕ → ℕ → Function
function_in [] i a = λ l arguments. blank_figure
function_in (r ∷ rs) i a = elim (is_at r.target i a) [ true ↦ r.function | false ↦ function_in rs i a ]

-- The language of plans: after a declaration, the scope takes the scope before it alone.
abbrev pub plan_grammar : Grammar
plan_grammar = grammar_taking (own step_in ∷ [])

abbrev pub plan_rule : ℕ → ℕ → ℕ → Function
plan_rule p i a = function_in (production_taking (own step_in ∷ []) p).rules i a

abbrev pub plan_text : ℕ → List Segment
plan_text p = (production_taking (own step_in ∷ []) p).text

-- The altered plan: there it takes the type of the declaration's term as well, which its function ignores. All else is the plan's.
abbrev pub altered_grammar : Grammar
altered_grammar = grammar_taking (own step_in ∷ first term_type ∷ [])
