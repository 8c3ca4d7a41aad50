-- The worked examples, in one table. They speak of the languages' own members and of the definitions that the contracts cite.
use Rattle.std.specs.Prelude.{◌≡◌, ℕ, ◌⊎◌, List, [], ◌∷◌, ℤ, pos, negsuc, Ok, Err, Result}
use Rattle.grammar.specs.Grammar.{Grammar}
use Rattle.grammar.specs.Circularity.{Circular}
use Rattle.circularity.specs.declared.Passes.{Passes}
use Rattle.circularity.specs.declared.fault.LanguageFault.{LanguageFault}
use Rattle.circularity.specs.declared.fault.LanguageFault.TheVariants.{Circularity}
use Rattle.circularity.specs.Verdict.{Verdict}
use Rattle.formula.specs.Readings.{Reading}

-- A test of the table answers a pass with this many relations, and every run of it does.
pub record PassesWith (g : Grammar) (relations : ℕ) : Type 0 where
  pub some_run : Verdict g (Ok (record { relations = relations }))
  pub every_run : (r : Result Passes LanguageFault) → Verdict g r → r ≡ Ok (record { relations = relations })

-- A test of the table answers a fault, and every run does; the production that it names is one of two.
pub record RefusedNaming (g : Grammar) (p q : ℕ) : Type 0 where
  pub circular : Circular g
  pub some_run : (n : ℕ) × Verdict g (Err (Circularity n))
  pub every_run : (r : Result Passes LanguageFault) → Verdict g r → (r ≡ Err (Circularity p)) ⊎ (r ≡ Err (Circularity q))

-- The table: formulas pass with 3 relations, plans with 6; the altered plan is refused, and what is named is production 0 or 5;
-- the quotient of -7 by 2, which is production 7's value, is -3.
pub record Examples (formula plan altered : Grammar) (rule : ℕ → ℕ → ℕ → ℤ → List Reading → Reading) : Type 0 where
  pub formula_passes : PassesWith formula 3
  pub plan_passes : PassesWith plan 6
  pub altered_plan_refused : RefusedNaming altered 0 5
  pub minus_seven_by_two : rule 7 0 1 (pos 0) (Ok (negsuc 6) ∷ Ok (pos 2) ∷ []) ≡ Ok (negsuc 2)
