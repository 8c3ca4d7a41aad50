-- What the test of a language answers.
use Rattle.std.specs.Prelude.{◌≡◌, ℕ, Ok, Err, Result}
use Rattle.grammar.specs.Grammar.{Grammar}
use Rattle.grammar.specs.Circularity.{Circular, Culprit, RelationCount}
use Rattle.circularity.specs.declared.fault.LanguageFault.{LanguageFault}
use Rattle.circularity.specs.declared.fault.LanguageFault.TheVariants.{Circularity}
use Rattle.circularity.specs.declared.Passes.{Passes}

-- A pass says that the language is not circular, and how many different relations its symbols' trees have.
-- A fault names a production that roots a tree with a cycle through one of the root's own rules, so the language is circular.
abbrev pub Verdict : Grammar → Result Passes LanguageFault → Type 0
Verdict g (Ok passes) = (Circular g → ⊥) × RelationCount g passes.relations
Verdict g (Err (Circularity p)) = Culprit g p

-- What verdicts on one table have in common.
pub record VerdictLaws : Type 0 where
  -- whatever production may be named, the language is circular; so no table has both a pass and a fault
  pub named_is_circular : (g : Grammar) (p : ℕ) → Culprit g p → Circular g
  -- the number of relations is determined
  pub one_count : (g : Grammar) (n m : ℕ) → RelationCount g n → RelationCount g m → n ≡ m
