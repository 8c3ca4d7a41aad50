-- The test's verdict on a table, from sets of relations that antt computes.
use Rattle.std.proofs.Common.{◌≡◌, ℕ, zero, suc, ◌<◌, Bool, true, false, cond, ◌&&◌, ◌||◌, T, eqb, ◌⊎◌, List, Ok, Err, Result, arith, eqb→eq}
use Rattle.std.proofs.lemmas.Bool.{cases_eq}
use Rattle.grammar.specs.Grammar.{Grammar}
use Rattle.grammar.specs.Text.{Segment}
use Rattle.grammar.specs.Limits.{Limits}
use Rattle.circularity.specs.declared.Passes.{Passes}
use Rattle.circularity.specs.declared.fault.LanguageFault.{LanguageFault}
use Rattle.circularity.specs.declared.fault.LanguageFault.TheVariants.{Circularity}
use Rattle.circularity.specs.Verdict.{Verdict}
use Rattle.circularity.specs.Working.{found_by, Saturated, counted}
use Rattle.circularity.proofs.Cycles.{culprit_is_circular}
use Rattle.circularity.proofs.Rounds.{saturated_passes, saturated_culprit, saturated_named}
use Rattle.circularity.proofs.Single.{passes_once}
use Rattle.examples.specs.Table.{PassesWith, RefusedNaming}

-- among the numbers below n only allowed ones pass a test
abbrev pub only : (ℕ → Bool) → (ℕ → Bool) → ℕ → Bool
only test allowed zero = true
only test allowed (suc n) = cond (test n) (allowed n) true && only test allowed n

pub only_allowed : (test allowed : ℕ → Bool) (n : ℕ) → T (only test allowed n) → (p : ℕ) → p < n → T (test p) → T (allowed p)
only_allowed test allowed zero t p h u = absurd (omega arith)
only_allowed test allowed (suc n) t p h u = grind (arith, only_allowed test allowed n, cases_eq p n)

-- a production that has a cycle through its own rules, with some choice from the sets
abbrev pub cyclic : Grammar → List ℕ → ℕ → Bool
cyclic g masks p = (found_by g p masks).cyclic

-- a production that is one of two, in a refusal
named : (p q n : ℕ) → T (eqb n p || eqb n q) → (◌≡◌ {A = Result Passes LanguageFault} (Err (Circularity n)) (Err (Circularity p))) ⊎ (◌≡◌ {A = Result Passes LanguageFault} (Err (Circularity n)) (Err (Circularity q)))
named p q n u = grind (arith, eqb→eq)

module _ (g : Grammar) (text : ℕ → List Segment) (lim : Limits g text) (masks : List ℕ) (saturated : Saturated g masks) where
  pub passes_with : T (only (cyclic g masks) (λ p. false) g.productions) → (n : ℕ) → n ≡ counted masks g.symbols → PassesWith g n
  passes_with none n n-is =
      let v = saturated_passes g text lim masks saturated (only_allowed (cyclic g masks) (λ p. false) g.productions none) n n-is in
      record { some_run = v; every_run = passes_once g n v }

  pub refused_naming : (p q : ℕ) → T (only (cyclic g masks) (λ r. eqb r p || eqb r q) g.productions) → p < g.productions → T (cyclic g masks p) → RefusedNaming g p q
  refused_naming p q allowed exists t =
      let c = saturated_culprit g text lim masks saturated p exists t in
      record {
        circular = culprit_is_circular g p c;
        some_run = (p, c);
        every_run = every;
      }
    where
      every : (r : Result Passes LanguageFault) → Verdict g r → (r ≡ Err (Circularity p)) ⊎ (r ≡ Err (Circularity q))
      every (Ok a) w = absurd (w.0 (culprit_is_circular g p (saturated_culprit g text lim masks saturated p exists t)))
      every (Err (Circularity n)) w =
          let (there, seen) = saturated_named g text lim masks saturated n w in
          named p q n (only_allowed (cyclic g masks) (λ r. eqb r p || eqb r q) g.productions allowed n there seen)
