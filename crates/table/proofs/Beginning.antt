-- What a failed test of the language says of the checks that every call begins with.
use Rattle.std.proofs.Common.{◌≡◌, ℕ, Ok, Err, Result, IsErrAnd, inl}
use Rattle.grammar.specs.Grammar.{Grammar}
use Rattle.circularity.specs.Verdict.{Verdict}
use Rattle.circularity.specs.declared.fault.LanguageFault.{LanguageFault}
use Rattle.circularity.specs.declared.fault.LanguageFault.TheVariants.{Circularity}
use Rattle.circularity.proofs.Cycles.{culprit_is_circular}
use Rattle.table.specs.declared.fault.TableFault.{TableFault}
use Rattle.table.specs.declared.fault.TableFault.TheVariants.{Language}
use Rattle.table.specs.Refusals.{Answer}
use Rattle.table.specs.Checks.{memory}

pub failed_test : {A : Type 0} (g : Grammar) (nodes values : ℕ) (e : LanguageFault) (r : Result A TableFault)
    → Verdict g (Err e) → IsErrAnd r (λ f. f ≡ Language e) → Answer (memory g nodes values) r
failed_test g nodes values (Circularity p) (Ok a) culprit k = absurd k
failed_test g nodes values (Circularity p) (Err f) culprit k = inl ((λ never. never (culprit_is_circular g p culprit)), (Circularity p, culprit, k))
