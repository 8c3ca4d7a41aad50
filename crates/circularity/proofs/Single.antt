-- A language that passes the test passes it with one answer.
use Rattle.std.proofs.Common.{◌≡◌, ℕ, Ok, Err, Result, ap}
use Rattle.grammar.specs.Grammar.{Grammar}
use Rattle.circularity.specs.declared.Passes.{Passes}
use Rattle.circularity.specs.declared.fault.LanguageFault.{LanguageFault}
use Rattle.circularity.specs.declared.fault.LanguageFault.TheVariants.{Circularity}
use Rattle.circularity.specs.Verdict.{Verdict}
use Rattle.circularity.proofs.Cycles.{culprit_is_circular}
use Rattle.circularity.proofs.Unique.{count_unique}

abbrev pub passing : ℕ → Result Passes LanguageFault
passing n = Ok (record { relations = n })

pub passes_once : (g : Grammar) (n : ℕ) → Verdict g (passing n) → (r : Result Passes LanguageFault) → Verdict g r → r ≡ passing n
passes_once g n v (Ok q) w = ap passing (count_unique g q.relations n w.1 v.1)
passes_once g n v (Err (Circularity p)) w = absurd (v.0 (culprit_is_circular g p w))
