use Rattle.std.proofs.Common.{◌≡◌, ℕ, ◌<◌, get_or}
use Rattle.edit.proofs.rows.store_in_all.Given as goal

abbrev pub invariant-loop-value : goal.invariant-loop-value
invariant-loop-value g l = (f : ℕ) (d : _) → f < l.value-index → get_or l.values f d ≡ l.row
