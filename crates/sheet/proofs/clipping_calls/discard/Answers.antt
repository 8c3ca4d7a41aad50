use Rattle.std.proofs.Common.{◌≡◌, Err, rules}
use Rattle.edit.specs.declared.fault.EditFault.{EditFault}
use Rattle.sheet.specs.Handled.{refusal}
use Rattle.sheet.proofs.clipping_calls.discard.Goals as goal

pub returns-in_err-discard : goal.returns-in_err-discard
returns-in_err-discard g c =
    let told : (f : EditFault) × (c.discard.result ≡ refusal f) × (c.from_residual.result ≡ Err f) = search rules in
    rw told.2 (rw told.1 at c.discard.ensures)
