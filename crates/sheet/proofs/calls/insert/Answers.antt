-- The literal comes back from the code by another term, which is equal to it.
use Rattle.std.proofs.Common.{◌≡◌, ℤ, Ok, Err, refl, subst, to_z-of_z, rules}
use Rattle.edit.specs.declared.fault.EditFault.{EditFault}
use Rattle.edit.specs.Calls.{InsertCall}
use Rattle.sheet.specs.Handled.{done, refusal}
use Rattle.sheet.proofs.calls.insert.Goals as goal

pub returns-in_err-map_err : goal.returns-in_err-map_err
returns-in_err-map_err g c =
    let told : (f : EditFault) × (c.insert.result ≡ refusal f) × (c.from_residual.result ≡ Err (record { sheet = c.args.sheet; fault = f })) = search rules in
    rw told.2
    (subst (λ (l : ℤ). InsertCall (g.L.Language.grammar c.args.language.now) (λ row. g.L.Value.Figure.means (g.L.Value.Figure.reads row)) g.L.Value.Figure.nothing c.args.nodes.now c.args.values.now c.insert.new.nodes c.insert.new.values c.args.node c.args.production l (refusal told.0)) (to_z-of_z c.ranges.literal) (rw told.1 at c.insert.ensures))

pub returns : goal.returns
returns g c =
    let made : c.insert.result ≡ done = search rules in (
      subst (λ (l : ℤ). InsertCall (g.L.Language.grammar c.args.language.now) (λ row. g.L.Value.Figure.means (g.L.Value.Figure.reads row)) g.L.Value.Figure.nothing c.args.nodes.now c.args.values.now c.insert.new.nodes c.insert.new.values c.args.node c.args.production l done) (to_z-of_z c.ranges.literal) (rw made at c.insert.ensures),
      record { call = refl; node = refl },
    )
