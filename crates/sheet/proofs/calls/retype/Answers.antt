-- The literal comes back from the code by another term, which is equal to it.
use Rattle.std.proofs.Common.{◌≡◌, ℤ, refl, subst, to_z-of_z, rules}
use Rattle.edit.specs.Calls.{RetypeCall}
use Rattle.sheet.specs.Handled.{done}
use Rattle.sheet.proofs.calls.retype.Goals as goal

pub returns : goal.returns
returns g c =
    let made : c.retype.result ≡ done = search rules in (
      subst (λ (l : ℤ). RetypeCall (g.L.Language.grammar c.args.language.now) (λ row. g.L.Value.Figure.means (g.L.Value.Figure.reads row)) g.L.Value.Figure.nothing c.args.nodes.now c.args.values.now c.retype.new.nodes c.retype.new.values c.args.node l done) (to_z-of_z c.ranges.literal) (rw made at c.retype.ensures),
      record { call = refl; node = refl },
    )
