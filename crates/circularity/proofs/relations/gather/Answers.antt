use Rattle.std.proofs.Common.{◌≡◌, subst, arith}
use Rattle.circularity.specs.Working.{gathered, gathered_below}
use Rattle.circularity.proofs.relations.gather.Goals as goal

pub returns : goal.returns
unfolding gathered
returns g c =
    λ f gives.
    let all : c.loop-relation.relation ≡ 16 = omega arith in
    subst (λ n. c.loop-relation.found ≡ gathered_below f c.args.set n) all (c.loop-relation.invariant f gives)
