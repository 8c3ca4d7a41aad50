use Rattle.std.proofs.Common.{◌≡◌, ◌==◌, count_by, take, arith}
use Rattle.std.proofs.lemmas.Grind.{common_steps}
use Rattle.table.proofs.Counting.{once_among}
use Rattle.table.proofs.node.Node.names_once.Goals as goal

pub returns : goal.returns
returns c =
    let h : c.count.result ≡ count_by (λ x. x == c.args.n) (take c.args.count c.args.self.now.children) = grind (arith, common_steps) in
    rw h (once_among c.args.self.now c.args.count c.args.n (omega arith))
