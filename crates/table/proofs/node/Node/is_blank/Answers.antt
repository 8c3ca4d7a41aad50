use Rattle.std.proofs.Common.{◌≡◌, rules, arith}
use Rattle.std.specs.Bool.{Decides}
use Rattle.table.proofs.Blanks.{free, blank_by_free}
use Rattle.table.proofs.node.Node.is_blank.Goals as goal

pub returns : goal.returns
returns c =
    let d : Decides c.eq.result (c.args.self.now ≡ free) = search rules in
    blank_by_free c.args.self.now (omega arith) c.eq.result d
