use Rattle.std.proofs.Common.{arith}
use Rattle.edit.proofs.Listing.{by_found}
use Rattle.edit.proofs.discarding.climbs_to.Goals as goal

pub returns : goal.returns
returns c = rw c.eq.ensures (by_found c.args.table.nodes.now (omega (arith, c.args.table.few)) c.top_of.result c.args.root c.args.n c.top_of.ensures)
