use Rattle.std.proofs.Common.{length}
use Rattle.edit.specs.Planting.{Planted}
use Rattle.edit.proofs.records.put_holes.Given as goal

abbrev pub invariant-loop-symbol : goal.invariant-loop-symbol
invariant-loop-symbol l = Planted l.symbols l.parent l.at (length l.yielded) l.initial.nodes l.nodes
