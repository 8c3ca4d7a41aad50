use Rattle.std.proofs.Common.{take}
use Rattle.edit.specs.Memory.{Blanked}
use Rattle.edit.proofs.inserting.blank_nodes.Given as goal

abbrev pub invariant-loop-n : goal.invariant-loop-n
invariant-loop-n g l = Blanked (λ row. g.L.Value.Figure.means (g.L.Value.Figure.reads row)) g.L.Value.Figure.nothing (take l.n-index l.nodes) l.initial.values l.values
