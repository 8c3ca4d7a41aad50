-- The node that a turn blanks is the next one of the list, and that is said by itself: where the loop goes over another list, this is what fails.
-- The code as it stands needs no `take_rest`; with it a part that is the whole list, as `&nodes[0..]`, is proved too, so that only a shorter one is refused.
use Rattle.std.proofs.Common.{ℕ, [], ◌∷◌, subst, arith, rules}
use Rattle.std.proofs.lemmas.List.{take_rest}
use Rattle.edit.specs.Memory.{Blanked}
use Rattle.edit.proofs.Blanking.{blanked_more}
use Rattle.edit.proofs.inserting.blank_nodes.Goals as goal

pub loop-n-preserved : goal.loop-n-preserved
loop-n-preserved g c =
    blanked_more (λ row. g.L.Value.Figure.means (g.L.Value.Figure.reads row)) g.L.Value.Figure.nothing c.args.nodes.now c.loop-n.n-index c.args.values.now c.loop-n.values c.blank_node.new.values
    (omega arith) c.loop-n.invariant
    (subst (λ (n : ℕ). Blanked (λ row. g.L.Value.Figure.means (g.L.Value.Figure.reads row)) g.L.Value.Figure.nothing (n ∷ []) c.loop-n.values c.blank_node.new.values) (search (rules, take_rest)) c.blank_node.ensures)
