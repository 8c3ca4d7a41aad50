use Rattle.table.proofs.Existence.{represented}
use Rattle.table.proofs.Represented.{represented_once, well_formed}
use Rattle.table.proofs.Distinctness.{distinct}
use Rattle.table.proofs.Members.{members, at_most_three}
use Rattle.table.proofs.trees.sheets_hold_trees.Goals as goal

pub returns : goal.returns
returns g c = λ few sheet.
    let gr = g.L.Language.grammar c.args.language.now in
    let ns = c.args.nodes.now in
    record {
      tree = represented gr ns sheet few;
      one_tree = represented_once ns few;
      of_symbol = well_formed sheet few;
      distinct_numbers = λ n t r. distinct gr ns sheet few t n r;
      nodes_below = λ n t top r. members gr ns sheet few (at_most_three gr _ (g.L.Language.limits c.args.language.now)) t n r top;
    }
