-- A clipping's root hung in the place of a node on the sheet is what exchange is to do.
use Rattle.std.proofs.Common.{◌≡◌, ℕ, ◌<◌, ◌≤◌, List, length, sym, refl, ◌∙◌, arith}
use Rattle.grammar.specs.Grammar.{Grammar}
use Rattle.table.specs.declared.node.Node.{Node}
use Rattle.table.specs.Nodes.{at, Used}
use Rattle.table.specs.Climbing.{Climb}
use Rattle.table.specs.Sheets.{Sheet, ClippingRoot, OneChildOf, Hole}
use Rattle.table.proofs.Climbs.{climb_used}
use Rattle.table.proofs.Members.{AtMostThree}
use Rattle.table.proofs.Frame.{Kept}
use Rattle.edit.specs.Edits.{Exchanged}
use Rattle.edit.specs.Calls.{ExchangeWork}
use Rattle.edit.proofs.Forest.{Forest, sheet_is_forest, roots_of_sheet, forest_is_sheet}
use Rattle.edit.proofs.Swapping.{Swapped, swapped_forest}
use Rattle.edit.proofs.HungRecords.{parent_on, one_child, parent_apart, place_inside, ready, swapped}
use Rattle.edit.proofs.HungRoots.{no_hole_roots}
use Rattle.edit.proofs.HungTrees.{clipping_tree, node_tree, sheet_tree, swapped_kept, swapped_link}

module _ {R M : Type 0} (g : Grammar) (meaning : R → M) (nothing : M) (three : AtMostThree g) (ns ns' : List Node) (values values' : List R) (r n : ℕ) (few : length ns ≤ 1000) (sheet : Sheet g ns) (at_root : ClippingRoot ns r) (on : Climb ns 0 n) (place : (Hole g (at ns n).production → ⊥) × (n ≡ 0 → ⊥)) (symbol : g.symbol (at ns r).production ≡ g.symbol (at ns n).production) where
  forest : Forest g ns
  forest = sheet_is_forest g ns sheet

  pub exchange_done : Exchanged r n ns ns' → values' ≡ values → ExchangeWork g meaning nothing ns values ns' values' r n
  exchange_done exchanged same = record {
    records = exchanged;
    same_values = same;
    sheet = forest_is_sheet g ns' (swapped_forest g r n q k ns ns' few forest (ready g ns few three forest r n at_root on place.1 symbol) change) (no_hole_roots g ns ns' few r n q k q_used change (λ x u other no_root. roots_of_sheet g ns sheet few x u other) place.0);
    clipping = ((omega (arith, n_used.0, change.many), change.used n ∙ n_used.1), place.1, change.parent_n);
    trees = λ u rep. record {
      sheet_tree = λ t rep'. sheet_tree g ns ns' sheet few three n q k r on refl q_on inside child.named kept (swapped_link r n q k ns ns' change q_used) u t (clipping_tree g ns ns' sheet few three n q k r on refl q_on inside child.named kept r u at_root rep) rep';
      clippings = λ c t at_c other rep'. clipping_tree g ns ns' sheet few three n q k r on refl q_on inside child.named kept c t at_c rep';
    };
    handed_out = node_tree g ns ns' sheet few three n q k r on refl q_on inside child.named kept (swapped_kept r n q k ns ns' change n n_used (λ e. parent_apart g ns few three forest r n at_root on place.1 (sym e)));
  }
    where
      child : OneChildOf g ns (at ns n).parent n
      child = one_child g ns few three forest r n at_root on place.1

      q : ℕ
      q = (at ns n).parent

      k : ℕ
      k = child.place

      q_on : Climb ns 0 (at ns n).parent
      q_on = parent_on g ns few three forest r n at_root on place.1

      q_used : Used ns q
      q_used = climb_used ns 0 q q_on

      n_used : Used ns n
      n_used = climb_used ns 0 n on

      inside : k < 3
      inside = place_inside g ns few three forest r n at_root on place.1

      change : Swapped r n q k ns ns'
      change = swapped g ns few three forest r n at_root on place.1 ns' exchanged

      kept : (x : ℕ) → Used ns x → (x ≡ q → ⊥) → (x ≡ n → ⊥) → Kept ns ns' x
      kept x u other node_other = swapped_kept r n q k ns ns' change x u other
