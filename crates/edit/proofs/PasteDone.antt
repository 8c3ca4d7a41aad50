-- A clipping's root hung in the place of a hole on the sheet, and the hole's node made free, is what paste is to do.
use Rattle.std.proofs.Common.{◌≡◌, ℕ, ◌<◌, ◌≤◌, true, false, List, length, set, sym, refl, ap, ◌∙◌, subst, inl, arith, length-set, get_or-set_other, get_or-set_same}
use Rattle.grammar.specs.Grammar.{Grammar}
use Rattle.grammar.specs.Text.{Segment}
use Rattle.grammar.specs.Limits.{Limits}
use Rattle.table.specs.declared.node.Node.{Node}
use Rattle.table.specs.Nodes.{nowhere, at, child_field, Used}
use Rattle.table.specs.Climbing.{Climb}
use Rattle.table.specs.Sheets.{Sheet, ClippingRoot, OneChildOf, Hole}
use Rattle.table.proofs.Climbs.{climb_used}
use Rattle.table.proofs.Reading.{in_order}
use Rattle.table.proofs.Members.{AtMostThree, at_most_three}
use Rattle.table.proofs.Frame.{Kept}
use Rattle.table.proofs.Relinking.{LinkChanged}
use Rattle.edit.specs.Fresh.{free_record}
use Rattle.edit.specs.Edits.{Exchanged, Pasted}
use Rattle.edit.specs.Calls.{PasteWork}
use Rattle.edit.proofs.Forest.{Forest, NoHoleRoots, sheet_is_forest, roots_of_sheet, forest_is_sheet}
use Rattle.edit.proofs.Swapping.{Swapped, swapped_forest}
use Rattle.edit.proofs.OneRecord.{freed_forest, not_both}
use Rattle.edit.proofs.HungRecords.{parent_on, one_child, parent_apart, place_inside, no_root, ready, swapped}
use Rattle.edit.proofs.HungRoots.{no_other_hole_roots}
use Rattle.edit.proofs.HungTrees.{clipping_tree, sheet_tree, swapped_kept, swapped_link}

-- a hole does not stand at node 0
pub hole_elsewhere : (g : Grammar) (ns : List Node) → Sheet g ns → (n : ℕ) → Used ns n → Hole g (at ns n).production → n ≡ 0 → ⊥
hole_elsewhere g ns sheet n u hole e = let z : (at ns n).production ≡ 0 = (in_order sheet n u).start.0 e in omega (arith, hole.0)

-- a hole has no children
pub hole_childless : (g : Grammar) (text : ℕ → List Segment) → Limits g text → (p : ℕ) → Hole g p → length (g.children p) ≡ 0
hole_childless g text limits p hole = ap (λ (xs : List ℕ). length xs) (limits.hole p hole.0 hole.1).2

module _ {R M : Type 0} (g : Grammar) (text : ℕ → List Segment) (limits : Limits g text) (meaning : R → M) (nothing : M) (ns mid : List Node) (values values' : List R) (r n : ℕ) (few : length ns ≤ 1000) (sheet : Sheet g ns) (at_root : ClippingRoot ns r) (on : Climb ns 0 n) (hole : Hole g (at ns n).production) (symbol : g.symbol (at ns r).production ≡ g.symbol (at ns n).production) (exchanged : Exchanged r n ns mid) where
  abbrev after : List Node
  after = set mid n free_record

  three : AtMostThree g
  three = at_most_three g text limits

  forest : Forest g ns
  forest = sheet_is_forest g ns sheet

  n_used : Used ns n
  n_used = climb_used ns 0 n on

  other : n ≡ 0 → ⊥
  other = hole_elsewhere g ns sheet n n_used hole

  abbrev child : OneChildOf g ns (at ns n).parent n
  child = one_child g ns few three forest r n at_root on other

  abbrev q : ℕ
  q = (at ns n).parent

  abbrev k : ℕ
  k = child.place

  q_on : Climb ns 0 (at ns n).parent
  q_on = parent_on g ns few three forest r n at_root on other

  q_used : Used ns q
  q_used = climb_used ns 0 q q_on

  q_apart : q ≡ n → ⊥
  q_apart = parent_apart g ns few three forest r n at_root on other

  change : Swapped r n q k ns mid
  change = swapped g ns few three forest r n at_root on other mid exchanged

  many : length after ≡ length mid
  many = length-set mid n free_record

  same : (x : ℕ) → (x ≡ n → ⊥) → at after x ≡ at mid x
  same x out = get_or-set_other mid n x free_record nowhere out

  freed : at after n ≡ free_record
  freed = get_or-set_same mid n free_record nowhere (omega (arith, n_used.0, exchanged.others.many))

  kept : (x : ℕ) → Used ns x → (x ≡ q → ⊥) → (x ≡ n → ⊥) → Kept ns after x
  kept x u x-q x-n =
      let before : Kept ns mid x = swapped_kept r n q k ns mid change x u x-q in
      let e : at mid x ≡ at after x = sym (same x x-n) in
      record {
        used = (omega (arith, before.used.0, many), subst (λ (nd : Node). nd.used ≡ true) e before.used.1);
        production = subst (λ (nd : Node). nd.production ≡ (at ns x).production) e before.production;
        literal = subst (λ (nd : Node). nd.literal ≡ (at ns x).literal) e before.literal;
        children = λ j h. subst (λ (nd : Node). child_field nd j ≡ child_field (at ns x) j) e (before.children j h);
      }

  link : LinkChanged ns after q k r
  link =
      let before : LinkChanged ns mid q k r = swapped_link r n q k ns mid change q_used in
      let e : at mid q ≡ at after q = sym (same q q_apart) in
      record {
        used = (omega (arith, before.used.0, many), subst (λ (nd : Node). nd.used ≡ true) e before.used.1);
        production = subst (λ (nd : Node). nd.production ≡ (at ns q).production) e before.production;
        literal = subst (λ (nd : Node). nd.literal ≡ (at ns q).literal) e before.literal;
        changed = subst (λ (nd : Node). child_field nd k ≡ r) e before.changed;
        others = λ j h out. subst (λ (nd : Node). child_field nd j ≡ child_field (at ns q) j) e (before.others j h out);
      }

  pasted : Pasted r n ns after
  pasted =
      let e : at after q ≡ at mid q = same q q_apart in
      let l = exchanged.link in
      record {
        freed = freed;
        root_is = same r (λ f. no_root g ns few three forest r n at_root on other n on (sym f)) ∙ exchanged.root_is;
        link = record {
          used = ap (λ (nd : Node). nd.used) e ∙ l.used;
          production = ap (λ (nd : Node). nd.production) e ∙ l.production;
          literal = ap (λ (nd : Node). nd.literal) e ∙ l.literal;
          parent = ap (λ (nd : Node). nd.parent) e ∙ l.parent;
          place = l.place;
          inside = l.inside;
          named = l.named;
          children = ap (λ (nd : Node). nd.children) e ∙ l.children;
        };
        others = record { many = many ∙ exchanged.others.many; same = λ x out. same x (λ f. out (inl f)) ∙ exchanged.others.same x out };
      }

  mid_forest : Forest g mid
  mid_forest = swapped_forest g r n q k ns mid few forest (ready g ns few three forest r n at_root on other symbol) change

  after_forest : Forest g after
  after_forest = freed_forest g mid after n many same (omega (arith, exchanged.others.many)) mid_forest other change.parent_n (ap (λ (p : ℕ). length (g.children p)) (change.production n) ∙ hole_childless g text limits (at ns n).production hole) freed

  roots : NoHoleRoots g after
  roots x u x-other p h =
      let no_node : x ≡ n → ⊥ = λ e. not_both (at after x).used u.1 (subst (λ (i : ℕ). (at after i).used ≡ false) (sym e) (ap (λ (nd : Node). nd.used) freed)) in
      let e : at after x ≡ at mid x = same x no_node in
      no_other_hole_roots g ns mid few r n q k q_used change (λ y v y-other y-root. roots_of_sheet g ns sheet few y v y-other) x
      (omega (arith, u.0, many), sym (ap (λ (nd : Node). nd.used) e) ∙ u.1) x-other no_node (sym (ap (λ (nd : Node). nd.parent) e) ∙ p) (subst (λ (nd : Node). Hole g nd.production) e h)

  pub paste_done : (ns' : List Node) → ns' ≡ set mid n free_record → values' ≡ values → PasteWork g meaning nothing ns values ns' values' r n
  paste_done ns' is unchanged = subst (λ (z : List Node). PasteWork g meaning nothing ns values z values' r n) (sym is) (record {
    records = pasted;
    same_values = unchanged;
    sheet = forest_is_sheet g after after_forest roots;
    trees = λ u rep. record {
      sheet_tree = λ t rep'. sheet_tree g ns after sheet few three n q k r on refl q_on inside child.named kept link u t (clipping_tree g ns after sheet few three n q k r on refl q_on inside child.named kept r u at_root rep) rep';
      clippings = λ c t at_c c-other rep'. clipping_tree g ns after sheet few three n q k r on refl q_on inside child.named kept c t at_c rep';
    };
  })
    where
      inside : k < 3
      inside = place_inside g ns few three forest r n at_root on other
