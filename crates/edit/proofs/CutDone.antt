-- A new hole put down as a root, and hung in the place of a node on the sheet, is what cut is to do.
use Rattle.std.proofs.Common.{◌≡◌, ℕ, zero, suc, ◌<◌, ◌≤◌, List, [], ◌∷◌, length, take, set, sym, refl, ap, ◌∙◌, subst, inl, inr, arith, length-set, get_or-set_other, get_or-set_same}
use Rattle.grammar.specs.Grammar.{Grammar}
use Rattle.grammar.specs.Text.{Segment}
use Rattle.grammar.specs.Limits.{Limits}
use Rattle.table.specs.declared.node.Node.{Node}
use Rattle.table.specs.Nodes.{none, nowhere, at, child_field, Used}
use Rattle.table.specs.Climbing.{Climb, ends, goes_on}
use Rattle.table.specs.Sheets.{Sheet, ClippingRoot, OneChildOf, Hole}
use Rattle.table.specs.Represents.{Represents, In}
use Rattle.table.proofs.Climbs.{climb_used}
use Rattle.table.proofs.Reading.{in_order}
use Rattle.table.proofs.Members.{AtMostThree, at_most_three}
use Rattle.table.proofs.Frame.{Kept}
use Rattle.table.proofs.Relinking.{LinkChanged}
use Rattle.edit.specs.Memory.{Blanked}
use Rattle.edit.specs.Fresh.{hole_record, with_parent, NextFree}
use Rattle.edit.specs.Edits.{Exchanged, CutOut, Relinked}
use Rattle.edit.specs.Hanging.{Hangable}
use Rattle.edit.specs.Calls.{CutWork, hole_tree}
use Rattle.edit.proofs.Forest.{Forest, NoHoleRoots, sheet_is_forest, roots_of_sheet, forest_is_sheet}
use Rattle.edit.proofs.Swapping.{Ready, Swapped, swapped_forest}
use Rattle.edit.proofs.OneRecord.{fresh_forest, climb_stays, not_there}
use Rattle.edit.proofs.HungRecords.{one_child, parent_apart, place_inside, hangable, ready, swapped}
use Rattle.edit.proofs.HungRoots.{no_hole_roots}
use Rattle.edit.proofs.HungTrees.{clipping_tree, node_tree, sheet_tree, swapped_kept, swapped_link}

-- Node h is the highest free one, and a hole of the node's symbol is put down there.
module _ (g : Grammar) (text : ℕ → List Segment) (limits : Limits g text) (ns : List Node) (n h : ℕ) (few : length ns ≤ 1000) (sheet : Sheet g ns) (on : Climb ns 0 n) (place : (Hole g (at ns n).production → ⊥) × (n ≡ 0 → ⊥)) (next : NextFree ns (length ns) h) where
  abbrev s : ℕ
  s = g.symbol (at ns n).production

  abbrev pub with_hole : List Node
  with_hole = set ns h (hole_record (g.symbol (at ns n).production) none)

  three : AtMostThree g
  three = at_most_three g text limits

  n_used : Used ns n
  n_used = climb_used ns 0 n on

  many : length with_hole ≡ length ns
  many = length-set ns h (hole_record s none)

  same : (x : ℕ) → (x ≡ h → ⊥) → at with_hole x ≡ at ns x
  same x out = get_or-set_other ns h x (hole_record s none) nowhere out

  put : at with_hole h ≡ hole_record s none
  put = get_or-set_same ns h (hole_record s none) nowhere next.lower

  unfree : (x : ℕ) → Used ns x → x ≡ h → ⊥
  unfree = not_there g ns with_hole h many same next.free

  same_used : (x : ℕ) → Used ns x → at with_hole x ≡ at ns x
  same_used x u = same x (unfree x u)

  some_symbol : 0 < s
  some_symbol = positive s refl
    where
      positive : (i : ℕ) → i ≡ s → 0 < i
      positive zero e = absurd (place.1 ((in_order sheet n n_used).start.1 ((limits.each (at ns n).production (in_order sheet n n_used).production_exists).start_alone (sym e))))
      positive (suc i) e = omega arith

  symbol_exists : s < g.symbols
  symbol_exists = (limits.each (at ns n).production (in_order sheet n n_used).production_exists).symbol_exists

  forest : Forest g with_hole
  forest = fresh_forest g ns with_hole h many same limits few (sheet_is_forest g ns sheet) s some_symbol symbol_exists next.lower next.free put

  hole_root : ClippingRoot with_hole h
  hole_root = ((omega (arith, next.lower, many), ap (λ (nd : Node). nd.used) put), (λ e. unfree 0 sheet.root_used (sym e)), ap (λ (nd : Node). nd.parent) put)

  still_on : Climb with_hole 0 n
  still_on = climb_stays g ns with_hole h many same next.free 0 n on

  few_still : length with_hole ≤ 1000
  few_still = omega (arith, many)

  pub hole_hangable : Hangable with_hole h n
  hole_hangable = hangable g with_hole few_still three forest h n hole_root still_on place.1

  symbol : g.symbol (at with_hole h).production ≡ g.symbol (at with_hole n).production
  symbol = ap (λ (nd : Node). g.symbol nd.production) put ∙ (limits.hole s some_symbol symbol_exists).1 ∙ sym (ap (λ (nd : Node). g.symbol nd.production) (same_used n n_used))

  module _ {R M : Type 0} (meaning : R → M) (nothing : M) (after : List Node) (values values' : List R) (exchanged : Exchanged h n with_hole after) where
    abbrev q : ℕ
    q = (at ns n).parent

    abbrev child : OneChildOf g with_hole (at with_hole n).parent n
    child = one_child g with_hole few_still three forest h n hole_root still_on place.1

    abbrev k : ℕ
    k = child.place

    same_parent : (at with_hole n).parent ≡ q
    same_parent = ap (λ (nd : Node). nd.parent) (same_used n n_used)

    change : Swapped h n q k with_hole after
    change = subst (λ (i : ℕ). Swapped h n i k with_hole after) same_parent (swapped g with_hole few_still three forest h n hole_root still_on place.1 after exchanged)

    q_on : Climb ns 0 q
    q_on = go on
      where
        go : Climb ns 0 n → Climb ns 0 (at ns n).parent
        go (ends u p e) = absurd (place.1 (sym e))
        go (goes_on m u p c) = subst (λ (i : ℕ). Climb ns 0 i) (sym p) c

    q_used : Used ns q
    q_used = climb_used ns 0 q q_on

    q_apart : q ≡ n → ⊥
    q_apart e = parent_apart g with_hole few_still three forest h n hole_root still_on place.1 (same_parent ∙ e)

    used_still : (x : ℕ) → Used ns x → Used with_hole x
    used_still x u = (omega (arith, u.0, many), ap (λ (nd : Node). nd.used) (same_used x u) ∙ u.1)

    kept_all : (x : ℕ) → Used ns x → (x ≡ q → ⊥) → Kept ns after x
    kept_all x u x-q =
        let step : Kept with_hole after x = swapped_kept h n q k with_hole after change x (used_still x u) x-q in
        let e : at with_hole x ≡ at ns x = same_used x u in
        record {
          used = step.used;
          production = step.production ∙ ap (λ (nd : Node). nd.production) e;
          literal = step.literal ∙ ap (λ (nd : Node). nd.literal) e;
          children = λ j l. step.children j l ∙ ap (λ (nd : Node). child_field nd j) e;
        }

    kept : (x : ℕ) → Used ns x → (x ≡ q → ⊥) → (x ≡ n → ⊥) → Kept ns after x
    kept x u x-q x-n = kept_all x u x-q

    link : LinkChanged ns after q k h
    link =
        let step : LinkChanged with_hole after q k h = swapped_link h n q k with_hole after change (used_still q q_used) in
        let e : at with_hole q ≡ at ns q = same_used q q_used in
        record {
          used = step.used;
          production = step.production ∙ ap (λ (nd : Node). nd.production) e;
          literal = step.literal ∙ ap (λ (nd : Node). nd.literal) e;
          changed = step.changed;
          others = λ j l out. step.others j l out ∙ ap (λ (nd : Node). child_field nd j) e;
        }

    hole_is : at after h ≡ hole_record s q
    hole_is = exchanged.root_is ∙ ap (λ (nd : Node). with_parent nd (at with_hole n).parent) put ∙ ap (λ (i : ℕ). hole_record s i) same_parent

    cut_out : CutOut g n ns after h
    cut_out =
        let l : Relinked q n h with_hole after = subst (λ (i : ℕ). Relinked i n h with_hole after) same_parent exchanged.link in
        let e : at with_hole q ≡ at ns q = same_used q q_used in
        record {
          hole_number = sym (ap (λ (xs : List ℕ). take 1 xs) next.first);
          hole_is = hole_is;
          root_is = exchanged.node_is ∙ ap (λ (nd : Node). with_parent nd none) (same_used n n_used);
          link = record {
            used = l.used ∙ ap (λ (nd : Node). nd.used) e;
            production = l.production ∙ ap (λ (nd : Node). nd.production) e;
            literal = l.literal ∙ ap (λ (nd : Node). nd.literal) e;
            parent = l.parent ∙ ap (λ (nd : Node). nd.parent) e;
            place = l.place;
            inside = l.inside;
            named = sym (ap (λ (nd : Node). child_field nd l.place) e) ∙ l.named;
            children = l.children ∙ ap (λ (nd : Node). set nd.children l.place h) e;
          };
          others = record { many = exchanged.others.many ∙ many; same = λ x out. exchanged.others.same x (λ i. out (subst (λ (j : ℕ). In x (n ∷ h ∷ j ∷ [])) same_parent i)) ∙ same x (λ f. out (inr (inl f))) };
        }

    named : child_field (at ns q) k ≡ n
    named = sym (ap (λ (nd : Node). child_field nd k) (same_used q q_used)) ∙ subst (λ (i : ℕ). child_field (at with_hole i) k ≡ n) same_parent child.named

    inside : k < 3
    inside = place_inside g with_hole few_still three forest h n hole_root still_on place.1

    after_forest : Forest g after
    after_forest =
        swapped_forest g h n q k with_hole after few_still forest
        (subst (λ (i : ℕ). Ready g h n i k with_hole) same_parent (ready g with_hole few_still three forest h n hole_root still_on place.1 symbol)) change

    roots : NoHoleRoots g after
    roots =
        no_hole_roots g with_hole after few_still h n q k (used_still q q_used) change
        (λ x u other x-h p hole.
        let e : at with_hole x ≡ at ns x = same x x-h in
        roots_of_sheet g ns sheet few x (omega (arith, u.0, many), sym (ap (λ (nd : Node). nd.used) e) ∙ u.1) other (sym (ap (λ (nd : Node). nd.parent) e) ∙ p) (subst (λ (nd : Node). Hole g nd.production) e hole))
        (λ hole. place.0 (subst (λ (nd : Node). Hole g nd.production) (same_used n n_used) hole))

    new_tree : Represents after h (hole_tree h s)
    new_tree = (
      refl,
      (omega (arith, next.lower, exchanged.others.many, many), ap (λ (nd : Node). nd.used) hole_is),
      ap (λ (nd : Node). nd.production) hole_is,
      ap (λ (nd : Node). nd.literal) hole_is,
      ap (λ (nd : Node). child_field nd 0) hole_is,
      ap (λ (nd : Node). child_field nd 1) hole_is,
      ap (λ (nd : Node). child_field nd 2) hole_is,
    )

    pub cut_done : Blanked meaning nothing (h ∷ []) values values' → CutWork g meaning nothing ns values after values' n h
    cut_done blanked = record {
      records = cut_out;
      blanked = blanked;
      sheet = forest_is_sheet g after after_forest roots;
      clipping = ((omega (arith, n_used.0, exchanged.others.many, many), (kept_all n n_used (λ e. q_apart (sym e))).used.1), place.1, change.parent_n);
      trees = record {
        sheet_tree = λ t rep. sheet_tree g ns after sheet few three n q k h on refl q_on inside named kept link (hole_tree h s) t new_tree rep;
        clippings = λ c t at_c any rep. clipping_tree g ns after sheet few three n q k h on refl q_on inside named kept c t at_c rep;
      };
      handed_out = node_tree g ns after sheet few three n q k h on refl q_on inside named kept (kept_all n n_used (λ e. q_apart (sym e)));
    }
