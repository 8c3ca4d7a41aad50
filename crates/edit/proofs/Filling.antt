-- Insert's work, from the records that its parts write.
use Rattle.std.proofs.Common.{◌≡◌, ℕ, ◌<◌, ◌≤◌, false, T, List, ◌∷◌, length, get_or, take, set, ℤ, sym, refl, ap, ◌∙◌, subst, inl, inr, arith, length-set}
use Rattle.std.proofs.lemmas.List.{get_or-set_same, get_or-set_other, get_or-take, get_or_default, length-take}
use Rattle.grammar.specs.Grammar.{Grammar, child}
use Rattle.grammar.specs.Limits.{Limits}
use Rattle.grammar.specs.Text.{Segment}
use Rattle.table.specs.declared.node.Node.{Node}
use Rattle.table.specs.Nodes.{none, nowhere, at, Used}
use Rattle.table.specs.Climbing.{OnSheet}
use Rattle.table.specs.Sheets.{Sheet, Hole}
use Rattle.table.specs.Refusals.{Met}
use Rattle.table.specs.Represents.{In}
use Rattle.table.proofs.Under.{climb_used}
use Rattle.edit.specs.Memory.{Blanked}
use Rattle.edit.specs.Fresh.{new_nodes, hole_record, three, with_production, NewNodes}
use Rattle.edit.specs.Planting.{Planted, Apart, Roomy}
use Rattle.edit.specs.Checks.{Fitting, insert_checks}
use Rattle.edit.specs.Edits.{Inserted}
use Rattle.edit.specs.Calls.{InsertWork}
use Rattle.edit.proofs.NewNodes.{new_length, in_at, field_is, new_place, new_free, new_inside, new_alone, new_apart, taken_fields, new_roomy}
use Rattle.edit.proofs.Regrowing.{never_both}
use Rattle.edit.proofs.Filled.{FilledIn, sheet_filled, trees_filled}

-- The node's record is written first, then the holes.
module _ (g : Grammar) (text : ℕ → List Segment) (limits : Limits g text) (before mid after : List Node) (n p : ℕ) (l : ℤ) (fields : List ℕ)
    (sheet : Sheet g before) (few : length before ≤ 1000) (on : OnSheet before n) (hole : Hole g (at before n).production) (fitting : Fitting g (at before n).production p) (accepted : T (g.accepts p l))
    (new : NewNodes before (length (g.children p)) fields) (written : mid ≡ set before n (with_production (at before n) p l fields)) (planted : Planted (g.children p) n fields (length (g.children p)) mid after) where
  pub some : length (g.children p) ≤ 3
  some = (limits.each p fitting.0).few_children

  pub here : Used before n
  here = climb_used on

  -- no new node is node n
  pub other_than_n : (k : ℕ) → k < length (g.children p) → get_or (new_nodes before (length (g.children p))) k none ≡ n → ⊥
  other_than_n k h e = never_both (at before n).used here.1 (subst (λ (i : ℕ). (at before i).used ≡ false) e (new_free before (length (g.children p)) fields some new k h))

  pub at_n : at after n ≡ with_production (at before n) p l (three (new_nodes before (length (g.children p))))
  at_n =
      planted.same n (λ k h e. other_than_n k h (sym (e ∙ field_is before (length (g.children p)) fields some new k (omega (arith, h, some)))))
      ∙ ap (λ ns. at ns n) written ∙ get_or-set_same before n (with_production (at before n) p l fields) nowhere here.0 ∙ ap (with_production (at before n) p l) new.named

  pub at_hole : (k : ℕ) → k < length (g.children p) → at after (get_or (new_nodes before (length (g.children p))) k none) ≡ hole_record (child g p k) n
  at_hole k h =
      ap (at after) (sym (field_is before (length (g.children p)) fields some new k (omega (arith, h, some)))) ∙ planted.hole k h ∙ ap (λ s. hole_record s n) (get_or_default (g.children p) k 0 g.symbols h)

  pub at_same : (x : ℕ) → (In x (n ∷ new_nodes before (length (g.children p))) → ⊥) → at after x ≡ at before x
  at_same x out =
      planted.same x (λ k h e. out (inr (subst (λ (i : ℕ). In i (new_nodes before (length (g.children p)))) (sym (e ∙ field_is before (length (g.children p)) fields some new k (omega (arith, h, some)))) (in_at (new_nodes before (length (g.children p))) k (new_place before (length (g.children p)) fields some new k h)))))
      ∙ ap (λ ns. at ns x) written ∙ get_or-set_other before n x (with_production (at before n) p l fields) nowhere (λ e. out (inl e))

  pub many : length after ≡ length before
  many = planted.many ∙ ap length written ∙ length-set before n (with_production (at before n) p l fields)

  abbrev pub inserted : Inserted g n p l before after
  inserted = record {
    new = new_nodes before (length (g.children p));
    new_are = refl;
    node_is = at_n;
    holes = record { hole = at_hole };
    others = record { many = many; same = at_same };
  }

  filled : FilledIn g before after n p l (new_nodes before (length (g.children p)))
  filled = record {
    many = many;
    size = new_length before (length (g.children p)) new.enough;
    was_free = new_free before (length (g.children p)) fields some new;
    inside = new_inside before (length (g.children p)) fields some new;
    alone = new_alone before (length (g.children p)) fields some new;
    node_is = at_n;
    hole_is = at_hole;
    same = at_same;
  }

  pub insert_work : {R M : Type 0} (meaning : R → M) (nothing : M) (values values' : List R) → Blanked meaning nothing (take (length (g.children p)) fields) values values' → InsertWork g meaning nothing before values after values' n p l
  insert_work meaning nothing values values' blanked = record {
    records = inserted;
    blanked = subst (λ ys. Blanked meaning nothing ys values values') (taken_fields before (length (g.children p)) fields some new) blanked;
    sheet = sheet_filled g text limits before after n p l (new_nodes before (length (g.children p))) sheet few on hole fitting accepted filled;
    trees = trees_filled g text limits before after n p l (new_nodes before (length (g.children p))) sheet few on hole fitting accepted filled;
  }

-- What insert's parts ask, and what they make together. The literal and the children's symbols come back from the code by other terms.
module _ (g : Grammar) (text : ℕ → List Segment) (limits : Limits g text) (before : List Node) (room n p : ℕ) (l l' : ℤ) (same : l' ≡ l) (fields cs : List ℕ) (cs_are : cs ≡ g.children p) (found : Met (insert_checks g before room n p l') × NewNodes before (length (g.children p)) fields) where
  met : Met (insert_checks g before room n p l)
  met = subst (λ (z : ℤ). Met (insert_checks g before room n p z)) same found.0

  few_fields : length (g.children p) ≤ 3
  few_fields = (limits.each p met.1.1.1.1.1.0.0).few_children

  pub node_inside : n < length before
  node_inside = (climb_used met.1.1.1.0).0

  pub few_symbols : length cs ≤ 3
  few_symbols = rw cs_are few_fields

  pub fields_apart : (mid : List Node) → length mid ≡ length before → Apart (length mid) (length cs) fields
  fields_apart mid e = rw (e, cs_are) (new_apart before (length (g.children p)) fields few_fields found.1)

  -- there are three fields
  pub fields_enough : length cs ≤ length fields
  fields_enough = omega (arith, few_symbols, ap length found.1.named)

  pub fields_roomy : Roomy room (length (take (length cs) fields)) (take (length cs) fields)
  fields_roomy k h =
      let inside : k < length cs = omega (arith, h, length-take (length cs) fields) in
      rw (get_or-take (length cs) fields k 0 inside) (all k inside)
    where
      all : Roomy room (length cs) fields
      all = rw cs_are (new_roomy before (length (g.children p)) fields few_fields found.1 room met.1.0.room)

  pub insert_done : {R M : Type 0} (meaning : R → M) (nothing : M) (mid after : List Node) (values values' : List R) → mid ≡ set before n (with_production (at before n) p l' fields) → Planted cs n fields (length cs) mid after → Blanked meaning nothing (take (length cs) fields) values values'
      → Met (insert_checks g before room n p l) × InsertWork g meaning nothing before values after values' n p l
  insert_done meaning nothing mid after values values' written planted blanked = (
    met,
    insert_work g text limits before mid after n p l fields met.1.1.0 met.1.0.few met.1.1.1.0 met.1.1.1.1.0 met.1.1.1.1.1.0 met.1.1.1.1.1.1.0 found.1
        (written ∙ ap (λ z. set before n (with_production (at before n) p z fields)) same)
        (subst (λ ys. Planted ys n fields (length ys) mid after) cs_are planted) meaning nothing values values' (subst (λ ys. Blanked meaning nothing (take (length ys) fields) values values') cs_are blanked),
  )
