-- Retype's work: one record with another literal leaves a sheet, with the same trees but for that literal.
use Rattle.std.proofs.Common.{◌≡◌, ℕ, ◌<◌, ◌≤◌, T, List, ◌++◌, length, set, ℤ, sym, refl, ap, ◌∙◌, subst, inl, inr, arith, length-set}
use Rattle.std.proofs.lemmas.List.{get_or-set_same, get_or-set_other}
use Rattle.grammar.specs.Grammar.{Grammar, child}
use Rattle.grammar.specs.Tree.{Tree, node, hanging}
use Rattle.table.specs.declared.node.Node.{Node}
use Rattle.table.specs.Nodes.{at, nowhere, child_field, Used}
use Rattle.table.specs.Climbing.{OnSheet}
use Rattle.table.specs.Sheets.{Sheet, Hole, ChildAt}
use Rattle.table.specs.Refusals.{Met}
use Rattle.table.specs.Represents.{Represents, numbers, In}
use Rattle.table.proofs.Distinctness.{distinct}
use Rattle.table.proofs.Frame.{framed, same_record_kept}
use Rattle.table.proofs.Members.{AtMostThree, member_under}
use Rattle.table.proofs.Places.{represented_at, at_place}
use Rattle.table.proofs.Reading.{in_order}
use Rattle.table.proofs.Replaced.{equal_or_not}
use Rattle.table.proofs.Under.{climb_used, under_used}
use Rattle.edit.specs.Fresh.{with_literal}
use Rattle.edit.specs.Checks.{retype_checks}
use Rattle.edit.specs.Edits.{Retyped}
use Rattle.edit.specs.Calls.{RetypeWork}
use Rattle.edit.proofs.Regrowing.{OneChanged, sheet_after, trees_after, persists}

module _ (g : Grammar) (before after : List Node) (n : ℕ) (l : ℤ) (sheet : Sheet g before) (few : length before ≤ 1000) (on : OnSheet before n) (accepted : T (g.accepts (at before n).production l)) (written : after ≡ set before n (with_literal (at before n) l)) where
  here : Used before n
  here = climb_used on

  at_n : at after n ≡ with_literal (at before n) l
  at_n = ap (λ ns. at ns n) written ∙ get_or-set_same before n (with_literal (at before n) l) nowhere here.0

  at_other : (x : ℕ) → (x ≡ n → ⊥) → at after x ≡ at before x
  at_other x other = ap (λ ns. at ns x) written ∙ get_or-set_other before n x (with_literal (at before n) l) nowhere other

  many : length after ≡ length before
  many = ap length written ∙ length-set before n (with_literal (at before n) l)

  -- but for literals, every record is as it was
  alike : {A : Type 0} (f : Node → A) → f (with_literal (at before n) l) ≡ f (at before n) → (x : ℕ) → f (at after x) ≡ f (at before x)
  alike {A} f e x = elim (equal_or_not x n) [
    | inl h ↦ subst (λ (i : ℕ). f (at after i) ≡ f (at before i)) (sym h.1) (ap f at_n ∙ e)
    | inr h ↦ ap f (at_other x h.1)
  ]

  child_stays : (x k : ℕ) → ChildAt g before x k → ChildAt g after x k
  child_stays x k c =
      let f : child_field (at after x) k ≡ child_field (at before x) k = alike (λ nd. child_field nd k) refl x in
      let m = child_field (at before x) k in
      record {
        used = subst (λ (i : ℕ). Used after i) (sym f) (omega (arith, many, c.used.0), alike (λ nd. nd.used) refl m ∙ c.used.1);
        symbol = ap (λ (i : ℕ). g.symbol (at after i).production) f ∙ alike (λ nd. g.symbol nd.production) refl m ∙ c.symbol ∙ sym (alike (λ nd. child g nd.production k) refl x);
        parent = ap (λ (i : ℕ). (at after i).parent) f ∙ alike (λ nd. nd.parent) refl m ∙ c.parent;
      }

  changed : OneChanged g before after n
  changed =
      let was = in_order sheet n here in
      record {
        many = many;
        used = alike (λ nd. nd.used) refl n ∙ here.1;
        parent = alike (λ nd. nd.parent) refl n;
        symbol = alike (λ nd. g.symbol nd.production) refl n;
        hole = λ h. subst (λ (p : ℕ). Hole g p) (alike (λ nd. nd.production) refl n) h;
        fits = record {
          production_exists = rw at_n was.production_exists;
          start = rw at_n was.start;
          literal_accepted = rw at_n accepted;
          children = λ k h. child_stays n k (was.children k (rw at_n at h));
          no_further = rw at_n was.no_further;
        };
        keeps = λ m o. record { place = o.place; inside = rw at_n o.inside; named = rw at_n o.named; alone = rw at_n o.alone };
        others = λ x h other. inl (at_other x other);
      }

  pub retyped : Retyped n l before after
  retyped = record { node_is = at_n; others = record { many = many; same = λ x out. at_other x (λ e. out (inl e)) } }

  -- the tree under the node has the new literal
  new_tree : (p : ℕ) (l' : ℤ) (a b c : Tree) → Represents before n (node n p l' a b c) → Represents after n (node n p l a b c)
  new_tree p l' a b c r =
      (refl, (persists g before after n sheet here changed n here).used, alike (λ nd. nd.production) refl n ∙ r.2, ap (λ nd. nd.literal) at_n, below 0 (omega arith), below 1 (omega arith), below 2 (omega arith))
    where
      below : (k : ℕ) → k < 3 → Represents after (child_field (at after n) k) (hanging (node n p l' a b c) k)
      below k h =
          let there = represented_at before n n p l' a b c r k h in
          subst (λ (i : ℕ). Represents after i (hanging (node n p l' a b c) k)) (sym (alike (λ nd. child_field nd k) refl n))
          (framed before after (hanging (node n p l' a b c) k) (child_field (at before n) k) there (λ x i.
          let u = under_used (member_under g before sheet few x (hanging (node n p l' a b c) k) (child_field (at before n) k) there i) in
          let other : x ≡ n → ⊥ = λ e. (distinct g before sheet few (node n p l' a b c) n r).0 (subst (λ (j : ℕ). In j (numbers a ++ (numbers b ++ numbers c))) e (at_place x numbers n p l' a b c k h i)) in
          same_record_kept before after x (sym (at_other x other)) (persists g before after n sheet here changed x u).used))

  pub retype_work : {R M : Type 0} (meaning : R → M) (nothing : M) (values : List R) → AtMostThree g → RetypeWork g meaning nothing before values after values n l
  retype_work meaning nothing values three = record {
    records = retyped;
    same_values = refl;
    sheet = sheet_after g before after n sheet here changed;
    trees = λ p l' a b c r. trees_after g before after n sheet here changed few three on (node n p l a b c) (new_tree p l' a b c r);
  }

-- Retype's checks and its one write together; the literal comes back from the code by another term, which is equal to it.
pub retype_done : {R M : Type 0} (g : Grammar) (meaning : R → M) (nothing : M) (before after : List Node) (values : List R) (n : ℕ) (l l' : ℤ) → AtMostThree g → l' ≡ l → Met (retype_checks g before (length values) n l') → after ≡ set before n (with_literal (at before n) l')
    → Met (retype_checks g before (length values) n l) × RetypeWork g meaning nothing before values after values n l
retype_done g meaning nothing before after values n l l' three same met' written =
    let met = subst (λ (z : ℤ). Met (retype_checks g before (length values) n z)) same met' in
    (met, retype_work g before after n l met.1.1.0 met.1.0.few met.1.1.1.0 met.1.1.1.1.0 (written ∙ ap (λ z. set before n (with_literal (at before n) z)) same) meaning nothing values three)
