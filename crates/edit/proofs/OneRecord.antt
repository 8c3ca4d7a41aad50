-- Forests with one record changed: a hole put down at a free node as a root, and a root hole whose node becomes free.
use Rattle.std.proofs.Common.{◌≡◌, ℕ, zero, suc, ◌<◌, ◌≤◌, Bool, true, false, T, List, [], ◌∷◌, length, get_or, sym, refl, ap, ◌∙◌, subst, inl, inr, arith}
use Rattle.grammar.specs.Grammar.{Grammar, child}
use Rattle.grammar.specs.Text.{Segment}
use Rattle.grammar.specs.Limits.{Limits}
use Rattle.table.specs.declared.node.Node.{Node}
use Rattle.table.specs.Nodes.{none, at, child_field, Used, Blank}
use Rattle.table.specs.Climbing.{Climb, ends, goes_on}
use Rattle.table.specs.Sheets.{ChildAt, OneChildOf}
use Rattle.table.proofs.Climbs.{climb_used}
use Rattle.table.proofs.Reading.{never_none}
use Rattle.table.proofs.Replaced.{equal_or_not}
use Rattle.edit.specs.Fresh.{hole_record, free_record}
use Rattle.edit.proofs.Forest.{Forest, Tended, Stands, alone, hanging}

-- three child fields that name no node
pub no_children : (k : ℕ) → k < 3 → get_or (none ∷ none ∷ none ∷ []) k 0 ≡ none
no_children zero h = refl
no_children (suc zero) h = refl
no_children (suc (suc zero)) h = refl
no_children (suc (suc (suc k))) h = absurd (omega arith)

pub not_both : (b : Bool) → b ≡ true → b ≡ false → ⊥
not_both b t f = let z : true ≡ false = sym t ∙ f in let y : ◌≡◌ {A = ℕ} 0 1 = cc in omega arith

module _ (g : Grammar) (ns ns' : List Node) (y : ℕ) (many : length ns' ≡ length ns) (same : (x : ℕ) → (x ≡ y → ⊥) → at ns' x ≡ at ns x) where
  used_after : (x : ℕ) → (x ≡ y → ⊥) → Used ns x → Used ns' x
  used_after x other u = (omega (arith, u.0, many), ap (λ (nd : Node). nd.used) (same x other) ∙ u.1)

  used_before : (x : ℕ) → (x ≡ y → ⊥) → Used ns' x → Used ns x
  used_before x other u = (omega (arith, u.0, many), sym (ap (λ (nd : Node). nd.used) (same x other)) ∙ u.1)

  -- a node other than the changed one, with other children and another parent, keeps what it kept
  stays : (x : ℕ) → (x ≡ y → ⊥) → Tended g ns x → ((k : ℕ) → k < length (g.children (at ns x).production) → child_field (at ns x) k ≡ y → ⊥) → (OneChildOf g ns (at ns x).parent x → (at ns x).parent ≡ y → ⊥) → (s : ℕ) × Climb ns' s x → Tended g ns' x
  stays x other t child_other parent_other climbs = record {
    production_exists = subst (λ (nd : Node). nd.production < g.productions) (sym same_x) t.production_exists;
    start = subst (λ (nd : Node). (x ≡ 0 → nd.production ≡ 0) × (nd.production ≡ 0 → x ≡ 0)) (sym same_x) t.start;
    literal_accepted = subst (λ (nd : Node). T (g.accepts nd.production nd.literal)) (sym same_x) t.literal_accepted;
    children = λ k h. child_after k (subst (λ (nd : Node). k < length (g.children nd.production)) same_x h);
    no_further = subst (λ (nd : Node). (k : ℕ) → length (g.children nd.production) ≤ k → k < 3 → child_field nd k ≡ none) (sym same_x) t.no_further;
    stands = stand t.stands;
    climbs = climbs;
  }
    where
      same_x : at ns' x ≡ at ns x
      same_x = same x other

      child_after : (k : ℕ) → k < length (g.children (at ns x).production) → ChildAt g ns' x k
      child_after k h =
          let c : ChildAt g ns x k = t.children k h in
          let field : child_field (at ns' x) k ≡ child_field (at ns x) k = ap (λ (nd : Node). child_field nd k) same_x in
          let e : at ns' (child_field (at ns x) k) ≡ at ns (child_field (at ns x) k) = same (child_field (at ns x) k) (child_other k h) in
          record {
            used = subst (λ (i : ℕ). Used ns' i) (sym field) (used_after (child_field (at ns x) k) (child_other k h) c.used);
            symbol = ap (λ (i : ℕ). g.symbol (at ns' i).production) field ∙ ap (λ (nd : Node). g.symbol nd.production) e ∙ c.symbol ∙ sym (ap (λ (nd : Node). child g nd.production k) same_x);
            parent = ap (λ (i : ℕ). (at ns' i).parent) field ∙ ap (λ (nd : Node). nd.parent) e ∙ c.parent;
          }

      one_child : (p : ℕ) → (p ≡ y → ⊥) → OneChildOf g ns p x → OneChildOf g ns' p x
      one_child p p-other o =
          let e : at ns' p ≡ at ns p = same p p-other in
          record {
            place = o.place;
            inside = subst (λ (nd : Node). o.place < length (g.children nd.production)) (sym e) o.inside;
            named = ap (λ (nd : Node). child_field nd o.place) e ∙ o.named;
            alone = subst (λ (nd : Node). (k : ℕ) → k < length (g.children nd.production) → child_field nd k ≡ x → k ≡ o.place) (sym e) o.alone;
          }

      stand : Stands g ns x → Stands g ns' x
      stand (alone p) = alone (ap (λ (nd : Node). nd.parent) same_x ∙ p)
      stand (hanging z u o) =
          let e : (at ns x).parent ≡ (at ns' x).parent = sym (ap (λ (nd : Node). nd.parent) same_x) in
          hanging z (subst (λ (i : ℕ). Used ns' i) e (used_after (at ns x).parent (parent_other o) u)) (subst (λ (i : ℕ). OneChildOf g ns' i x) e (one_child (at ns x).parent (parent_other o) o))

  -- a root hole's node becomes free
  pub freed_forest : length ns ≤ 1000 → Forest g ns → (y ≡ 0 → ⊥) → (at ns y).parent ≡ none → length (g.children (at ns y).production) ≡ 0 → at ns' y ≡ free_record → Forest g ns'
  freed_forest few forest other root childless freed = record {
    root_used = used_after 0 (λ e. other (sym e)) forest.root_used;
    tended = λ x u. tend x (still x u) (used_before x (still x u) u);
    blank = blank;
  }
    where
      still : (x : ℕ) → Used ns' x → x ≡ y → ⊥
      still x u e = not_both (at ns' x).used u.1 (subst (λ (i : ℕ). (at ns' i).used ≡ false) (sym e) (ap (λ (nd : Node). nd.used) freed))

      no_child_of_it : (p x : ℕ) → OneChildOf g ns p x → p ≡ y → ⊥
      no_child_of_it p x o e = let h : o.place < length (g.children (at ns y).production) = subst (λ (i : ℕ). o.place < length (g.children (at ns i).production)) e o.inside in omega (arith, childless)

      climbs : (s x : ℕ) → (x ≡ y → ⊥) → Climb ns s x → Climb ns' s x
      climbs s x x-other (ends u p e) = ends (used_after x x-other u) (ap (λ (nd : Node). nd.parent) (same x x-other) ∙ p) e
      climbs s x x-other (goes_on m u p c) = goes_on m (used_after x x-other u) (ap (λ (nd : Node). nd.parent) (same x x-other) ∙ p) (climbs s m (next (forest.tended x u).stands) c)
        where
          next : Stands g ns x → m ≡ y → ⊥
          next (alone q) e = never_none ns few m (climb_used ns s m c) (sym p ∙ q)
          next (hanging z v o) e = no_child_of_it (at ns x).parent x o (p ∙ e)

      tend : (x : ℕ) → (x ≡ y → ⊥) → Used ns x → Tended g ns' x
      tend x x-other u =
          let t : Tended g ns x = forest.tended x u in
          stays x x-other t
          (λ k h e. never_none ns few x u (sym (t.children k h).parent ∙ ap (λ (i : ℕ). (at ns i).parent) e ∙ root))
          (λ o e. no_child_of_it (at ns x).parent x o e)
          (t.climbs.0, climbs t.climbs.0 x x-other t.climbs.1)

      blank : (x : ℕ) → x < length ns' → (at ns' x).used ≡ false → Blank (at ns' x)
      blank x h e = elim (equal_or_not x y) [
        | inl a ↦ subst (λ (i : ℕ). Blank (at ns' i)) (sym a.1) (subst Blank (sym freed) (record { free = refl; production = refl; literal = refl; parent = refl; children = no_children }))
        | inr a ↦ subst Blank (sym (same x a.1)) (forest.blank x (omega (arith, many)) (sym (ap (λ (nd : Node). nd.used) (same x a.1)) ∙ e))
      ]

  -- a used node is not the free one
  pub not_there : (at ns y).used ≡ false → (x : ℕ) → Used ns x → x ≡ y → ⊥
  not_there free x u e = not_both (at ns x).used u.1 (subst (λ (i : ℕ). (at ns i).used ≡ false) (sym e) free)

  -- where a free node's record changes, every climb stays
  pub climb_stays : (at ns y).used ≡ false → (r x : ℕ) → Climb ns r x → Climb ns' r x
  climb_stays free r x (ends u p e) = ends (used_after x (not_there free x u) u) (ap (λ (nd : Node). nd.parent) (same x (not_there free x u)) ∙ p) e
  climb_stays free r x (goes_on m u p c) = goes_on m (used_after x (not_there free x u) u) (ap (λ (nd : Node). nd.parent) (same x (not_there free x u)) ∙ p) (climb_stays free r m c)

  -- a hole is put down at a free node, as a root
  pub fresh_forest : {text : ℕ → List Segment} → Limits g text → length ns ≤ 1000 → Forest g ns → (s : ℕ) → 0 < s → s < g.symbols → y < length ns → (at ns y).used ≡ false → at ns' y ≡ hole_record s none → Forest g ns'
  fresh_forest limits few forest s positive few_symbols inside free put = record {
    root_used = used_after 0 (not_there free 0 forest.root_used) forest.root_used;
    tended = tended;
    blank = λ x h e. elim (equal_or_not x y) [
      | inl a ↦ absurd (not_both (at ns' x).used (subst (λ (i : ℕ). (at ns' i).used ≡ true) (sym a.1) (ap (λ (nd : Node). nd.used) put)) e)
      | inr a ↦ subst Blank (sym (same x a.1)) (forest.blank x (omega (arith, many)) (sym (ap (λ (nd : Node). nd.used) (same x a.1)) ∙ e))
    ];
  }
    where
      old : (x : ℕ) → Used ns x → Tended g ns' x
      old x u =
          let t : Tended g ns x = forest.tended x u in
          stays x (not_there free x u) t (λ k h. not_there free (child_field (at ns x) k) (t.children k h).used) (λ o. parent_there t.stands) (t.climbs.0, climb_stays free t.climbs.0 x t.climbs.1)
        where
          parent_there : Stands g ns x → (at ns x).parent ≡ y → ⊥
          parent_there (alone p) e = let z : y ≡ none = sym e ∙ p in omega arith
          parent_there (hanging z v o) e = not_there free (at ns x).parent v e

      used_y : Used ns' y
      used_y = (omega (arith, many), ap (λ (nd : Node). nd.used) put)

      new : Tended g ns' y
      new = record {
        production_exists = subst (λ (nd : Node). nd.production < g.productions) (sym put) (limits.hole s positive few_symbols).0;
        start = ((λ e. absurd (not_there free y (subst (λ (i : ℕ). Used ns i) (sym e) forest.root_used) refl)), (λ e. absurd (let z : s ≡ 0 = sym (ap (λ (nd : Node). nd.production) put) ∙ e in omega arith)));
        literal_accepted = subst (λ (nd : Node). T (g.accepts nd.production nd.literal)) (sym put) (limits.zero_alone s few_symbols).0;
        children = λ k h. absurd (let h' : k < length (g.children s) = subst (λ (nd : Node). k < length (g.children nd.production)) put h in omega (arith, ap (λ (xs : List ℕ). length xs) (limits.hole s positive few_symbols).2));
        no_further = λ k h l. ap (λ (nd : Node). child_field nd k) put ∙ no_children k l;
        stands = alone (ap (λ (nd : Node). nd.parent) put);
        climbs = (y, ends used_y (ap (λ (nd : Node). nd.parent) put) refl);
      }

      tended : (x : ℕ) → Used ns' x → Tended g ns' x
      tended x u = elim (equal_or_not x y) [
        | inl a ↦ subst (λ (i : ℕ). Tended g ns' i) (sym a.1) new
        | inr a ↦ old x (used_before x a.1 u)
      ]
