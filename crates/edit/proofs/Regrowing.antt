-- One node with another record, and perhaps new nodes under it: the nodes form a sheet afterwards, and the trees are as they were but for that node's.
use Rattle.std.proofs.Common.{◌≡◌, ℕ, ◌<◌, ◌≤◌, Bool, true, false, ◌⊎◌, List, length, sym, refl, ap, ◌∙◌, subst, inl, inr, arith}
use Rattle.grammar.specs.Grammar.{Grammar, child}
use Rattle.grammar.specs.Tree.{Tree}
use Rattle.table.specs.declared.node.Node.{Node}
use Rattle.table.specs.Nodes.{none, at, child_field, Used, Blank}
use Rattle.table.specs.Climbing.{Climb, ends, goes_on, OnSheet}
use Rattle.table.specs.Sheets.{Sheet, Good, InOrder, Hangs, root, clipping, below as hung_below, Hole, ChildAt, OneChildOf}
use Rattle.table.specs.Represents.{Represents}
use Rattle.table.specs.Testing.{RecordFits}
use Rattle.table.proofs.Climbs.{climb_unique}
use Rattle.table.proofs.Reading.{in_order}
use Rattle.table.proofs.Frame.{Kept, framed, same_record_kept}
use Rattle.table.proofs.Under.{climb_used, under_used, itself}
use Rattle.table.proofs.Members.{AtMostThree, members, member_under}
use Rattle.table.proofs.Relinking.{node_replaced}
use Rattle.table.proofs.Replaced.{equal_or_not}
use Rattle.edit.specs.Calls.{Regrown}

-- a node that was free is in use, and hangs under node n
pub record NewUnder (g : Grammar) (before after : List Node) (n x : ℕ) : Type 0 where
  pub was_free : (at before x).used ≡ false
  pub used : (at after x).used ≡ true
  pub parent : (at after x).parent ≡ n
  pub fits : RecordFits g after x
  pub other : x ≡ 0 → ⊥
  pub hangs : OneChildOf g after n x

-- Node n's record is another and still fits, and all that hung under it hangs there still. Every other record is the same, or that of a new node under n.
pub record OneChanged (g : Grammar) (before after : List Node) (n : ℕ) : Type 0 where
  pub many : length after ≡ length before
  pub used : (at after n).used ≡ true
  pub parent : (at after n).parent ≡ (at before n).parent
  pub symbol : g.symbol (at after n).production ≡ g.symbol (at before n).production
  pub hole : Hole g (at after n).production → Hole g (at before n).production
  pub fits : RecordFits g after n
  pub keeps : (m : ℕ) → OneChildOf g before n m → OneChildOf g after n m
  pub others : (x : ℕ) → x < length before → (x ≡ n → ⊥) → (at after x ≡ at before x) ⊎ NewUnder g before after n x

-- a node is not in use and free
pub never_both : (b : Bool) → b ≡ true → b ≡ false → ⊥
never_both b t f = let z : ◌≡◌ {A = ℕ} 0 1 = cc in omega arith

module _ (g : Grammar) (before after : List Node) (n : ℕ) (sheet : Sheet g before) (here : Used before n) (changed : OneChanged g before after n) where
  -- a used node other than n has the same record
  pub same_record : (x : ℕ) → Used before x → (x ≡ n → ⊥) → at after x ≡ at before x
  same_record x u other = elim (changed.others x u.0 other) [
    | inl e ↦ e
    | inr new ↦ absurd (never_both (at before x).used u.1 new.was_free)
  ]

  -- what every used node keeps
  pub record Persists (x : ℕ) : Type 0 where
    pub used : Used after x
    pub symbol : g.symbol (at after x).production ≡ g.symbol (at before x).production
    pub parent : (at after x).parent ≡ (at before x).parent

  pub persists : (x : ℕ) → Used before x → Persists x
  persists x u = elim (equal_or_not x n) [
    | inl h ↦ subst (λ (i : ℕ). Persists i) (sym h.1) (record { used = (omega (arith, here.0, changed.many), changed.used); symbol = changed.symbol; parent = changed.parent })
    | inr h ↦
        let e = same_record x u h.1 in
        record { used = (omega (arith, u.0, changed.many), ap (λ nd. nd.used) e ∙ u.1); symbol = ap (λ nd. g.symbol nd.production) e; parent = ap (λ nd. nd.parent) e }
  ]

  pub climb_persists : {r x : ℕ} → Climb before r x → Climb after r x
  climb_persists {r} {x} (ends u e f) = ends (persists x u).used ((persists x u).parent ∙ e) f
  climb_persists {r} {x} (goes_on m u e c) = goes_on m (persists x u).used ((persists x u).parent ∙ e) (climb_persists c)

  child_persists : (q m : ℕ) → Used before q → OneChildOf g before q m → OneChildOf g after q m
  child_persists q m u o = elim (equal_or_not q n) [
    | inl h ↦ subst (λ (i : ℕ). OneChildOf g after i m) (sym h.1) (changed.keeps m (subst (λ (i : ℕ). OneChildOf g before i m) h.1 o))
    | inr h ↦
        let e = same_record q u h.1 in
        record {
          place = o.place;
          inside = rw e o.inside;
          named = rw e o.named;
          alone = rw e o.alone;
        }
  ]

  hangs_persists : (x : ℕ) → Used before x → (Hole g (at after x).production → Hole g (at before x).production) → Hangs g before x → Hangs g after x
  hangs_persists x u hole (root z p) = root z ((persists x u).parent ∙ p)
  hangs_persists x u hole (clipping z p h) = clipping z ((persists x u).parent ∙ p) (λ y. h (hole y))
  hangs_persists x u hole (hung_below z v o) =
      let e = (persists x u).parent in
      hung_below z (subst (λ (i : ℕ). Used after i) (sym e) (persists (at before x).parent v).used) (subst (λ (i : ℕ). OneChildOf g after i x) (sym e) (child_persists (at before x).parent x v o))

  at_node : InOrder g after n
  at_node =
      let was = in_order sheet n here in
      record {
        production_exists = changed.fits.production_exists;
        start = changed.fits.start;
        literal_accepted = changed.fits.literal_accepted;
        children = changed.fits.children;
        no_further = changed.fits.no_further;
        hangs = hangs_persists n here changed.hole was.hangs;
        climbs = (was.climbs.0, climb_persists was.climbs.1);
      }

  at_other : (x : ℕ) → Used before x → at after x ≡ at before x → InOrder g after x
  at_other x u e =
      let was = in_order sheet x u in
      record {
        production_exists = rw e was.production_exists;
        start = rw e was.start;
        literal_accepted = rw e was.literal_accepted;
        children = λ k h. child_at k h (was.children k (rw e at h));
        no_further = rw e was.no_further;
        hangs = hangs_persists x u (λ h. rw e at h) was.hangs;
        climbs = (was.climbs.0, climb_persists was.climbs.1);
      }
    where
      child_at : (k : ℕ) → k < length (g.children (at after x).production) → ChildAt g before x k → ChildAt g after x k
      child_at k h c =
          let f : child_field (at after x) k ≡ child_field (at before x) k = ap (λ nd. child_field nd k) e in
          let v = persists (child_field (at before x) k) c.used in
          record {
            used = subst (λ (i : ℕ). Used after i) (sym f) v.used;
            symbol = ap (λ (i : ℕ). g.symbol (at after i).production) f ∙ v.symbol ∙ c.symbol ∙ ap (λ nd. child g nd.production k) (sym e);
            parent = ap (λ (i : ℕ). (at after i).parent) f ∙ v.parent ∙ c.parent;
          }

  at_new : (x : ℕ) → x < length before → NewUnder g before after n x → InOrder g after x
  at_new x h new =
      let u : Used after x = (omega (arith, h, changed.many), new.used) in
      record {
        production_exists = new.fits.production_exists;
        start = new.fits.start;
        literal_accepted = new.fits.literal_accepted;
        children = new.fits.children;
        no_further = new.fits.no_further;
        hangs = hung_below new.other (subst (λ (i : ℕ). Used after i) (sym new.parent) (persists n here).used) (subst (λ (i : ℕ). OneChildOf g after i x) (sym new.parent) new.hangs);
        climbs = ((in_order sheet n here).climbs.0, goes_on n u new.parent (climb_persists (in_order sheet n here).climbs.1));
      }

  good_used : (x : ℕ) → (at after x).used ≡ true → InOrder g after x → Good g after x
  good_used x e o = rw (e, Good) o

  good_free : (x : ℕ) → (at after x).used ≡ false → Blank (at after x) → Good g after x
  good_free x e o = rw (e, Good) o

  good_same : (x : ℕ) → x < length before → at after x ≡ at before x → Good g after x
  good_same x h e = go (at before x).used refl
    where
      go : (b : Bool) → (at before x).used ≡ b → Good g after x
      go true t = good_used x (ap (λ nd. nd.used) e ∙ t) (at_other x (h, t) e)
      go false t = good_free x (ap (λ nd. nd.used) e ∙ t) (rw e (rw (t, Good) at (sheet.each x h)))

  -- the nodes form a sheet afterwards
  pub sheet_after : Sheet g after
  sheet_after = record {
    root_used = (persists 0 sheet.root_used).used;
    each = λ x h. let h' : x < length before = omega (arith, h, changed.many) in elim (equal_or_not x n) [
      | inl q ↦ subst (λ (i : ℕ). Good g after i) (sym q.1) (good_used n changed.used at_node)
      | inr q ↦ elim (changed.others x h' q.1) [
        | inl e ↦ good_same x h' e
        | inr new ↦ good_used x new.used (at_new x h' new)
      ]
    ];
  }

  -- the trees afterwards, where node n is on the sheet
  pub trees_after : length before ≤ 1000 → AtMostThree g → OnSheet before n → (new : Tree) → Represents after n new → Regrown n new (λ r. Unit {0}) before after
  trees_after few three on new after-n = record {
    sheet_tree = λ t r.
        let is_member = members g before sheet few three t 0 r (no_parent (in_order sheet 0 sheet.root_used).hangs) n in
        node_replaced g before sheet few after t 0 r n new (is_member.1 on) after-n
        (λ x i out. kept x (under_used (member_under g before sheet few x t 0 r i)) (λ e. out (itself (under_used (member_under g before sheet few x t 0 r i)) e)));
    clippings = λ r t is tt' rep.
        framed before after t r rep (λ x i.
        let c : Climb before r x = (members g before sheet few three t r rep is.2 x).0 i in
        kept x (climb_used c) (λ e. is.1 (climb_unique before (omega arith) r 0 n (subst (λ (j : ℕ). Climb before r j) e c) on)));
  }
    where
      kept : (x : ℕ) → Used before x → (x ≡ n → ⊥) → Kept before after x
      kept x u other = same_record_kept before after x (sym (same_record x u other)) (persists x u).used

      no_parent : Hangs g before 0 → (at before 0).parent ≡ none
      no_parent (root z p) = p
      no_parent (clipping z p h) = p
      no_parent (hung_below z v o) = absurd (z refl)
