-- The sheet without one clipping's nodes is a sheet, and its other trees are as they were.
use Rattle.std.proofs.Common.{◌≡◌, ℕ, zero, suc, ◌<◌, ◌≤◌, Bool, true, false, List, length, sym, refl, ◌∙◌, subst, inl, inr, arith}
use Rattle.grammar.specs.Grammar.{Grammar}
use Rattle.grammar.specs.Tree.{Tree}
use Rattle.table.specs.declared.node.Node.{Node}
use Rattle.table.specs.Nodes.{none, at, child_field, Used, Blank}
use Rattle.table.specs.Climbing.{Climb, ends, goes_on}
use Rattle.table.specs.Sheets.{Sheet, Good, InOrder, ChildAt, OneChildOf, Hangs, root, clipping, below, ClippingRoot}
use Rattle.table.specs.Represents.{Represents}
use Rattle.table.proofs.Reading.{in_order, never_none}
use Rattle.table.proofs.Climbs.{climb_used, climb_unique}
use Rattle.table.proofs.Under.{under_climb}
use Rattle.table.proofs.Members.{member_under}
use Rattle.table.proofs.Frame.{same_record_kept, framed}
use Rattle.table.proofs.Replaced.{equal_or_not}
use Rattle.edit.specs.Fresh.{free_record}
use Rattle.edit.specs.Memory.{SameFrom}
use Rattle.edit.specs.Edits.{Discarded}
use Rattle.edit.specs.Calls.{DiscardWork}

-- a free node's record is blank
pub free_is_blank : (nd : Node) → nd ≡ free_record → Blank nd
free_is_blank nd e = subst Blank (sym e) (record { free = refl; production = refl; literal = refl; parent = refl; children = fields })
  where
    fields : (k : ℕ) → k < 3 → child_field free_record k ≡ none
    fields zero h = refl
    fields (suc zero) h = refl
    fields (suc (suc zero)) h = refl
    fields (suc (suc (suc k))) h = absurd (omega arith)

-- node 0 has no parent
pub start_parent : {g : Grammar} {ns : List Node} → Sheet g ns → (at ns 0).parent ≡ none
start_parent {g} {ns} sheet = go (in_order sheet 0 sheet.root_used).hangs
  where
    go : Hangs g ns 0 → (at ns 0).parent ≡ none
    go (root z e) = e
    go (clipping z e h) = e
    go (below z u o) = absurd (z refl)

module _ (g : Grammar) (ns ns' : List Node) (top : ℕ) (sheet : Sheet g ns) (few : length ns ≤ 1000) (away : ClippingRoot ns top) (done : Discarded top ns ns') where
  few_numbers : length ns ≤ none
  few_numbers = omega arith

  -- node n is in use and not in the clipping
  abbrev Stays : ℕ → Type 0
  Stays n = Used ns n × (Climb ns top n → ⊥)

  same : (n : ℕ) → Stays n → at ns' n ≡ at ns n
  same n s = done.others n s.1

  used : (n : ℕ) → Stays n → Used ns' n
  used n s = (omega (arith, done.many, s.0.0), rw (same n s) s.0.1)

  -- with a node stay its parent and its children
  parent_stays : (n m : ℕ) → Stays n → (at ns n).parent ≡ m → Used ns m → Stays m
  parent_stays n m s e u = (u, λ c. s.1 (goes_on m s.0 e c))

  child_stays : (n c : ℕ) → Stays n → Used ns c → (at ns c).parent ≡ n → Stays c
  child_stays n c s u e = (u, go)
    where
      go : Climb ns top c → ⊥
      go (ends v p f) = never_none ns few n s.0 (sym e ∙ p)
      go (goes_on m v p d) = s.1 (subst (λ (i : ℕ). Climb ns top i) (sym p ∙ e) d)

  climb_stays : (r n : ℕ) → Stays n → Climb ns r n → Climb ns' r n
  climb_stays r n s (ends u p e) = ends (used n s) (rw (same n s) p) e
  climb_stays r n s (goes_on m u p c) = goes_on m (used n s) (rw (same n s) p) (climb_stays r m (parent_stays n m s p (climb_used ns r m c)) c)

  child_kept : (n k : ℕ) → Stays n → ChildAt g ns n k → ChildAt g ns' n k
  child_kept n k s c =
      let t : Stays (child_field (at ns n) k) = child_stays n (child_field (at ns n) k) s c.used c.parent in
      let u : Used ns' (child_field (at ns n) k) = used (child_field (at ns n) k) t in
      record {
        used = rw (same n s) u;
        symbol = rw (same n s, same (child_field (at ns n) k) t) c.symbol;
        parent = rw (same n s, same (child_field (at ns n) k) t) c.parent;
      }

  one_child_kept : (m n : ℕ) → Stays m → OneChildOf g ns m n → OneChildOf g ns' m n
  one_child_kept m n s o = record { place = o.place; inside = rw (same m s) o.inside; named = rw (same m s) o.named; alone = rw (same m s) o.alone }

  hangs_kept : (n : ℕ) → Stays n → Hangs g ns n → Hangs g ns' n
  hangs_kept n s (root z e) = root z (rw (same n s) e)
  hangs_kept n s (clipping z e h) = clipping z (rw (same n s) e) (rw (same n s) h)
  hangs_kept n s (below z u o) =
      let t : Stays (at ns n).parent = parent_stays n (at ns n).parent s refl u in
      below z (rw (same n s) (used (at ns n).parent t)) (rw (same n s) (one_child_kept (at ns n).parent n t o))

  in_order_kept : (n : ℕ) → Stays n → InOrder g ns' n
  in_order_kept n s =
      let o : InOrder g ns n = in_order sheet n s.0 in
      record {
        production_exists = rw (same n s) o.production_exists;
        start = rw (same n s) o.start;
        literal_accepted = rw (same n s) o.literal_accepted;
        children = λ k h. child_kept n k s (o.children k (rw (same n s) at h));
        no_further = rw (same n s) o.no_further;
        hangs = hangs_kept n s o.hangs;
        climbs = (o.climbs.0, climb_stays o.climbs.0 n s o.climbs.1);
      }

  good_used : (n : ℕ) → Stays n → Good g ns' n
  good_used n s = rw ((used n s).1, Good) (in_order_kept n s)

  good_free : (n : ℕ) → Blank (at ns' n) → Good g ns' n
  good_free n b = rw (b.free, Good) b

  -- the node is out of the clipping where its climb ends at another node
  elsewhere : (r n : ℕ) → (r ≡ top → ⊥) → Climb ns r n → Climb ns top n → ⊥
  elsewhere r n other c d = other (climb_unique ns few_numbers r top n c d)

  good_after : (n : ℕ) → n < length ns → Good g ns' n
  good_after n h = go (at ns n).used refl
    where
      go : (b : Bool) → (at ns n).used ≡ b → Good g ns' n
      go true e =
          let o : InOrder g ns n = in_order sheet n (h, e) in
          elim (equal_or_not o.climbs.0 top) [
            | inl q ↦ good_free n (free_is_blank (at ns' n) (done.freed n (subst (λ (r : ℕ). Climb ns r n) q.1 o.climbs.1)))
            | inr q ↦ good_used n ((h, e), elsewhere o.climbs.0 n q.1 o.climbs.1)
          ]
      go false e =
          let out : Climb ns top n → ⊥ = λ c. (let z : true ≡ false = sym (climb_used ns top n c).1 ∙ e in let y : ◌≡◌ {A = ℕ} 0 1 = cc in omega arith) in
          let b : Blank (at ns n) = rw (e, Good) at (sheet.each n h) in
          good_free n (rw (done.others n out) b)

  start_stays : Stays 0
  start_stays = (sheet.root_used, elsewhere 0 0 (λ e. away.1 (sym e)) (ends sheet.root_used (start_parent sheet) refl))

  pub still_sheet : Sheet g ns'
  still_sheet = record { root_used = used 0 start_stays; each = λ n h. good_after n (omega (arith, done.many)) }

  -- the tree under any other node without parent stays
  pub other_tree : (r : ℕ) (t : Tree) → (at ns r).parent ≡ none → (r ≡ top → ⊥) → Represents ns r t → Represents ns' r t
  other_tree r t e other rep =
      framed ns ns' t r rep (λ m i.
      let c : Climb ns r m = under_climb e (member_under g ns sheet few m t r rep i) in
      let s : Stays m = (climb_used ns r m c, elsewhere r m other c) in
      same_record_kept ns ns' m (sym (same m s)) (used m s))

  pub sheet_tree : (t : Tree) → Represents ns 0 t → Represents ns' 0 t
  sheet_tree t = other_tree 0 t (start_parent sheet) (λ e. away.1 (sym e))

  -- what discard leaves, where the clipping's nodes were freed
  pub discard_work : {R M : Type 0} (meaning : R → M) (nothing : M) (values : List R) (waiting waiting' : List ℕ) → SameFrom (length ns) waiting waiting' → DiscardWork g meaning nothing ns values ns' values top waiting waiting'
  discard_work meaning nothing values waiting waiting' kept = record {
    records = done;
    same_values = refl;
    same_waiting = kept;
    sheet = still_sheet;
    sheet_tree = sheet_tree;
    clippings = λ r t root other. other_tree r t root.2 other;
  }
