-- The table that make leaves is a sheet, with production 0 over holes under node 0 and nothing else.
use Rattle.std.proofs.Common.{◌≡◌, ℕ, zero, suc, ◌+◌, ◌-◌, ◌*◌, ◌<◌, ◌≤◌, Bool, true, false, List, [], ◌∷◌, length, get_or, take, pos, sym, refl, ap, ◌∙◌, subst, inl, inr, arith}
use Rattle.grammar.specs.Grammar.{Grammar, child}
use Rattle.grammar.specs.Limits.{Limits}
use Rattle.grammar.specs.Text.{Segment}
use Rattle.grammar.specs.Tree.{Tree, node}
use Rattle.table.specs.declared.node.Node.{Node}
use Rattle.table.specs.Nodes.{none, at, child_field, Used, Blank}
use Rattle.table.specs.Climbing.{ends, goes_on}
use Rattle.table.specs.Sheets.{Sheet, Good, InOrder, ChildAt, OneChildOf, root, below}
use Rattle.table.specs.Represents.{Represents}
use Rattle.table.proofs.Reading.{below_or_not}
use Rattle.edit.specs.Fresh.{free_below, new_nodes, hole_record, three}
use Rattle.edit.specs.Memory.{BlankedFirst}
use Rattle.edit.specs.Edits.{highest, Made}
use Rattle.edit.specs.Calls.{hole_tree, hole_trees, hole_at_place, MakeWork}
use Rattle.edit.proofs.FreedClipping.{free_is_blank}

-- the highest numbers by place, and none past them
pub highest_at : (n count k : ℕ) → k < count → get_or (highest n count) k none ≡ n - 1 - k
highest_at n zero k h = absurd (omega arith)
highest_at n (suc count) zero h = omega arith
highest_at n (suc count) (suc k) h = let e : get_or (highest (n - 1) count) k none ≡ n - 1 - 1 - k = highest_at (n - 1) count k (omega arith) in omega arith

pub highest_past : (n count k : ℕ) → count ≤ k → get_or (highest n count) k none ≡ none
highest_past n zero k h = refl
highest_past n (suc count) zero h = absurd (omega arith)
highest_past n (suc count) (suc k) h = highest_past (n - 1) count k (omega arith)

pub three_at : (xs : List ℕ) (k : ℕ) → k < 3 → get_or (three xs) k 0 ≡ get_or xs k none
three_at xs zero h = refl
three_at xs (suc zero) h = refl
three_at xs (suc (suc zero)) h = refl
three_at xs (suc (suc (suc k))) h = absurd (omega arith)

-- the trees of holes by place: a hole for each number that has a symbol, and nothing past them
pub hole_trees_at : (ns symbols : List ℕ) (k : ℕ) (d e : ℕ) → k < length ns → k < length symbols → get_or (hole_trees ns symbols) k Tree.none ≡ hole_tree (get_or ns k d) (get_or symbols k e)
hole_trees_at [] symbols k d e h i = absurd (omega arith)
hole_trees_at (n ∷ ns) [] k d e h i = absurd (omega arith)
hole_trees_at (n ∷ ns) (s ∷ symbols) zero d e h i = refl
hole_trees_at (n ∷ ns) (s ∷ symbols) (suc k) d e h i = hole_trees_at ns symbols k d e (omega arith) (omega arith)

pub hole_trees_past : (ns symbols : List ℕ) (k : ℕ) → length symbols ≤ k → get_or (hole_trees ns symbols) k Tree.none ≡ Tree.none
hole_trees_past [] symbols k h = refl
hole_trees_past (n ∷ ns) [] k h = refl
hole_trees_past (n ∷ ns) (s ∷ symbols) zero h = absurd (omega arith)
hole_trees_past (n ∷ ns) (s ∷ symbols) (suc k) h = hole_trees_past ns symbols k (omega arith)

pub length_highest : (n count : ℕ) → length (highest n count) ≡ count
length_highest n zero = refl
length_highest n (suc count) = ap suc (length_highest (n - 1) count)

-- the fields of a hole's record name nothing
pub hole_fields : (s m k : ℕ) → k < 3 → child_field (hole_record s m) k ≡ none
hole_fields s m k h = fields k h
  where
    fields : (k : ℕ) → k < 3 → child_field (hole_record s m) k ≡ none
    fields zero h = refl
    fields (suc zero) h = refl
    fields (suc (suc zero)) h = refl
    fields (suc (suc (suc k))) h = absurd (omega arith)

module _ (g : Grammar) (text : ℕ → List Segment) (limits : Limits g text) (nodes : ℕ) (ns : List Node) (made : Made g nodes ns) (few : nodes ≤ 1000) (room : suc (length (g.children 0)) ≤ nodes) where
  at_most_three : length (g.children 0) ≤ 3
  at_most_three = (limits.each 0 limits.start.0).few_children

  start_used : Used ns 0
  start_used = (omega (arith, made.many), rw made.start_is refl)

  -- child place k of node 0
  field : (k : ℕ) → k < length (g.children 0) → child_field (at ns 0) k ≡ nodes - 1 - k
  field k h = rw made.start_is (three_at (highest nodes (length (g.children 0))) k (omega (arith, at_most_three)) ∙ highest_at nodes (length (g.children 0)) k h)

  no_field : (k : ℕ) → length (g.children 0) ≤ k → k < 3 → child_field (at ns 0) k ≡ none
  no_field k h i = rw made.start_is (three_at (highest nodes (length (g.children 0))) k i ∙ highest_past nodes (length (g.children 0)) k h)

  -- the hole at child place k
  module _ (k : ℕ) (h : k < length (g.children 0)) where
    hole_used : Used ns (nodes - 1 - k)
    hole_used = (omega (arith, made.many), rw (made.hole k h) refl)

    exists : (0 < child g 0 k) × (child g 0 k < g.symbols)
    exists = (limits.each 0 limits.start.0).child_exists k h

    is_hole : (child g 0 k < g.productions) × (g.symbol (child g 0 k) ≡ child g 0 k) × (g.children (child g 0 k) ≡ [])
    is_hole = limits.hole (child g 0 k) exists.0 exists.1

    child_fits : ChildAt g ns 0 k
    child_fits = record {
      used = rw (field k h) hole_used;
      symbol = rw (field k h, made.hole k h, made.start_is) is_hole.1;
      parent = rw (field k h, made.hole k h) refl;
    }

    one_child : OneChildOf g ns 0 (nodes - 1 - k)
    one_child = record {
      place = k;
      inside = rw made.start_is h;
      named = field k h;
      alone = λ j i e. (
          let i' : j < length (g.children 0) = rw made.start_is at i in
          let f : child_field (at ns 0) j ≡ nodes - 1 - j = field j i' in
          let e' : nodes - 1 - j ≡ nodes - 1 - k = sym f ∙ e in
          omega arith
          );
    }

    hole_in_order : InOrder g ns (nodes - 1 - k)
    hole_in_order = record {
      production_exists = rw (made.hole k h) is_hole.0;
      start = (λ e. absurd (omega arith), rw (made.hole k h) (λ e. absurd (omega (arith, exists.0))));
      literal_accepted = rw (made.hole k h) (limits.zero_alone (child g 0 k) exists.1).0;
      children = λ j i. absurd (let i' : j < length (g.children (child g 0 k)) = rw (made.hole k h) at i in let z : length (g.children (child g 0 k)) ≡ 0 = ap length is_hole.2 in omega arith);
      no_further = λ j i l. rw (made.hole k h) (hole_fields (child g 0 k) 0 j l);
      hangs = below (λ e. absurd (omega arith)) (rw (made.hole k h) start_used) (rw (made.hole k h) one_child);
      climbs = (0, goes_on 0 hole_used (rw (made.hole k h) refl) (ends start_used (rw made.start_is refl) refl));
    }

  -- node 0
  start_in_order : InOrder g ns 0
  start_in_order = record {
    production_exists = rw made.start_is limits.start.0;
    start = (λ e. rw made.start_is refl, λ e. refl);
    literal_accepted = rw made.start_is (limits.zero_alone 0 (omega (arith, limits.some_symbol))).0;
    children = λ k h. child_fits k (rw made.start_is at h);
    no_further = λ k h i. no_field k (rw made.start_is at h) i;
    hangs = root refl (rw made.start_is refl);
    climbs = (0, ends start_used (rw made.start_is refl) refl);
  }

  good_used : (n : ℕ) → Used ns n → InOrder g ns n → Good g ns n
  good_used n u o = rw (u.1, Good) o

  good_free : (n : ℕ) → Blank (at ns n) → Good g ns n
  good_free n b = rw (b.free, Good) b

  good_made : (n : ℕ) → n < nodes → Good g ns n
  good_made zero h = good_used 0 start_used start_in_order
  good_made (suc n) h = elim (below_or_not (suc n + length (g.children 0)) nodes) [
    | inl l ↦ good_free (suc n) (free_is_blank (at ns (suc n)) (made.free (suc n) (omega arith) l))
    | inr l ↦
        let e : nodes - 1 - (nodes - 1 - suc n) ≡ suc n = omega arith in
        subst (λ (i : ℕ). Good g ns i) e (good_used (nodes - 1 - (nodes - 1 - suc n)) (hole_used (nodes - 1 - suc n) (omega arith)) (hole_in_order (nodes - 1 - suc n) (omega arith)))
  ]

  pub made_sheet : Sheet g ns
  made_sheet = record { root_used = start_used; each = λ n h. good_made n (omega (arith, made.many)) }

  -- what hangs at child place k of node 0
  hole_hangs : (k : ℕ) → k < 3 → Represents ns (child_field (at ns 0) k) (hole_at_place g 0 (highest nodes (length (g.children 0))) k)
  hole_hangs k h = elim (below_or_not k (length (g.children 0))) [
    | inl l ↦
        let at_k = hole_trees_at (highest nodes (length (g.children 0))) (g.children 0) k none g.symbols (omega (arith, length_highest nodes (length (g.children 0)))) l in
        let number : child_field (at ns 0) k ≡ nodes - 1 - k = field k l in
        let e : get_or (highest nodes (length (g.children 0))) k none ≡ nodes - 1 - k = highest_at nodes (length (g.children 0)) k l in
        let hole : Represents ns (nodes - 1 - k) (hole_tree (get_or (highest nodes (length (g.children 0))) k none) (child g 0 k)) = (
          e,
          hole_used k l,
          rw (made.hole k l) refl,
          rw (made.hole k l) refl,
          rw (made.hole k l) refl,
          rw (made.hole k l) refl,
          rw (made.hole k l) refl,
        ) in
        subst (λ (i : ℕ). Represents ns i (hole_at_place g 0 (highest nodes (length (g.children 0))) k)) (sym number)
        (subst (λ (t : Tree). Represents ns (nodes - 1 - k) t) (sym at_k) hole)
    | inr l ↦
        let past = hole_trees_past (highest nodes (length (g.children 0))) (g.children 0) k l in
        subst (λ (t : Tree). Represents ns (child_field (at ns 0) k) t) (sym past) (no_field k l h)
  ]

  pub made_tree : let new = highest nodes (length (g.children 0)) in Represents ns 0 (node 0 0 (pos 0) (hole_at_place g 0 new 0) (hole_at_place g 0 new 1) (hole_at_place g 0 new 2))
  made_tree = (refl, start_used, rw made.start_is refl, rw made.start_is refl, hole_hangs 0 (omega arith), hole_hangs 1 (omega arith), hole_hangs 2 (omega arith))

-- what make leaves, where its records were made in a table as long and its values blanked
pub make_work : {R M : Type 0} (g : Grammar) (text : ℕ → List Segment) → Limits g text → (meaning : R → M) (nothing : M) (before middle after : List Node) (values values' : List R) → length before ≤ 1000 → suc (length (g.children 0)) ≤ length before → length middle ≡ length before → Made g (length middle) after → BlankedFirst meaning nothing (4 * length after) values values' → MakeWork g meaning nothing before values after values'
make_work g text limits meaning nothing before middle after values values' few room as_long made blank =
    let made' : Made g (length before) after = subst (λ (n : ℕ). Made g n after) as_long made in
    record {
      records = made';
      blanked = subst (λ (n : ℕ). BlankedFirst meaning nothing (4 * n) values values') made'.many blank;
      sheet = made_sheet g text limits (length before) after made' few room;
      tree = made_tree g text limits (length before) after made' few room;
    }

-- a free node comes before the free nodes below it
step : (b : Bool) (n : ℕ) (xs : List ℕ) → b ≡ false → elim b [ true ↦ xs | false ↦ n ∷ xs ] ≡ n ∷ xs
step true n xs e = absurd (let z : ◌≡◌ {A = ℕ} 0 1 = cc in omega arith)
step false n xs e = refl

-- The highest numbers are the new nodes of a table in which node 0 is used and all others are free.
pub highest_are_new : (ns : List Node) → (at ns 0).used ≡ true → ((n : ℕ) → 0 < n → n < length ns → (at ns n).used ≡ false) → (k : ℕ) → k < length ns → highest (length ns) k ≡ new_nodes ns k
highest_are_new ns start free k h = go (length ns) k h (omega arith)
  where
    go : (n k : ℕ) → k < n → n ≤ length ns → highest n k ≡ take k (free_below ns n)
    go zero k h l = absurd (omega arith)
    go (suc n) zero h l = refl
    go (suc n) (suc k) h l =
        let e : suc n - 1 ≡ n = omega arith in
        let next : free_below ns (suc n) ≡ n ∷ free_below ns n = step (at ns n).used n (free_below ns n) (free n (omega arith) (omega arith)) in
        ap (λ i. i ∷ highest i k) e ∙ ap (λ xs. n ∷ xs) (go n k (omega arith) (omega arith)) ∙ ap (λ xs. take (suc k) xs) (sym next)
