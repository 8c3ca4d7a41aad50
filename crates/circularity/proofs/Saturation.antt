-- The sets of relations found so far, symbol by symbol: each relation in them is some tree's, growing keeps that,
-- growing ends, and where it ends every tree's relation is in them.
use Rattle.std.proofs.Common.{◌≡◌, ℕ, zero, suc, ◌+◌, ◌*◌, ◌^◌, ◌<◌, ◌≤◌, T, ltb, ◌⊎◌, List, length, get_or, set, replicate, ℤ, pos, sum, sym, refl, ap, ◌∙◌, subst, inl, inr, arith, pow_pos}
use lib.Bits.{bit_or, or_lt}
use Rattle.std.proofs.lemmas.Nat.{one_shl}
use Rattle.std.proofs.ByRecursion.{All-from_get_or, sum_by_le}
use Rattle.std.proofs.lemmas.List.{length-set, length-replicate, get_or-replicate, get_or-set_same, get_or-set_other, get_or_past, set-get_or}
use Rattle.std.proofs.lemmas.List.Sums.{sum_by-set}
use Rattle.std.proofs.lemmas.Bool.{cases_lt, cases_eq, cond-true, cond-false, lt-ltb, le-ltb}
use Rattle.grammar.specs.Text.{Segment}
use Rattle.grammar.specs.Grammar.{Grammar, child}
use Rattle.grammar.specs.Limits.{Limits}
use Rattle.grammar.specs.Tree.{Tree, none, node, hanging, TreeOf}
use Rattle.circularity.specs.Bits.{has}
use Rattle.circularity.specs.Working.{chosen, outcome_of, choices_at, choice, found_by, grown}
use Rattle.circularity.proofs.Bits.{T_false, has_zero, or_has, or_grows, or_same_means_below, power_has, has_power_only}
use Rattle.circularity.proofs.Closure.{Rows}
use Rattle.circularity.proofs.Gathering.{Fits, fits_from, relation_seen, found_has, has_found, found_below}
use Rattle.circularity.proofs.Outcomes.{Code, relation_of, relation_small, outcome_code}

-- Every relation in the sets is that of a tree.
pub record Sound (g : Grammar) (masks : List ℕ) : Type 0 where
  pub count : length masks ≡ 16
  pub below : (s : ℕ) → get_or masks s 0 < 2 ^ 16
  pub realised : (s r : ℕ) → s < g.symbols → T (has (get_or masks s 0) r) → (t : Tree) × TreeOf g s t × Code g s t r

-- No production finds a relation that is not in the sets.
pub record Closed (g : Grammar) (masks : List ℕ) : Type 0 where
  pub closed : (p r : ℕ) → p < g.productions → T (has (found_by g p masks).relations r) → T (has (get_or masks (g.symbol p) 0) r)

pub sound_rows : (g : Grammar) (masks : List ℕ) → Sound g masks → Rows masks
sound_rows g masks s = record { count = s.count; below = s.below }

-- ---- a set of a list of sets takes in the bits of b

abbrev put : List ℕ → ℕ → ℕ → List ℕ
put xs i b = set xs i (bit_or (get_or xs i 0) b)

module _ (xs : List ℕ) (i b : ℕ) (inside : i < length xs) where
  put_here : get_or (put xs i b) i 0 ≡ bit_or (get_or xs i 0) b
  put_here = get_or-set_same xs i (bit_or (get_or xs i 0) b) 0 inside

  put_elsewhere : (j : ℕ) → (j ≡ i → ⊥) → get_or (put xs i b) j 0 ≡ get_or xs j 0
  put_elsewhere j other = get_or-set_other xs i j (bit_or (get_or xs i 0) b) 0 other

  put_has : (j r : ℕ) → T (has (get_or (put xs i b) j 0) r) → T (has (get_or xs j 0) r) ⊎ ((i ≡ j) × T (has b r))
  put_has j r t =
      elim (cases_eq j i) [
        | inl e ↦
            elim (or_has (get_or xs i 0) b r (subst (λ (x : ℕ). T (has x r)) (ap (λ (k : ℕ). get_or (put xs i b) k 0) e ∙ put_here) t)) [
              | inl u ↦ inl (subst (λ (k : ℕ). T (has (get_or xs k 0) r)) (sym e) u)
              | inr u ↦ inr (sym e, u)
            ]
        | inr other ↦ inl (subst (λ (x : ℕ). T (has x r)) (put_elsewhere j other) t)
      ]

  put_below : ((j : ℕ) → get_or xs j 0 < 2 ^ 16) → b < 2 ^ 16 → (j : ℕ) → get_or (put xs i b) j 0 < 2 ^ 16
  put_below small new j =
      elim (cases_eq j i) [
        | inl e ↦ subst (λ (x : ℕ). x < 2 ^ 16) (sym (ap (λ (k : ℕ). get_or (put xs i b) k 0) e ∙ put_here)) (or_lt 16 (get_or xs i 0) b (small i) new)
        | inr other ↦ subst (λ (x : ℕ). x < 2 ^ 16) (sym (put_elsewhere j other)) (small j)
      ]

  put_sum : sum (put xs i b) + get_or xs i 0 ≡ sum xs + bit_or (get_or xs i 0) b
  put_sum = sum_by-set (λ x. x) xs i (bit_or (get_or xs i 0) b) 0 inside

  put_more : sum xs ≤ sum (put xs i b)
  put_more = omega (arith, put_sum, or_grows (get_or xs i 0) b)

  put_same : sum (put xs i b) ≤ sum xs → bit_or (get_or xs i 0) b ≡ get_or xs i 0
  put_same h = omega (arith, put_sum, or_grows (get_or xs i 0) b)

put_nothing : (xs : List ℕ) (i b : ℕ) → bit_or (get_or xs i 0) b ≡ get_or xs i 0 → put xs i b ≡ xs
put_nothing xs i b e = ap (set xs i) e ∙ set-get_or xs i 0

-- ---- growing, step by step

le_through : (x y z : ℕ) → x ≤ y → y ≤ z → x ≤ z
le_through x y z a b = omega arith

module _ (g : Grammar) (text : ℕ → List Segment) (lim : Limits g text) where
  symbol_inside : (masks : List ℕ) → length masks ≡ 16 → (p : ℕ) → p < g.productions → g.symbol p < length masks
  symbol_inside masks count p exists = omega (arith, (lim.each p exists).symbol_exists, lim.few_symbols)

  -- what production p makes of the sets
  step_rows : (masks : List ℕ) → Rows masks → (p : ℕ) → p < g.productions → Rows (put masks (g.symbol p) (found_by g p masks).relations)
  step_rows masks rows p exists = record {
    count = length-set masks (g.symbol p) _ ∙ rows.count;
    below = put_below masks (g.symbol p) (found_by g p masks).relations (symbol_inside masks rows.count p exists) rows.below (found_below g p masks);
  }

  pub grown_rows : (masks : List ℕ) → Rows masks → (n : ℕ) → n ≤ g.productions → Rows (grown g n masks)
  grown_rows masks rows zero fits = rows
  grown_rows masks rows (suc n) fits = step_rows (grown g n masks) (grown_rows masks rows n (omega arith)) n (omega arith)

  pub grown_length : (masks : List ℕ) → Rows masks → (n : ℕ) → n ≤ g.productions → length (grown g n masks) ≡ 16
  grown_length masks rows n fits = (grown_rows masks rows n fits).count

  -- the sum of the sets never falls
  pub grown_more : (masks : List ℕ) → Rows masks → (n : ℕ) → n ≤ g.productions → sum masks ≤ sum (grown g n masks)
  grown_more masks rows zero fits = omega arith
  grown_more masks rows (suc n) fits = rises (grown g n masks) (grown_length masks rows n (omega arith)) (grown_more masks rows n (omega arith))
    where
      rises : (before : List ℕ) → length before ≡ 16 → sum masks ≤ sum before → sum masks ≤ sum (put before (g.symbol n) (found_by g n before).relations)
      rises before count h =
          le_through (sum masks) (sum before) (sum (put before (g.symbol n) (found_by g n before).relations)) h
          (put_more before (g.symbol n) (found_by g n before).relations (symbol_inside before count n (omega arith)))

-- ---- where the sum stays as it was, nothing was new

-- production p finds nothing new
abbrev pub ClosedAt : Grammar → List ℕ → ℕ → Type 0
ClosedAt g masks p = (r : ℕ) → T (has (found_by g p masks).relations r) → T (has (get_or masks (g.symbol p) 0) r)

-- what holds below n and at n holds below the next
one_further : (P : ℕ → Type 0) (n : ℕ) → ((p : ℕ) → p < n → P p) → P n → (p : ℕ) → p < suc n → P p
one_further P n before here p l = elim (cases_lt p n) [ inl b ↦ before p b | inr a ↦ (let e : n ≡ p = omega arith in subst P e here) ]

module _ (g : Grammar) (text : ℕ → List Segment) (lim : Limits g text) (masks : List ℕ) (rows : Rows masks) where
  still : (n : ℕ) → n ≤ g.productions → sum (grown g n masks) ≤ sum masks → (grown g n masks ≡ masks) × ((p : ℕ) → p < n → ClosedAt g masks p)
  still zero fits low = (refl, λ p l. absurd (omega arith))
  still (suc n) fits low = step (grown g n masks) (grown_length g text lim masks rows n (omega arith)) (grown_more g text lim masks rows n (omega arith)) low (still n (omega arith))
    where
      step : (before : List ℕ) → length before ≡ 16 → sum masks ≤ sum before → sum (put before (g.symbol n) (found_by g n before).relations) ≤ sum masks
          → (sum before ≤ sum masks → (before ≡ masks) × ((p : ℕ) → p < n → ClosedAt g masks p))
          → (put before (g.symbol n) (found_by g n before).relations ≡ masks) × ((p : ℕ) → p < suc n → ClosedAt g masks p)
      step before count more less earlier =
          let i = g.symbol n in
          let b = (found_by g n before).relations in
          let inside = symbol_inside g text lim before count n (omega arith) in
          let was = earlier (le_through (sum before) (sum (put before i b)) (sum masks) (put_more before i b inside) less) in
          let same = put_same before i b inside (le_through (sum (put before i b)) (sum masks) (sum before) less more) in (
            put_nothing before i b same ∙ was.0,
            one_further (ClosedAt g masks) n was.1
                (subst (λ (m : List ℕ). ClosedAt g m n) was.0 (λ r t. or_same_means_below (get_or before i 0) b same r t)),
          )

  pub unchanged : sum (grown g g.productions masks) ≡ sum masks → grown g g.productions masks ≡ masks
  unchanged e = (still g.productions (omega arith) (subst (λ (x : ℕ). x ≤ sum masks) (sym e) (omega arith))).0

  pub settled : sum (grown g g.productions masks) ≡ sum masks → Closed g masks
  settled e =
      let closed = (still g.productions (omega arith) (subst (λ (x : ℕ). x ≤ sum masks) (sym e) (omega arith))).1 in
      record { closed = λ p r l t. closed p l r t }

pub sum_bound : (masks : List ℕ) → length masks ≡ 16 → ((s : ℕ) → get_or masks s 0 < 2 ^ 16) → sum masks ≤ 1048560
sum_bound masks count below =
    let h = sum_by_le (λ x. x) 65535 masks (All-from_get_or (λ x. x ≤ 65535) masks 0 (λ i l. omega (arith, below i))) in
    omega (arith, ap (λ (x : ℕ). x * 65535) count)

-- ---- every relation in the sets is that of a tree

-- a tree whose root is production p, and whose children have the chosen relations
pub record Realised (g : Grammar) (p : ℕ) (c : List ℕ) : Type 0 where
  pub first : Tree
  pub second : Tree
  pub third : Tree
  pub is_tree : TreeOf g (g.symbol p) (node 0 p (pos 0) first second third)
  pub codes : (k : ℕ) → k < length (g.children p) → Code g (child g p k) (hanging (node 0 p (pos 0) first second third) k) (chosen c k)

-- a tree at child place k with relation r, or nothing where there is no child
abbrev pub Hung : Grammar → ℕ → ℕ → ℕ → Type 0
Hung g p k r = (t : Tree) × TreeOf g (child g p k) t × (k < length (g.children p) → Code g (child g p k) t r)

pub choices_of_child : (g : Grammar) (p : ℕ) (masks : List ℕ) (k : ℕ) → k < length (g.children p) → choices_at g p masks k ≡ get_or masks (child g p k) 0
choices_of_child g p masks k h = cond-true (ltb k (length (g.children p))) (get_or masks (child g p k) 0) 1 (lt-ltb k (length (g.children p)) h)

pub choices_of_none : (g : Grammar) (p : ℕ) (masks : List ℕ) (k : ℕ) → length (g.children p) ≤ k → choices_at g p masks k ≡ 1
choices_of_none g p masks k h = cond-false (ltb k (length (g.children p))) (get_or masks (child g p k) 0) 1 (le-ltb k (length (g.children p)) h)

module _ (g : Grammar) (text : ℕ → List Segment) (lim : Limits g text) where
  -- what is asked at the children's places is asked at the first three alone
  places : (p : ℕ) → p < g.productions → (C : ℕ → Type 0) → (0 < length (g.children p) → C 0) → (1 < length (g.children p) → C 1) → (2 < length (g.children p) → C 2)
      → (k : ℕ) → k < length (g.children p) → C k
  places p exists C c₀ c₁ c₂ zero h = c₀ h
  places p exists C c₀ c₁ c₂ (suc zero) h = c₁ h
  places p exists C c₀ c₁ c₂ (suc (suc zero)) h = c₂ h
  places p exists C c₀ c₁ c₂ (suc (suc (suc k))) h = absurd (omega (arith, (lim.each p exists).few_children))

  hang : (masks : List ℕ) → Sound g masks → (p : ℕ) → p < g.productions → (k r : ℕ) → T (has (choices_at g p masks k) r) → Hung g p k r
  hang masks sound p exists k r t =
      elim (cases_lt k (length (g.children p))) [
        | inl h ↦
            (let found = sound.realised (child g p k) r ((lim.each p exists).child_exists k h).1 (subst (λ (x : ℕ). T (has x r)) (choices_of_child g p masks k h) t) in
            (found.0, found.1, λ _. found.2))
        | inr h ↦ (none, get_or_past (g.children p) k g.symbols h, λ l. absurd (omega arith))
      ]

  pub realise : (masks : List ℕ) → Sound g masks → (p : ℕ) → p < g.productions → (c : List ℕ) → Fits g p masks c → Realised g p c
  realise masks sound p exists c fits =
      let at : (k : ℕ) → k < 3 → Hung g p k (chosen c k) = λ k l. hang masks sound p exists k (chosen c k) (fits.among k l) in
      let a = at 0 (omega arith) in
      let b = at 1 (omega arith) in
      let d = at 2 (omega arith) in
      record {
        first = a.0;
        second = b.0;
        third = d.0;
        is_tree = (exists, refl, a.1, b.1, d.1);
        codes = places p exists (λ k. Code g (child g p k) (hanging (node 0 p (pos 0) a.0 b.0 d.0) k) (chosen c k)) a.2 b.2 d.2;
      }

  -- an outcome has one relation
  relation_only : (p : ℕ) → p < g.productions → (c : List ℕ) (r : ℕ) → T (has (outcome_of g p c).relations r) → relation_of g p c ≡ r
  relation_only p exists c r t = has_power_only (relation_of g p c) r (subst (λ (x : ℕ). T (has x r)) (one_shl (relation_of g p c) 16 (relation_small g text lim p exists c)) t)

  relation_there : (p : ℕ) → p < g.productions → (c : List ℕ) → T (has (outcome_of g p c).relations (relation_of g p c))
  relation_there p exists c =
      subst (λ (x : ℕ). T (has x (relation_of g p c))) (sym (one_shl (relation_of g p c) 16 (relation_small g text lim p exists c))) (power_has (relation_of g p c))

  -- a relation that production p finds is that of a tree
  found_realised : (masks : List ℕ) → Sound g masks → (p : ℕ) → p < g.productions → (r : ℕ) → T (has (found_by g p masks).relations r)
      → (t : Tree) × TreeOf g (g.symbol p) t × Code g (g.symbol p) t r
  found_realised masks sound p exists r t =
      let (c, fits, seen) = found_has (λ x. T (has x.relations r)) (relation_seen r) g p masks t in
      let tree = realise masks sound p exists c fits in (
        node 0 p (pos 0) tree.first tree.second tree.third,
        tree.is_tree,
        subst (Code g (g.symbol p) (node 0 p (pos 0) tree.first tree.second tree.third)) (relation_only p exists c r seen)
            (outcome_code g text lim p exists c (g.symbol p) 0 (pos 0) tree.first tree.second tree.third tree.is_tree tree.codes),
      )

  step_sound : (masks : List ℕ) → Sound g masks → (p : ℕ) → p < g.productions → Sound g (put masks (g.symbol p) (found_by g p masks).relations)
  step_sound masks sound p exists =
      let rows = step_rows g text lim masks (sound_rows g masks sound) p exists in
      record {
        count = rows.count;
        below = rows.below;
        realised = λ s r l t.
            elim (put_has masks (g.symbol p) (found_by g p masks).relations (symbol_inside g text lim masks sound.count p exists) s r t) [
              | inl old ↦ sound.realised s r l old
              | inr new ↦ subst (λ (q : ℕ). (t : Tree) × TreeOf g q t × Code g q t r) new.0 (found_realised masks sound p exists r new.1)
            ];
      }

  pub grown_sound : (masks : List ℕ) → Sound g masks → (n : ℕ) → n ≤ g.productions → Sound g (grown g n masks)
  grown_sound masks sound zero fits = sound
  grown_sound masks sound (suc n) fits = step_sound (grown g n masks) (grown_sound masks sound n (omega arith)) n (omega arith)

  -- no relation is found at first
  pub empty_sound : Sound g (replicate 16 0)
  empty_sound = record {
    count = length-replicate {A = ℕ} 16 0;
    below = λ s. subst (λ (x : ℕ). x < 2 ^ 16) (sym (all_zero s)) (pow_pos 16);
    realised = λ s r l t. absurd (T_false (has 0 r) (has_zero r) (subst (λ (x : ℕ). T (has x r)) (all_zero s) t));
  }
    where
      all_zero : (s : ℕ) → get_or {A = ℕ} (replicate 16 0) s 0 ≡ 0
      all_zero s =
          elim (cases_lt s 16) [
            | inl l ↦ get_or-replicate {A = ℕ} 16 s 0 0 l
            | inr le ↦ get_or_past (replicate {A = ℕ} 16 0) s 0 (omega (arith, length-replicate {A = ℕ} 16 0))
          ]

-- ---- where nothing is new, every tree's relation is in the sets

-- tree t of symbol s has a relation that is in the sets
abbrev pub Known : Grammar → List ℕ → ℕ → Tree → Type 0
Known g masks s t = (r : ℕ) × T (has (get_or masks s 0) r) × Code g s t r × (r < 16)

-- a choice of relations in the sets, each that of the tree at its child place
pub record Coded (g : Grammar) (masks : List ℕ) (p : ℕ) (t : Tree) : Type 0 where
  pub chosen_ones : List ℕ
  pub fits : Fits g p masks chosen_ones
  pub codes : (k : ℕ) → k < length (g.children p) → Code g (child g p k) (hanging t k) (chosen chosen_ones k)

-- a relation to choose at child place k for tree t, and 0 where there is no child
abbrev pub ToChoose : Grammar → List ℕ → ℕ → ℕ → Tree → Type 0
ToChoose g masks p k t = (r : ℕ) × ((r < 16) × T (has (choices_at g p masks k) r)) × (k < length (g.children p) → Code g (child g p k) t r)

module _ (g : Grammar) (text : ℕ → List Segment) (lim : Limits g text) (masks : List ℕ) where
  to_choose : (p k : ℕ) (t : Tree) → (k < length (g.children p) → Known g masks (child g p k) t) → ToChoose g masks p k t
  to_choose p k t known =
      elim (cases_lt k (length (g.children p))) [
        | inl h ↦
            (let (r, there, code, small) = known h in
            (r, (small, subst (λ (x : ℕ). T (has x r)) (sym (choices_of_child g p masks k h)) there), λ _. code))
        | inr h ↦ (0, (omega arith, subst (λ (x : ℕ). T (has x 0)) (sym (choices_of_none g p masks k h)) tt), λ l. absurd (omega arith))
      ]

  coded_by : (n p : ℕ) (l : ℤ) (a b d : Tree) → p < g.productions → ToChoose g masks p 0 a → ToChoose g masks p 1 b → ToChoose g masks p 2 d
      → Coded g masks p (node n p l a b d)
  coded_by n p l a b d exists x y z = record {
    chosen_ones = choice x.0 y.0 z.0;
    fits = fits_from g p masks x.0 y.0 z.0 x.1 y.1 z.1;
    codes = places g text lim p exists (λ k. Code g (child g p k) (hanging (node n p l a b d) k) (chosen (choice x.0 y.0 z.0) k)) x.2 y.2 z.2;
  }

  -- the relations of the trees at the children's places, each known where there is a child
  coded_from : (s n p : ℕ) (l : ℤ) (a b d : Tree) → TreeOf g s (node n p l a b d)
      → (child g p 0 < g.symbols → Known g masks (child g p 0) a) → (child g p 1 < g.symbols → Known g masks (child g p 1) b)
      → (child g p 2 < g.symbols → Known g masks (child g p 2) d) → Coded g masks p (node n p l a b d)
  coded_from s n p l a b d h x y z =
      let exists : (k : ℕ) → k < length (g.children p) → child g p k < g.symbols = λ k i. ((lim.each p h.0).child_exists k i).1 in
      coded_by n p l a b d h.0 (to_choose p 0 a (λ i. x (exists 0 i))) (to_choose p 1 b (λ i. y (exists 1 i))) (to_choose p 2 d (λ i. z (exists 2 i)))

  module _ (closed : Closed g masks) where
    -- the relation of a tree that is put together from trees with known relations
    known_by : (s n p : ℕ) (l : ℤ) (a b d : Tree) → TreeOf g s (node n p l a b d) → Coded g masks p (node n p l a b d) → Known g masks s (node n p l a b d)
    known_by s n p l a b d h q =
        let c = q.chosen_ones in
        let r = relation_of g p c in
        let found = has_found (λ x. T (has x.relations r)) (relation_seen r) g p masks c q.fits (relation_there g text lim p h.0 c) in (
          r,
          subst (λ (i : ℕ). T (has (get_or masks i 0) r)) h.1 (closed.closed p r h.0 found),
          subst (λ (i : ℕ). Code g i (node n p l a b d) r) h.1 (outcome_code g text lim p h.0 c s n l a b d h q.codes),
          relation_small g text lim p h.0 c,
        )

    pub complete : (s : ℕ) (t : Tree) → s < g.symbols → TreeOf g s t → Known g masks s t
    complete s none exists h = absurd (omega arith)
    complete s (node n p l a b d) exists h =
        known_by s n p l a b d h
        (coded_from s n p l a b d h
        (λ e. complete (child g p 0) a e h.2) (λ e. complete (child g p 1) b e h.3) (λ e. complete (child g p 2) d e h.4))

    pub coded : (s n p : ℕ) (l : ℤ) (a b d : Tree) → TreeOf g s (node n p l a b d) → Coded g masks p (node n p l a b d)
    coded s n p l a b d h =
        coded_from s n p l a b d h
        (λ e. complete (child g p 0) a e h.2) (λ e. complete (child g p 1) b e h.3) (λ e. complete (child g p 2) d e h.4)
