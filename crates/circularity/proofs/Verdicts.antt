-- What the saturated sets of relations say: how many relations each symbol's trees have, and whether the language is circular.
use Rattle.std.proofs.Common.{◌≡◌, ℕ, zero, suc, ◌+◌, ◌<◌, ◌≤◌, Bool, true, false, T, List, map, length, get_or, take, sum_by, pos, sym, refl, ap, ◌∙◌, subst, add-one, arith}
use lib.Count.{ones}
use Rattle.std.proofs.lemmas.List.{get_or-map, length-map}
use Rattle.std.proofs.lemmas.List.Sums.{sum_by_more}
use Rattle.grammar.specs.Text.{Segment}
use Rattle.grammar.specs.Grammar.{Grammar}
use Rattle.grammar.specs.Limits.{Limits}
use Rattle.grammar.specs.Tree.{RootedBy, Tree, none, node, TreeOf}
use Rattle.grammar.specs.Dependence.{Instance, WaitsAtRoot, Waits}
use Rattle.grammar.specs.Circularity.{Circular, Culprit, Relations, RelationCount, sum_below}
use Rattle.circularity.specs.Bits.{has}
use Rattle.circularity.specs.Working.{found_by, counted}
use Rattle.circularity.proofs.Bits.{has_below}
use Rattle.circularity.proofs.Cycles.{circular_has_culprit}
use Rattle.circularity.proofs.Gathering.{cycle_seen, found_has, has_found}
use Rattle.circularity.proofs.Local.{Star}
use Rattle.circularity.proofs.Members.{members, members_count, members_has, members_rise, members_all}
use Rattle.circularity.proofs.Outcomes.{Code, code_unique, same_code, cyclic_has_own_cycle, own_cycle_is_cyclic}
use Rattle.circularity.proofs.Saturation.{Sound, Closed, complete, coded, realise}

-- ---- how many relations

-- a tree that is there where the test passes, and nothing where it does not
where_passed : (b : Bool) → (T b → Tree) → Tree
where_passed true f = f tt
where_passed false f = none

passed_is : (P : Tree → Type 0) (b : Bool) (f : T b → Tree) → ((h : T b) → P (f h)) → T b → P (where_passed b f)
unfolding where_passed
passed_is P true f each h = each tt
passed_is P false f each h = elim h [ ]

-- a list that has each relation in a set once has a tree for each
module _ (g : Grammar) (s c : ℕ) (realised : (r : ℕ) → T (has c r) → (t : Tree) × TreeOf g s t × Code g s t r)
    (complete_at : (t : Tree) → TreeOf g s t → (r : ℕ) × T (has c r) × Code g s t r)
    (rs : List ℕ) (in_set : (k : ℕ) → k < length rs → T (has c (get_or rs k 0))) (rise : (j k : ℕ) → j < k → k < length rs → get_or rs j 0 < get_or rs k 0)
    (all : (r : ℕ) → T (has c r) → (k : ℕ) × (k < length rs) × (get_or rs k 0 ≡ r)) where
  tree_with : ℕ → Tree
  tree_with r = where_passed (has c r) (λ h. (realised r h).0)

  listed : (k : ℕ) → k < length rs → TreeOf g s (get_or (map tree_with rs) k none) × Code g s (get_or (map tree_with rs) k none) (get_or rs k 0)
  unfolding tree_with
  listed k l =
      subst (λ (t : Tree). TreeOf g s t × Code g s t (get_or rs k 0)) (sym (get_or-map tree_with rs k 0 none l))
      (passed_is (λ t. TreeOf g s t × Code g s t (get_or rs k 0)) (has c (get_or rs k 0)) (λ h. (realised (get_or rs k 0) h).0)
      (λ h. ((realised (get_or rs k 0) h).1, (realised (get_or rs k 0) h).2)) (in_set k l))

  relations_listed : Relations g s (length rs)
  relations_listed = record {
    trees = map tree_with rs;
    many = length-map rs tree_with;
    of_symbol = λ k l. (listed k l).0;
    different = λ j k l h same.
        (let e : get_or rs j 0 ≡ get_or rs k 0 =
        code_unique g s (get_or (map tree_with rs) j none) (get_or (map tree_with rs) k none) (get_or rs j 0) (get_or rs k 0)
        (listed j (omega arith)).1 (listed k h).1 same in
        omega (arith, rise j k l h));
    every = λ t h.
        (let (r, there, code) = complete_at t h in
        let (k, l, e) = all r there in (
          k,
          l,
          same_code g s t (get_or (map tree_with rs) k none) (get_or rs k 0) (subst (Code g s t) (sym e) code) (listed k l).1,
        ));
  }

-- a sum over the first n sets, set by set
counted_is : (f : ℕ → ℕ) (masks : List ℕ) (n : ℕ) → n ≤ length masks → sum_by f (take n masks) ≡ sum_below (λ s. f (get_or masks s 0)) n
counted_is f masks zero inside = refl
counted_is f masks (suc n) inside =
    rw (← add-one n) (sum_by_more f masks n 0 inside ∙ ap (λ m. m + f (get_or masks n 0)) (counted_is f masks n (omega arith)))

module _ (g : Grammar) (text : ℕ → List Segment) (lim : Limits g text) (masks : List ℕ) (sound : Sound g masks) where
  module _ (closed : Closed g masks) where
    pub relations_counted : (s : ℕ) → s < g.symbols → Relations g s (ones (get_or masks s 0))
    relations_counted s exists =
        let c = get_or masks s 0 in
        subst (Relations g s) (members_count 16 c (sound.below s))
        (relations_listed g s c (λ r t. sound.realised s r exists t)
        (λ t h. (let (r, there, code, small) = complete g text lim masks closed s t exists h in (r, there, code)))
        (members 16 c) (λ k l. (members_has 16 c k l).0) (λ j k l h. members_rise 16 c j k l h)
        (λ r t. members_all 16 c r (has_below 16 c r (sound.below s) t) t))

    -- the number of relations of all symbols
    pub relation_count : (n : ℕ) → n ≡ counted masks g.symbols → RelationCount g n
    relation_count n e =
        let inside : g.symbols ≤ length masks = omega (arith, lim.few_symbols, sound.count) in
        record { of = λ s. ones (get_or masks s 0); relations = relations_counted; total_is = e ∙ counted_is ones masks g.symbols inside }

    -- ---- circular or not

    -- a tree with a cycle through one of its root's own rules shows the cycle in what the root's production finds
    own_cycle_found : (p s : ℕ) (t : Tree) → TreeOf g s t → RootedBy t p → (x y : Instance) → WaitsAtRoot g t x y → Star (Waits g t) y x
        → (p < g.productions) × T (found_by g p masks).cyclic
    own_cycle_found p s none h rooted x y w back = absurd w
    own_cycle_found p s (node n q l a b d) h rooted x y w back =
        let known = coded g text lim masks closed s n q l a b d h in
        subst (λ r. (r < g.productions) × T (found_by g r masks).cyclic) rooted (
          h.0,
          has_found (λ o. T o.cyclic) cycle_seen g q masks known.chosen_ones known.fits
              (own_cycle_is_cyclic g text lim q h.0 known.chosen_ones s n l a b d h known.codes x y w back),
        )

    pub culprit_found : (p : ℕ) → Culprit g p → (p < g.productions) × T (found_by g p masks).cyclic
    culprit_found p c = own_cycle_found p c.symbol c.tree c.is_tree c.rooted c.from c.to c.own_rule c.back

    pub not_circular : ((p : ℕ) → p < g.productions → T (found_by g p masks).cyclic → ⊥) → Circular g → ⊥
    not_circular no-cycle circular =
        let (p, exists, c) = circular_has_culprit g text lim circular in
        no-cycle p exists (culprit_found p c).1

  pub culprit : (p : ℕ) → p < g.productions → T (found_by g p masks).cyclic → Culprit g p
  culprit p exists t =
      let (c, fits, seen) = found_has (λ o. T o.cyclic) cycle_seen g p masks t in
      let tree = realise g text lim masks sound p exists c fits in
      let (x, y, w, back) = cyclic_has_own_cycle g text lim p exists c (g.symbol p) 0 (pos 0) tree.first tree.second tree.third tree.is_tree tree.codes seen in
      record {
        symbol = g.symbol p;
        tree = node 0 p (pos 0) tree.first tree.second tree.third;
        symbol_exists = (lim.each p exists).symbol_exists;
        is_tree = tree.is_tree;
        rooted = refl;
        from = x;
        to = y;
        own_rule = w;
        back = back;
      }
