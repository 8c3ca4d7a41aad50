-- What the outcome of a choice of relations says of a tree: where the chosen relations are those of the trees at the children's places,
-- the outcome's relation is the whole tree's, and there is a cycle exactly where the tree has one through one of the root's own rules.
use Rattle.std.proofs.Common.{◌≡◌, ℕ, ◌+◌, ◌-◌, ◌*◌, ◌/◌, ◌%◌, ◌^◌, ◌<◌, ◌≤◌, Bool, T, List, [], length, get_or, ℤ, sym, refl, ap, ◌∙◌, subst, ap₂, inl, inr, mod-lt, arith, pow_pos}
use Rattle.std.specs.List.{enumerate_from}
use Rattle.std.proofs.lemmas.List.{get_or_default}
use Rattle.std.proofs.lemmas.List.Folds.{Any-from_list_any, list_any_at}
use Rattle.std.proofs.lemmas.List.FromFn.{length-enumerate_from, get_or-enumerate_from}
use Rattle.grammar.specs.Text.{Segment}
use Rattle.grammar.specs.Grammar.{Grammar, attributes, child}
use Rattle.grammar.specs.Limits.{Limits}
use Rattle.grammar.specs.Tree.{Tree, node, hanging, TreeOf}
use Rattle.grammar.specs.Dependence.{Instance, instance, at_root, WaitsAtRoot, Waits, Over}
use Rattle.grammar.specs.Circularity.{Related, SameRelation}
use Rattle.circularity.specs.Bits.{has, closed_below, field}
use Rattle.circularity.specs.Working.{chosen, rows_of, has_cycle, relation_in, outcome_of}
use Rattle.circularity.proofs.Small.{relation_inside, relation_below, own_attributes}
use Rattle.circularity.proofs.Bits.{T_true, true_T, T_along, T_back, bits_same, has_mod}
use Rattle.circularity.proofs.Fields.{field_below, field_pack, fields_same, few_pairs}
use Rattle.circularity.proofs.Closure.{Rows, Edge, edge_from, closed_rows, closure_sound, closure_complete}
use Rattle.circularity.proofs.Local.{LocalStep, Exact, Star, first_step}
use Rattle.circularity.proofs.TreePaths.{local_to_tree, tree_to_local, own_cycle_to_local, local_cycle_to_own}
use Rattle.circularity.proofs.Edges.{place, Chosen, rows_are, step_to_edge, edges_to_steps, steps_to_edges}

-- The tree, of symbol s, has the relation with number r: field j of r is the set of the inherited attributes on which its synthesized attribute j depends.
pub record Code (g : Grammar) (s : ℕ) (t : Tree) (r : ℕ) : Type 0 where
  pub below : r < 2 ^ (g.inherited s * g.synthesized s)
  pub sound : (i j : ℕ) → i < g.inherited s → j < g.synthesized s → T (has (field (g.inherited s) r j) i) → Related g t i (g.inherited s + j)
  pub complete : (i j : ℕ) → i < g.inherited s → j < g.synthesized s → Related g t i (g.inherited s + j) → T (has (field (g.inherited s) r j) i)

-- an attribute past the inherited ones by its number among the synthesized ones
module _ (g : Grammar) (s : ℕ) (t : Tree) (i a : ℕ) (above : g.inherited s ≤ a) where
  attribute_is : g.inherited s + (a - g.inherited s) ≡ a
  attribute_is = omega arith

  by_number : Related g t i a → Related g t i (g.inherited s + (a - g.inherited s))
  by_number r = subst (λ (b : ℕ). Related g t i b) (sym attribute_is) r

  by_attribute : Related g t i (g.inherited s + (a - g.inherited s)) → Related g t i a
  by_attribute r = subst (λ (b : ℕ). Related g t i b) attribute_is r

-- ---- trees with the same relation have the same number, and the other way round

module _ (g : Grammar) (s : ℕ) (t u : Tree) where
  pub code_unique : (r q : ℕ) → Code g s t r → Code g s u q → SameRelation g s t u → r ≡ q
  code_unique r q cr cq same =
      let h = g.inherited s in
      fields_same h (g.synthesized s) r q cr.below cq.below (λ j l.
      bits_same h (field h r j) (field h q j) (field_below h r j) (field_below h q j) (λ i k.
      let both = same i (h + j) k (omega arith) (omega arith) in
      ((λ x. cq.complete i j k l (both.0 (cr.sound i j k l x))), (λ x. cr.complete i j k l (both.1 (cq.sound i j k l x))))))

  pub same_code : (r : ℕ) → Code g s t r → Code g s u r → SameRelation g s t u
  same_code r ct cu i a inherited above exists =
      let j = a - g.inherited s in
      let l : j < g.synthesized s = omega arith in (
        (λ x. by_attribute g s u i a above (cu.sound i j inherited l (ct.complete i j inherited l (by_number g s t i a above x)))),
        (λ x. by_attribute g s t i a above (ct.sound i j inherited l (cu.complete i j inherited l (by_number g s u i a above x)))),
      )

-- ---- the relation of a closed graph

abbrev pub relation_of : Grammar → ℕ → List ℕ → ℕ
relation_of g p c = relation_in (closed_below 16 (rows_of g p c)) (g.inherited (g.symbol p)) (g.synthesized (g.symbol p))

low_small : (h : ℕ) (rows : List ℕ) (j : ℕ) → get_or rows (h + j) 0 % 2 ^ h < 2 ^ h
low_small h rows j = mod-lt (get_or rows (h + j) 0) (pow_pos h)

module _ (h s : ℕ) (few : h + s ≤ 4) (rows : List ℕ) where
  room : h * s ≤ 16
  room = omega (arith, few_pairs h s few)

  pub relation_within : relation_in rows h s < 2 ^ (h * s)
  relation_within = relation_inside rows h s few

  -- the relation has a pair exactly where the graph has the edge
  pub relation_has : (i j : ℕ) → i < h → j < s → has (field h (relation_in rows h s) j) i ≡ has (get_or rows (h + j) 0) i
  relation_has i j k l =
      ap (λ (x : ℕ). has x i) (field_pack h s (λ n. get_or rows (h + n) 0 % 2 ^ h) (low_small h rows) room j l)
      ∙ has_mod (get_or rows (h + j) 0) h i k

-- ---- cycles of a closed graph

-- a vertex and its row show a cycle
abbrev own_edge : ℕ × ℕ → Bool
own_edge vertex_row = has vertex_row.1 vertex_row.0

own_edge_at : (rows : List ℕ) (v : ℕ) (d : ℕ × ℕ) → v < length rows → own_edge (get_or (enumerate_from 0 rows) v d) ≡ has (get_or rows v 0) v
own_edge_at rows v d inside = ap own_edge (get_or-enumerate_from 0 rows v d inside) ∙ ap₂ has (get_or_default rows v d.1 0 inside) (omega arith)

module _ (rows : List ℕ) (are : Rows rows) where
  pub cyclic_some : T (has_cycle rows) → (v : ℕ) × Edge rows v v
  cyclic_some t =
      let (v, x, inside, x_is, shown) = Any-from_list_any own_edge (enumerate_from 0 rows) (true_T (has_cycle rows) t) in
      let within : v < length rows = simp length-enumerate_from at inside in
      (v, T_true (has (get_or rows v 0) v) (sym (own_edge_at rows v x within) ∙ ap own_edge x_is ∙ shown))

  pub some_cyclic : (v : ℕ) → Edge rows v v → T (has_cycle rows)
  some_cyclic v e =
      let inside : v < length rows = omega (arith, edge_from rows are v v e, are.count) in
      T_true (has_cycle rows)
      (list_any_at own_edge (enumerate_from 0 rows) v (0, 0) (simp length-enumerate_from inside)
      (own_edge_at rows v (0, 0) inside ∙ true_T (has (get_or rows v 0) v) e))

-- ---- the outcome and the tree

module _ (g : Grammar) (text : ℕ → List Segment) (lim : Limits g text) (p : ℕ) (exists : p < g.productions) (c : List ℕ) where
  pub own_few : attributes g (g.symbol p) ≤ 4
  own_few = own_attributes g text lim p exists

  pub relation_small : relation_of g p c < 16
  relation_small = relation_below (closed_below 16 (rows_of g p c)) (g.inherited (g.symbol p)) (g.synthesized (g.symbol p)) own_few

  -- the figures of the vertices below 4 are the root's own
  own_place : (v : ℕ) → v < 4 → place v ≡ instance [] v
  own_place v l =
      let i_is : v / 4 ≡ 0 = omega arith in
      let a_is : v % 4 ≡ v = omega arith in
      ap₂ at_root i_is a_is

  -- an edge of the closed graph is a way of the local one
  pub closed_to_steps : (v w : ℕ) → Edge (closed_below 16 (rows_of g p c)) v w → Over (LocalStep g p (Chosen g p c)) (place v) (place w)
  closed_to_steps v w e = edges_to_steps g text lim p exists c v w (closure_sound (rows_of g p c) (rows_are g p c) v w e)

  pub steps_to_closed : (v w : ℕ) → Over (LocalStep g p (Chosen g p c)) (place v) (place w) → Edge (closed_below 16 (rows_of g p c)) v w
  steps_to_closed v w o = closure_complete (rows_of g p c) (rows_are g p c) v w (steps_to_edges g text lim p exists c v w o)

  module _ (s n : ℕ) (l : ℤ) (first second third : Tree) (is_tree : TreeOf g s (node n p l first second third))
      (codes : (k : ℕ) → k < length (g.children p) → Code g (child g p k) (hanging (node n p l first second third) k) (chosen c k)) where
    abbrev this : Tree
    this = node n p l first second third

    own_tree : TreeOf g (g.symbol p) this
    own_tree = (is_tree.0, refl, is_tree.2, is_tree.3, is_tree.4)

    pub exact : Exact g p (Chosen g p c) this
    exact = record {
      sound = λ k b a inside inherited above below r.
          by_attribute g (child g p k) (hanging this k) b a above ((codes k inside).sound b (a - g.inherited (child g p k)) inherited (omega arith) r);
      complete = λ k b a inside inherited above below r.
          (codes k inside).complete b (a - g.inherited (child g p k)) inherited (omega arith) (by_number g (child g p k) (hanging this k) b a above r);
    }

    pub outcome_code : Code g (g.symbol p) this (relation_of g p c)
    outcome_code =
        let h = g.inherited (g.symbol p) in
        let rows = closed_below 16 (rows_of g p c) in
        record {
          below = relation_within h (g.synthesized (g.symbol p)) own_few rows;
          sound = λ i j k m t.
              let edge : Edge rows (h + j) i =
              T_along (has (field h (relation_of g p c) j) i) (has (get_or rows (h + j) 0) i)
              (relation_has h (g.synthesized (g.symbol p)) own_few rows i j k m) t in
              let a_is : place (h + j) ≡ instance [] (h + j) = own_place (h + j) (omega (arith, own_few)) in
              let i_is : place i ≡ instance [] i = own_place i (omega (arith, own_few)) in
              local_to_tree g (g.symbol p) n p l first second third (Chosen g p c) own_tree exact
              (rw (← a_is, ← i_is) (closed_to_steps (h + j) i edge));
          complete = λ i j k m r.
              let a_is : place (h + j) ≡ instance [] (h + j) = own_place (h + j) (omega (arith, own_few)) in
              let i_is : place i ≡ instance [] i = own_place i (omega (arith, own_few)) in
              let way : Over (LocalStep g p (Chosen g p c)) (instance [] (h + j)) (instance [] i) =
              tree_to_local g (g.symbol p) n p l first second third (Chosen g p c) own_tree exact (h + j) i k (omega arith) r in
              T_back (has (field h (relation_of g p c) j) i) (has (get_or rows (h + j) 0) i)
              (relation_has h (g.synthesized (g.symbol p)) own_few rows i j k m)
              (steps_to_closed (h + j) i (rw (a_is, i_is) way));
        }

    pub cyclic_has_own_cycle : T (outcome_of g p c).cyclic → (x : Instance) × (y : Instance) × WaitsAtRoot g this x y × Star (Waits g this) y x
    cyclic_has_own_cycle t =
        let found = cyclic_some (closed_below 16 (rows_of g p c)) (closed_rows 16 (rows_of g p c) (rows_are g p c)) t in
        local_cycle_to_own g (g.symbol p) n p l first second third (Chosen g p c) own_tree exact (place found.0)
        (closed_to_steps found.0 found.0 found.1)

    -- a way of the local graph begins at a vertex
    begins : (x y : Instance) → Over (LocalStep g p (Chosen g p c)) x y → (v : ℕ) × (v < 16) × (x ≡ place v)
    begins x y o =
        elim (first_step o) [
          | inl r ↦ (let d = step_to_edge g text lim p exists c x y r in (d.from, d.from_below, d.x_is))
          | inr m ↦ (let d = step_to_edge g text lim p exists c x m.0 m.1 in (d.from, d.from_below, d.x_is))
        ]

    pub own_cycle_is_cyclic : (x y : Instance) → WaitsAtRoot g this x y → Star (Waits g this) y x → T (outcome_of g p c).cyclic
    own_cycle_is_cyclic x y w back =
        let way : Over (LocalStep g p (Chosen g p c)) x x =
        own_cycle_to_local g (g.symbol p) n p l first second third (Chosen g p c) own_tree exact x y w back in
        let start = begins x x way in
        some_cyclic (closed_below 16 (rows_of g p c)) (closed_rows 16 (rows_of g p c) (rows_are g p c)) start.0
        (steps_to_closed start.0 start.0 (subst (λ (z : Instance). Over (LocalStep g p (Chosen g p c)) z z) start.2 way))
