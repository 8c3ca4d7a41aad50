-- The ways in a tree between figures of its root's production are the ways in the production's own graph.
use Rattle.std.proofs.Common.{◌≡◌, ℕ, zero, suc, ◌<◌, ◌≤◌, ◌⊎◌, [], ◌∷◌, length, ℤ, sym, refl, ap, ◌∙◌, subst, inl, inr, arith}
use Rattle.grammar.specs.Grammar.{Grammar, attributes, child, Given}
use Rattle.grammar.specs.Tree.{Tree, none, node, hanging, TreeOf}
use Rattle.grammar.specs.Dependence.{Instance, instance, under, at_root, WaitsAtRoot, Waits, inside, Over, one, then}
use Rattle.circularity.proofs.Local.{LocalStep, via, Exact, Star, over_trans, over_map, first_step, star_then, then_star, star_trans}

-- a figure below child place k is none of the root's
pub below_not_root : (y y' : Instance) (k b : ℕ) → y ≡ under k y' → y ≡ instance [] b → ⊥
below_not_root y y' k b e e' =
    let q : k ∷ y'.path ≡ [] = ap (λ z. z.path) (sym e ∙ e') in
    let z : ◌≡◌ {A = ℕ} 0 1 = cc in
    omega arith

-- a figure lies below one child place, and is one figure of the tree there
pub same_place : (x y : Instance) (k j : ℕ) → under k x ≡ under j y → k ≡ j
same_place x y k j e = let q : k ∷ x.path ≡ j ∷ y.path = ap (λ z. z.path) e in cc

pub same_below : (x y : Instance) (k j : ℕ) → under k x ≡ under j y → x ≡ y
same_below x y k j e =
    let q : k ∷ x.path ≡ j ∷ y.path = ap (λ z. z.path) e in
    let path : x.path ≡ y.path = cc in
    let attribute : x.attribute ≡ y.attribute = ap (λ z. z.attribute) e in
    λ i. record { path = path i; attribute = attribute i }

-- a step in a tree: by a rule of the root, or inside the tree at a child place
pub step_cases : (g : Grammar) (t : Tree) {x y : Instance} → Waits g t x y → WaitsAtRoot g t x y ⊎ ((k : ℕ) × (x' : Instance) × (y' : Instance) × Waits g (hanging t k) x' y' × (x ≡ under k x') × (y ≡ under k y'))
step_cases g t (Waits.own w) = inl w
step_cases g t (inside k x' y' w e e') = inr (k, x', y', w, e, e')

-- what hangs at a child place is a tree of the child's symbol, or nothing
pub child_tree : (g : Grammar) (s n p : ℕ) (l : ℤ) (a b c : Tree) → TreeOf g s (node n p l a b c) → (k : ℕ) → TreeOf g (child g p k) (hanging (node n p l a b c) k) ⊎ (hanging (node n p l a b c) k ≡ none)
child_tree g s n p l a b c h zero = inl h.2
child_tree g s n p l a b c h (suc zero) = inl h.3
child_tree g s n p l a b c h (suc (suc zero)) = inl h.4
child_tree g s n p l a b c h (suc (suc (suc k))) = inr refl

-- a rule of the root's that gives a figure at the root gives a synthesized attribute of its symbol
pub given_at_root : (g : Grammar) (s : ℕ) (t : Tree) → TreeOf g s t → (e : ℕ) (y : Instance) → WaitsAtRoot g t (instance [] e) y → (g.inherited s ≤ e) × (e < attributes g s)
given_at_root g s none h e y w = absurd w
given_at_root g s (node n p l a b c) h e y w = go w.place refl
  where
    go : (i : ℕ) → w.place ≡ i → (g.inherited s ≤ e) × (e < attributes g s)
    go zero q =
        let same : instance [] e ≡ at_root 0 w.attribute = rw q at w.x_is in
        let f : e ≡ w.attribute = ap (λ z. z.attribute) same in
        let given : Given g p 0 w.attribute = rw q at w.given in
        rw (← h.1, f) given
    go (suc i) q =
        let same : instance [] e ≡ at_root (suc i) w.attribute = rw q at w.x_is in
        absurd (below_not_root (instance [] e) (instance [] w.attribute) i e same refl)

module _ (g : Grammar) (s n p : ℕ) (l : ℤ) (first second third : Tree) (R : ℕ → ℕ → ℕ → Type 0) (is_tree : TreeOf g s (node n p l first second third)) (exact : Exact g p R (node n p l first second third)) where
  abbrev pub this : Tree
  this = node n p l first second third

  -- each local step is a way in the tree
  pub step_to_tree : {x y : Instance} → LocalStep g p R x y → Over (Waits g this) x y
  step_to_tree (LocalStep.own w) = one (Waits.own w)
  step_to_tree (via k b a lt inherited synthesized exists r e e') =
      let below : Over (Waits g (hanging this k)) (instance [] a) (instance [] b) = exact.sound k b a lt inherited synthesized exists r in
      rw (e, e') (over_map (under k) (λ x y w. inside k x y w refl refl) (instance [] a) below)

  pub local_to_tree : {x y : Instance} → Over (LocalStep g p R) x y → Over (Waits g this) x y
  local_to_tree (one r) = step_to_tree r
  local_to_tree (then o r) = over_trans (local_to_tree o) (step_to_tree r)

  -- What is known of a figure that a way from x in the tree has reached. At the root, the local graph leads there.
  -- Below child place k, the local graph leads to an attribute of that child, and from there on the way lies in the tree at k.
  pub data Reached (x : Instance) : Instance → Type 0 where
    at_own : {y : Instance} (b : ℕ) → y ≡ instance [] b → Star (LocalStep g p R) x y → Reached x y
    below : {y : Instance} (k e : ℕ) (y' : Instance) → y ≡ under k y' → Star (LocalStep g p R) x (instance (k ∷ []) e) → Star (Waits g (hanging this k)) (instance [] e) y' → Reached x y

  -- a figure of the root's production that the local graph leads to
  pub reached_locally : (x y : Instance) (i b : ℕ) → y ≡ at_root i b → Star (LocalStep g p R) x y → Reached x y
  reached_locally x y zero b e o = at_own b e o
  reached_locally x y (suc k) b e o = below k b (instance [] b) e (rw e at o) (inl refl)

  -- an attribute that waits on something inside the tree at child place k is synthesized there
  pub starts_synthesized : (k e : ℕ) (u : Instance) → Waits g (hanging this k) (instance [] e) u → (g.inherited (child g p k) ≤ e) × (e < attributes g (child g p k))
  starts_synthesized k e u w = elim (step_cases g (hanging this k) w) [
    | inl at_root ↦ elim (child_tree g s n p l first second third is_tree k) [
      | inl h ↦ given_at_root g (child g p k) (hanging this k) h e u at_root
      | inr nothing ↦ absurd (subst (λ t. WaitsAtRoot g t (instance [] e) u) nothing at_root)
    ]
    | inr m ↦ absurd (below_not_root (instance [] e) m.1 m.0 e m.4 refl)
  ]

  -- a way inside the tree at child place k from an attribute of its root to an inherited one is a local step
  pub across : (k e b : ℕ) → k < length (g.children p) → b < g.inherited (child g p k) → Star (Waits g (hanging this k)) (instance [] e) (instance [] b) → Star (LocalStep g p R) (instance (k ∷ []) e) (instance (k ∷ []) b)
  across k e b lt inherited (inl q) = inl (ap (under k) q)
  across k e b lt inherited (inr o) =
      let synthesized : (g.inherited (child g p k) ≤ e) × (e < attributes g (child g p k)) = elim (first_step o) [ inl w ↦ starts_synthesized k e (instance [] b) w | inr m ↦ starts_synthesized k e m.0 m.1 ] in
      inr (one (via k b e lt inherited synthesized.0 synthesized.1 (exact.complete k b e lt inherited synthesized.0 synthesized.1 o) refl refl))

  -- the local graph leads to a reached figure that is at the root
  pub close_at_root : (x y : Instance) (b : ℕ) → y ≡ instance [] b → Reached x y → Star (LocalStep g p R) x y
  close_at_root x y b e (at_own b' q o) = o
  close_at_root x y b e (below k e' y' q o inner) = absurd (below_not_root y y' k b q e)

  -- and to a reached figure that is an inherited attribute of a child
  pub close_at_child : (x y : Instance) (k b : ℕ) → y ≡ instance (k ∷ []) b → k < length (g.children p) → b < g.inherited (child g p k) → Reached x y → Star (LocalStep g p R) x y
  close_at_child x y k b e lt inherited (at_own b' q o) = absurd (below_not_root y (instance [] b) k b' e q)
  close_at_child x y k b e lt inherited (below k' e' y' q o inner) =
      let same : under k' y' ≡ under k (instance [] b) = sym q ∙ e in
      let place : k' ≡ k = same_place y' (instance [] b) k' k same in
      let figure : y' ≡ instance [] b = same_below y' (instance [] b) k' k same in
      let inner' : Star (Waits g (hanging this k)) (instance [] e') (instance [] b) = rw (place, figure) at inner in
      let o' : Star (LocalStep g p R) x (instance (k ∷ []) e') = rw place at o in
      rw e (star_trans o' (across k e' b lt inherited inner'))

  pub close : (x y : Instance) (i b : ℕ) → y ≡ at_root i b → Given g p i b → Reached x y → Star (LocalStep g p R) x y
  close x y zero b e given r = close_at_root x y b e r
  close x y (suc k) b e given r = close_at_child x y k b e given.0 given.1 r

  -- one more step of the way: inside the tree at a child place, or any
  pub reach_below : (x y z : Instance) (k : ℕ) (y' z' : Instance) → Waits g (hanging this k) y' z' → y ≡ under k y' → z ≡ under k z' → Reached x y → Reached x z
  reach_below x y z k y' z' w e e' (at_own b q o) = absurd (below_not_root y y' k b e q)
  reach_below x y z k y' z' w e e' (below k₂ a y₂ q o inner) =
      let same : under k y' ≡ under k₂ y₂ = sym e ∙ q in
      let place : k ≡ k₂ = same_place y' y₂ k k₂ same in
      let figure : y' ≡ y₂ = same_below y' y₂ k k₂ same in
      let w' : Waits g (hanging this k₂) y₂ z' = rw (place, figure) at w in
      below k₂ a z' (rw place at e') o (inr (star_then inner w'))

  pub reach_on : (x y z : Instance) → Reached x y → Waits g this y z → Reached x z
  reach_on x y z r (Waits.own w) = reached_locally x z w.argument.place w.argument.attribute w.y_is (inr (star_then (close x y w.place w.attribute w.x_is w.given r) (LocalStep.own w)))
  reach_on x y z r (inside k y' z' w e e') = reach_below x y z k y' z' w e e' r

  pub reach : (x : Instance) {y : Instance} → Reached x x → Over (Waits g this) x y → Reached x y
  reach x r (one {y = y} w) = reach_on x x y r w
  reach x r (then {y = y} {z = z} o w) = reach_on x y z (reach x r o) w

  -- from a synthesized attribute of the root to an inherited one: the relation of the tree is that of the local graph
  pub tree_to_local : (a i : ℕ) → i < g.inherited s → g.inherited s ≤ a → Over (Waits g this) (instance [] a) (instance [] i) → Over (LocalStep g p R) (instance [] a) (instance [] i)
  tree_to_local a i inherited synthesized o =
      elim (close_at_root (instance [] a) (instance [] i) i refl (reach (instance [] a) (at_own a refl (inl refl)) o)) [
        | inl q ↦ let same : a ≡ i = ap (λ z. z.attribute) q in absurd (omega arith)
        | inr found ↦ found
      ]

  -- a cycle through one of the root's own rules is a cycle of the local graph
  pub own_cycle_to_local : (x y : Instance) → WaitsAtRoot g this x y → Star (Waits g this) y x → Over (LocalStep g p R) x x
  own_cycle_to_local x y w back =
      let here : Reached y y = reached_locally y y w.argument.place w.argument.attribute w.y_is (inl refl) in
      let there : Reached y x = elim back [ inl q ↦ subst (λ u. Reached y u) q here | inr o ↦ reach y here o ] in
      then_star (one (LocalStep.own w)) (close y x w.place w.attribute w.x_is w.given there)

  -- no figure is both an inherited and a synthesized attribute of a child
  pub not_both : (z : Instance) (k b k' a : ℕ) → z ≡ instance (k ∷ []) b → b < g.inherited (child g p k) → z ≡ instance (k' ∷ []) a → g.inherited (child g p k') ≤ a → ⊥
  not_both z k b k' a e inherited e' synthesized =
      let same : under k (instance [] b) ≡ under k' (instance [] a) = sym e ∙ e' in
      let place : k ≡ k' = same_place (instance [] b) (instance [] a) k k' same in
      let attribute : b ≡ a = ap (λ u. u.attribute) same in
      let inherited' : a < g.inherited (child g p k') = rw (place, attribute) at inherited in
      omega arith

  -- a step into an inherited attribute of a child is followed by an own rule
  pub own_after : (z y : Instance) (k b : ℕ) → z ≡ instance (k ∷ []) b → b < g.inherited (child g p k) → LocalStep g p R z y → WaitsAtRoot g this z y
  own_after z y k b e inherited (LocalStep.own w) = w
  own_after z y k b e inherited (via k' b' a lt i' synthesized exists r q q') = absurd (not_both z k b k' a e inherited q synthesized)

  -- a cycle in the tree through one of the root's own rules
  abbrev pub OwnCycle : Type 0
  OwnCycle = (x : Instance) × (y : Instance) × WaitsAtRoot g this x y × Star (Waits g this) y x

  pub cycle_from : (z : Instance) (k b : ℕ) → z ≡ instance (k ∷ []) b → b < g.inherited (child g p k) → Over (LocalStep g p R) z z → OwnCycle
  cycle_from z k b e inherited o = elim (first_step o) [
    | inl r ↦ (z, z, own_after z z k b e inherited r, inl refl)
    | inr m ↦ (z, m.0, own_after z m.0 k b e inherited m.1, inr (local_to_tree m.2))
  ]

  -- a cycle by its last step, from y to z, after a way from z to y
  pub cycle_by_last : (y z : Instance) → Star (LocalStep g p R) z y → LocalStep g p R y z → OwnCycle
  cycle_by_last y z o (LocalStep.own w) = (y, z, w, elim o [ inl e ↦ inl e | inr more ↦ inr (local_to_tree more) ])
  cycle_by_last y z o (via k b a lt inherited synthesized exists r e e') =
      cycle_from z k b e' inherited (star_then o (via k b a lt inherited synthesized exists r e e'))

  -- a cycle of the local graph is one in the tree, through one of the root's own rules
  pub local_cycle_to_own : (z : Instance) → Over (LocalStep g p R) z z → OwnCycle
  local_cycle_to_own z o = go z o refl
    where
      go : (u : Instance) → Over (LocalStep g p R) z u → u ≡ z → OwnCycle
      go u (one r) e = cycle_by_last z z (inl refl) (subst (λ v. LocalStep g p R z v) e r)
      go u (then {y = y} o' r) e = cycle_by_last y z (inr o') (subst (λ v. LocalStep g p R y v) e r)
