-- The rows of bits of a production's local graph have exactly the steps of the local graph: vertex 4 * i + a is attribute a at place i.
use Rattle.std.proofs.Common.{◌≡◌, ℕ, zero, suc, ◌+◌, ◌-◌, ◌*◌, ◌/◌, ◌%◌, ◌^◌, ◌<◌, ◌≤◌, cond, T, ltb, ◌⊎◌, List, [], ◌∷◌, length, get_or, fold, sym, refl, ap, ◌∙◌, subst, ap₂, inl, inr, add-one, arith, lit<}
use Rattle.std.proofs.lemmas.List.FromFn.{length-map-range_with_len, get_or-map-range_with_len}
use Rattle.std.proofs.lemmas.List.{get_or_past}
use Rattle.std.proofs.lemmas.Bool.{cases_lt, cond_both, lt-ltb, le-ltb}
use Rattle.grammar.specs.declared.language.Occurrence.{Occurrence}
use Rattle.grammar.specs.Text.{Segment}
use Rattle.grammar.specs.Grammar.{Grammar, attributes, child, Occurs, Given, Among, arguments}
use Rattle.grammar.specs.Limits.{Limits}
use Rattle.grammar.specs.Dependence.{Instance, instance, at_root, WaitsBy, Over, one, then}
use Rattle.circularity.specs.Bits.{has, with_bit, field}
use Rattle.circularity.specs.Working.{vertex, bits_of, chosen, parent_row, child_row, row_of, rows_of}
use Rattle.circularity.proofs.Bits.{T_false, has_zero, has_with_bit, with_bit_keeps, with_bit_sets, with_bit_below, has_shifted, shifted_has, shifted_below}
use Rattle.circularity.proofs.Fields.{field_below}
use Rattle.circularity.proofs.Rows.{parent_inherited, parent_given, parent_past, no_child, child_given, child_related, child_past}
use Rattle.circularity.proofs.Closure.{Rows, Edge, edge_from}
use Rattle.circularity.proofs.Local.{LocalStep, via, over_map}

-- ---- vertices and figures

-- the figure of a vertex
abbrev pub place : ℕ → Instance
place v = at_root (v / 4) (v % 4)

pub vertex_below : (i a : ℕ) → vertex i a < 16
vertex_below i a = omega arith

pub place_of_vertex : (i a : ℕ) → i < 4 → a < 4 → place (vertex i a) ≡ at_root i a
place_of_vertex i a small few =
    let i_is : vertex i a / 4 ≡ i = omega arith in
    let a_is : vertex i a % 4 ≡ a = omega arith in
    ap₂ at_root i_is a_is

same_figure : (i j a b : ℕ) → at_root i a ≡ at_root j b → (i ≡ j) × (a ≡ b)
same_figure zero zero a b e = (refl, ap (λ x. x.attribute) e)
same_figure zero (suc j) a b e =
    let q : [] ≡ j ∷ [] = ap (λ x. x.path) e in
    let z : ◌≡◌ {A = ℕ} 0 1 = cc in
    absurd (omega arith)
same_figure (suc i) zero a b e =
    let q : i ∷ [] ≡ [] = ap (λ x. x.path) e in
    let z : ◌≡◌ {A = ℕ} 0 1 = cc in
    absurd (omega arith)
same_figure (suc i) (suc j) a b e =
    let q : i ∷ [] ≡ j ∷ [] = ap (λ x. x.path) e in
    let same : i ≡ j = cc in
    (ap suc same, ap (λ x. x.attribute) e)

pub place_injective : (v w : ℕ) → place v ≡ place w → v ≡ w
place_injective v w e =
    let same = same_figure (v / 4) (w / 4) (v % 4) (w % 4) e in
    omega (arith, same.0, same.1)

-- ---- the bits of some occurrences

abbrev adding : ℕ → Occurrence → ℕ
adding row o = with_bit row (vertex o.place o.attribute)

-- w is the vertex of one of the occurrences
abbrev pub Named : List Occurrence → ℕ → Type 0
Named os w = (o : Occurrence) × Among o os × (vertex o.place o.attribute ≡ w)

added_sound : (os : List Occurrence) (start w : ℕ) → T (has (fold adding start os) w) → T (has start w) ⊎ Named os w
added_sound [] start w t = inl t
added_sound (o ∷ os) start w t =
    elim (added_sound os (adding start o) w t) [
      | inl u ↦
          elim (has_with_bit start (vertex o.place o.attribute) w (vertex_below o.place o.attribute) u) [
            | inl before ↦ inl before
            | inr e ↦ inr (o, inl refl, e)
          ]
      | inr n ↦ inr (n.0, inr n.1, n.2)
    ]

added_keeps : (os : List Occurrence) (start w : ℕ) → T (has start w) → T (has (fold adding start os) w)
added_keeps [] start w t = t
added_keeps (o ∷ os) start w t = added_keeps os (adding start o) w (with_bit_keeps start (vertex o.place o.attribute) w t)

added_has : (os : List Occurrence) (start : ℕ) (o : Occurrence) → Among o os → T (has (fold adding start os) (vertex o.place o.attribute))
added_has [] start o m = elim m [ ]
added_has (x ∷ os) start o (inl e) =
    added_keeps os (adding start x) (vertex o.place o.attribute)
    (subst (λ (y : Occurrence). T (has (adding start x) (vertex y.place y.attribute))) (sym e)
    (with_bit_sets start (vertex x.place x.attribute) (vertex_below x.place x.attribute)))
added_has (x ∷ os) start o (inr m) = added_has os (adding start x) o m

added_below : (os : List Occurrence) (start : ℕ) → start < 2 ^ 16 → fold adding start os < 2 ^ 16
added_below [] start h = h
added_below (o ∷ os) start h = added_below os (adding start o) (with_bit_below start (vertex o.place o.attribute) h)

pub bits_sound : (os : List Occurrence) (w : ℕ) → T (has (bits_of os) w) → Named os w
bits_sound os w t = elim (added_sound os 0 w t) [ inl z ↦ absurd (T_false (has 0 w) (has_zero w) z) | inr n ↦ n ]

pub bits_complete : (os : List Occurrence) (o : Occurrence) → Among o os → T (has (bits_of os) (vertex o.place o.attribute))
bits_complete os o m = added_has os 0 o m

pub bits_below : (os : List Occurrence) → bits_of os < 2 ^ 16
bits_below os = added_below os 0 (lit< tt)

-- ---- the rows by place and attribute

abbrev pub row_at : Grammar → ℕ → List ℕ → ℕ → ℕ → ℕ
row_at g p c zero a = parent_row g p a
row_at g p c (suc k) a = child_row g p c k a

row_of_vertex : (g : Grammar) (p : ℕ) (c : List ℕ) (i a : ℕ) → a < 4 → row_of g p c (4 * i + a) ≡ row_at g p c i a
row_of_vertex g p c zero a few =
    let e : 4 * 0 + a ≡ a = omega arith in
    rw (e, lt-ltb a 4 few)
row_of_vertex g p c (suc k) a few =
    let past : 4 ≤ 4 * suc k + a = omega arith in
    let k_is : (4 * suc k + a) / 4 - 1 ≡ k = omega arith in
    let a_is : (4 * suc k + a) % 4 ≡ a = omega arith in
    rw (le-ltb (4 * suc k + a) 4 past, k_is, a_is)

-- the row of a vertex is that of its place and attribute
pub row_is : (g : Grammar) (p : ℕ) (c : List ℕ) (v : ℕ) → v < 16 → get_or (rows_of g p c) v 0 ≡ row_at g p c (v / 4) (v % 4)
row_is g p c v l =
    let e : 4 * (v / 4) + v % 4 ≡ v = omega arith in
    get_or-map-range_with_len (row_of g p c) 0 16 v v 0 l (omega arith)
    ∙ ap (row_of g p c) (sym e)
    ∙ row_of_vertex g p c (v / 4) (v % 4) (omega arith)

pub row_of_place : (g : Grammar) (p : ℕ) (c : List ℕ) (i a : ℕ) → i < 4 → a < 4 → get_or (rows_of g p c) (vertex i a) 0 ≡ row_at g p c i a
row_of_place g p c i a small few =
    let i_is : vertex i a / 4 ≡ i = omega arith in
    let a_is : vertex i a % 4 ≡ a = omega arith in
    row_is g p c (vertex i a) (vertex_below i a) ∙ ap₂ (row_at g p c) i_is a_is

-- the relations at the children's places that a choice names
abbrev pub Chosen : Grammar → ℕ → List ℕ → ℕ → ℕ → ℕ → Type 0
Chosen g p c k b a = T (has (field (g.inherited (child g p k)) (chosen c k) (a - g.inherited (child g p k))) b)

pub given_occurs : (g : Grammar) (p i a : ℕ) → Given g p i a → Occurs g p i a
given_occurs g p zero a h = h.1
given_occurs g p (suc k) a h = (h.0, omega (arith, h.1))

row_below : (g : Grammar) (p : ℕ) (c : List ℕ) (i a : ℕ) → row_at g p c i a < 2 ^ 16
row_below g p c zero a =
    let h = g.inherited (g.symbol p) in
    let Below : ℕ → Type 0 = λ x. x < 2 ^ 16 in
    let zero_below : Below 0 = lit< tt in
    cond_both (ltb a h) 0 (cond (ltb (a - h) (g.synthesized (g.symbol p))) (bits_of (arguments g p 0 a)) 0) Below (λ e. zero_below) (λ e.
    cond_both (ltb (a - h) (g.synthesized (g.symbol p))) (bits_of (arguments g p 0 a)) 0 Below (λ e'. bits_below (arguments g p 0 a)) (λ e'. zero_below))
row_below g p c (suc k) a =
    let h = g.inherited (child g p k) in
    let s = g.synthesized (child g p k) in
    let related : ℕ = (field h (chosen c k) (a - h) * 2 ^ (4 * (k + 1))) % 2 ^ 16 in
    let own : ℕ = bits_of (arguments g p (k + 1) a) in
    let Below : ℕ → Type 0 = λ x. x < 2 ^ 16 in
    let zero_below : Below 0 = lit< tt in
    cond_both (ltb k (length (g.children p))) (cond (ltb a h) own (cond (ltb (a - h) s) related 0)) 0 Below
    (λ e.
    cond_both (ltb a h) own (cond (ltb (a - h) s) related 0) Below (λ e'. bits_below (arguments g p (k + 1) a)) (λ e'.
    cond_both (ltb (a - h) s) related 0 Below (λ e''. shifted_below (field h (chosen c k) (a - h)) (4 * (k + 1))) (λ e''. zero_below)))
    (λ e. zero_below)

pub rows_are : (g : Grammar) (p : ℕ) (c : List ℕ) → Rows (rows_of g p c)
rows_are g p c = record {
  count = length-map-range_with_len (row_of g p c) 0 16;
  below = λ v.
      elim (cases_lt v 16) [
        | inl l ↦ subst (λ (x : ℕ). x < 2 ^ 16) (sym (row_is g p c v l)) (row_below g p c (v / 4) (v % 4))
        | inr le ↦
            (let past : length (rows_of g p c) ≤ v = omega (arith, length-map-range_with_len (row_of g p c) 0 16) in
            subst (λ (x : ℕ). x < 2 ^ 16) (sym (get_or_past (rows_of g p c) v 0 past)) (lit< tt))
      ];
}

-- ---- edges and steps

module _ (g : Grammar) (text : ℕ → List Segment) (lim : Limits g text) (p : ℕ) (exists : p < g.productions) (c : List ℕ) where
  abbrev pub Step : Instance → Instance → Type 0
  Step = LocalStep g p (Chosen g p c)

  pub child_few : (k : ℕ) → k < length (g.children p) → attributes g (child g p k) ≤ 4
  child_few k l = lim.few_attributes (child g p k) ((lim.each p exists).child_exists k l).1

  pub occurs_small : (i a : ℕ) → Occurs g p i a → (i < 4) × (a < 4)
  occurs_small zero a h =
      (lit< tt, omega (arith, h, lim.few_attributes (g.symbol p) (lim.each p exists).symbol_exists))
  occurs_small (suc k) a h =
      (omega (arith, h.0, (lim.each p exists).few_children), omega (arith, h.1, child_few k h.0))

  argument_place : (i a : ℕ) (o : Occurrence) → Among o (arguments g p i a) → place (vertex o.place o.attribute) ≡ at_root o.place o.attribute
  argument_place i a o m =
      let small = occurs_small o.place o.attribute ((lim.each p exists).arguments_occur i a o m) in
      place_of_vertex o.place o.attribute small.0 small.1

  -- a bit of a rule's arguments is a step by the rule
  rule_step : (i a w : ℕ) → Given g p i a → T (has (bits_of (arguments g p i a)) w) → Step (at_root i a) (place w)
  rule_step i a w given t =
      let n = bits_sound (arguments g p i a) w t in
      LocalStep.own (record {
        place = i;
        attribute = a;
        argument = n.0;
        given = given;
        among = n.1;
        x_is = refl;
        y_is = ap place (sym n.2) ∙ argument_place i a n.0 n.1;
      })

  no_step : (row w i a : ℕ) → row ≡ 0 → T (has row w) → Step (at_root i a) (place w)
  no_step row w i a e t = absurd (T_false (has 0 w) (has_zero w) (subst (λ (x : ℕ). T (has x w)) e t))

  parent_step : (a w : ℕ) → T (has (parent_row g p a) w) → Step (at_root 0 a) (place w)
  parent_step a w t =
      let h = g.inherited (g.symbol p) in
      elim (cases_lt a h) [
        | inl inherited ↦ no_step (parent_row g p a) w 0 a (parent_inherited g p a inherited) t
        | inr above ↦
            elim (cases_lt (a - h) (g.synthesized (g.symbol p))) [
              | inl within ↦ rule_step 0 a w (above, omega arith) (subst (λ (x : ℕ). T (has x w)) (parent_given g p a above within) t)
              | inr past ↦ no_step (parent_row g p a) w 0 a (parent_past g p a above past) t
            ]
      ]

  -- a bit of the relation at a child's place, moved there, is a step over the child
  related_step : (k a w : ℕ) → k < length (g.children p) → g.inherited (child g p k) ≤ a → a - g.inherited (child g p k) < g.synthesized (child g p k)
      → T (has ((field (g.inherited (child g p k)) (chosen c k) (a - g.inherited (child g p k)) * 2 ^ (4 * (k + 1))) % 2 ^ 16) w) → Step (at_root (suc k) a) (place w)
  related_step k a w inside above within t =
      let h = g.inherited (child g p k) in
      let few = child_few k inside in
      let room : h + 4 * (k + 1) ≤ 16 = omega (arith, few, (lim.each p exists).few_children) in
      let found = has_shifted (field h (chosen c k) (a - h)) (4 * (k + 1)) h w (field_below h (chosen c k) (a - h)) room t in
      let b : ℕ = found.0 in
      let k_is : w / 4 ≡ suc k = omega (arith, found.1, found.2, few) in
      let b_is : w % 4 ≡ b = omega (arith, found.1, found.2, few) in
      via k b a inside found.1 above (omega arith) found.3 refl (ap₂ at_root k_is b_is)

  child_step : (k a w : ℕ) → T (has (child_row g p c k a) w) → Step (at_root (suc k) a) (place w)
  child_step k a w t =
      let h = g.inherited (child g p k) in
      elim (cases_lt k (length (g.children p))) [
        | inl inside ↦
            elim (cases_lt a h) [
              | inl inherited ↦
                  rule_step (suc k) a w (inside, inherited)
                  (subst (λ (x : ℕ). T (has x w)) (child_given g p c k a inside inherited ∙ ap (λ (i : ℕ). bits_of (arguments g p i a)) (add-one k)) t)
              | inr above ↦
                  elim (cases_lt (a - h) (g.synthesized (child g p k))) [
                    | inl within ↦ related_step k a w inside above within (subst (λ (x : ℕ). T (has x w)) (child_related g p c k a inside above within) t)
                    | inr past ↦ no_step (child_row g p c k a) w (suc k) a (child_past g p c k a inside above past) t
                  ]
            ]
        | inr outside ↦ no_step (child_row g p c k a) w (suc k) a (no_child g p c k a outside) t
      ]

  bit_step : (i a w : ℕ) → T (has (row_at g p c i a) w) → Step (at_root i a) (place w)
  bit_step zero a w t = parent_step a w t
  bit_step (suc k) a w t = child_step k a w t

  pub edge_to_step : (v w : ℕ) → Edge (rows_of g p c) v w → Step (place v) (place w)
  edge_to_step v w e =
      let l : v < 16 = edge_from (rows_of g p c) (rows_are g p c) v w e in
      bit_step (v / 4) (v % 4) w (subst (λ (x : ℕ). T (has x w)) (row_is g p c v l) e)

  -- ---- and back

  -- a step as an edge between vertices
  pub record Drawn (x y : Instance) : Type 0 where
    pub from : ℕ
    pub to : ℕ
    pub from_below : from < 16
    pub to_below : to < 16
    pub x_is : x ≡ place from
    pub y_is : y ≡ place to
    pub edge : Edge (rows_of g p c) from to

  -- the row of an attribute that the production gives has its rule's arguments
  given_row : (i a : ℕ) → Given g p i a → row_at g p c i a ≡ bits_of (arguments g p i a)
  given_row zero a given = parent_given g p a given.0 (omega (arith, given.0, given.1))
  given_row (suc k) a given = child_given g p c k a given.0 given.1 ∙ ap (λ (i : ℕ). bits_of (arguments g p i a)) (add-one k)

  draw : (x y : Instance) (i a w : ℕ) → i < 4 → a < 4 → x ≡ at_root i a → y ≡ place w → w < 16 → T (has (row_at g p c i a) w) → Drawn x y
  draw x y i a w small few x_is y_is below t = record {
    from = vertex i a;
    to = w;
    from_below = vertex_below i a;
    to_below = below;
    x_is = x_is ∙ sym (place_of_vertex i a small few);
    y_is = y_is;
    edge = subst (λ (r : ℕ). T (has r w)) (sym (row_of_place g p c i a small few)) t;
  }

  draw_rule : (x y : Instance) → WaitsBy g p x y → Drawn x y
  draw_rule x y r =
      let i = r.place in
      let a = r.attribute in
      let o = r.argument in
      let small = occurs_small i a (given_occurs g p i a r.given) in
      draw x y i a (vertex o.place o.attribute) small.0 small.1 r.x_is
      (r.y_is ∙ sym (argument_place i a o r.among))
      (vertex_below o.place o.attribute)
      (subst (λ (q : ℕ). T (has q (vertex o.place o.attribute))) (sym (given_row i a r.given)) (bits_complete (arguments g p i a) o r.among))

  draw_over : (x y : Instance) (k b a : ℕ) → k < length (g.children p) → b < g.inherited (child g p k) → g.inherited (child g p k) ≤ a → a < attributes g (child g p k)
      → Chosen g p c k b a → x ≡ instance (k ∷ []) a → y ≡ instance (k ∷ []) b → Drawn x y
  draw_over x y k b a inside inherited above below r x_is y_is =
      let h = g.inherited (child g p k) in
      let few = child_few k inside in
      let small : suc k < 4 = omega (arith, (lim.each p exists).few_children) in
      let room : h + 4 * (k + 1) ≤ 16 = omega (arith, few) in
      let w : ℕ = 4 * (k + 1) + b in
      let k_is : w / 4 ≡ suc k = omega (arith, few) in
      let b_is : w % 4 ≡ b = omega (arith, few) in
      draw x y (suc k) a w small (omega (arith, few)) x_is (y_is ∙ sym (ap₂ at_root k_is b_is)) (omega (arith, few))
      (subst (λ (q : ℕ). T (has q w)) (sym (child_related g p c k a inside above (omega arith)))
      (shifted_has (field h (chosen c k) (a - h)) (4 * (k + 1)) h b (field_below h (chosen c k) (a - h)) room r))

  pub step_to_edge : (x y : Instance) → Step x y → Drawn x y
  step_to_edge x y (LocalStep.own w) = draw_rule x y w
  step_to_edge x y (via k b a inside inherited above below r x_is y_is) = draw_over x y k b a inside inherited above below r x_is y_is

  -- ---- ways

  pub edges_to_steps : (v w : ℕ) → Over (Edge (rows_of g p c)) v w → Over Step (place v) (place w)
  edges_to_steps v w o = over_map place edge_to_step v o

  steps_drawn : (v : ℕ) (y : Instance) → Over Step (place v) y → (w : ℕ) → y ≡ place w → Over (Edge (rows_of g p c)) v w
  steps_drawn v y (one r) w e =
      let d = step_to_edge (place v) y r in
      let from_is : d.from ≡ v = sym (place_injective v d.from d.x_is) in
      let to_is : d.to ≡ w = place_injective d.to w (sym d.y_is ∙ e) in
      one (rw (← from_is, ← to_is) d.edge)
  steps_drawn v y (then {y = u} o r) w e =
      let d = step_to_edge u y r in
      let to_is : d.to ≡ w = place_injective d.to w (sym d.y_is ∙ e) in
      then (steps_drawn v u o d.from d.x_is) (subst (λ (z : ℕ). Edge (rows_of g p c) d.from z) to_is d.edge)

  pub steps_to_edges : (v w : ℕ) → Over Step (place v) (place w) → Over (Edge (rows_of g p c)) v w
  steps_to_edges v w o = steps_drawn v (place w) o w refl
