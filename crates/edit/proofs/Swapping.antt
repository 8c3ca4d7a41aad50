-- A root hung in a node's place leaves a forest: the node is a root then, and the root is a child of the node's old parent.
use Rattle.std.proofs.Common.{◌≡◌, ℕ, ◌<◌, ◌≤◌, true, false, T, ◌⊎◌, List, length, ℤ, sym, refl, ap, ◌∙◌, subst, inl, inr, arith}
use Rattle.grammar.specs.Grammar.{Grammar, child}
use Rattle.table.specs.declared.node.Node.{Node}
use Rattle.table.specs.Nodes.{none, at, child_field, Used, Blank}
use Rattle.table.specs.Climbing.{Climb, ends, goes_on}
use Rattle.table.specs.Sheets.{ChildAt, OneChildOf}
use Rattle.table.proofs.Reading.{never_none}
use Rattle.table.proofs.Replaced.{equal_or_not}
use Rattle.table.proofs.Climbs.{climb_used}
use Rattle.edit.proofs.Forest.{Forest, Tended, Stands, alone, hanging}

-- What a root hung in a node's place makes of each record: q is the node's old parent and k its place there.
pub record Swapped (r n q k : ℕ) (ns ns' : List Node) : Type 0 where
  pub many : length ns' ≡ length ns
  pub used : (x : ℕ) → (at ns' x).used ≡ (at ns x).used
  pub production : (x : ℕ) → (at ns' x).production ≡ (at ns x).production
  pub literal : (x : ℕ) → (at ns' x).literal ≡ (at ns x).literal
  pub parent_r : (at ns' r).parent ≡ q
  pub parent_n : (at ns' n).parent ≡ none
  pub parent_other : (x : ℕ) → (x ≡ r → ⊥) → (x ≡ n → ⊥) → (at ns' x).parent ≡ (at ns x).parent
  pub child_k : child_field (at ns' q) k ≡ r
  pub child_other : (x j : ℕ) → ((x ≡ q) × (j ≡ k) → ⊥) → child_field (at ns' x) j ≡ child_field (at ns x) j

-- what holds of the node and of the root before
pub record Ready (g : Grammar) (r n q k : ℕ) (ns : List Node) : Type 0 where
  pub root_used : Used ns r
  pub root_alone : (at ns r).parent ≡ none
  pub root_other : r ≡ 0 → ⊥
  pub node_other : n ≡ 0 → ⊥
  pub parent : (at ns n).parent ≡ q
  pub parent_used : Used ns q
  pub parent_climbs : Climb ns 0 q
  pub place : k < length (g.children (at ns q).production)
  pub named : child_field (at ns q) k ≡ n
  pub symbol : g.symbol (at ns r).production ≡ g.symbol (at ns n).production

module _ (g : Grammar) (r n q k : ℕ) (ns ns' : List Node) (few : length ns ≤ 1000) (forest : Forest g ns) (ready : Ready g r n q k ns) (swapped : Swapped r n q k ns ns') where
  used_after : (x : ℕ) → Used ns x → Used ns' x
  used_after x u = (omega (arith, u.0, swapped.many), swapped.used x ∙ u.1)

  used_before : (x : ℕ) → Used ns' x → Used ns x
  used_before x u = (omega (arith, u.0, swapped.many), sym (swapped.used x) ∙ u.1)

  -- a child of a used node is no root, and is the node only at its place
  child_not_root : (x j : ℕ) → Used ns x → ChildAt g ns x j → child_field (at ns x) j ≡ r → ⊥
  child_not_root x j u c e = never_none ns few x u (sym c.parent ∙ ap (λ (i : ℕ). (at ns i).parent) e ∙ ready.root_alone)

  n_used : Used ns n
  n_used = subst (λ (i : ℕ). Used ns i) ready.named ((forest.tended q ready.parent_used).children k ready.place).used

  child_not_node : (x j : ℕ) → Used ns x → j < length (g.children (at ns x).production) → ChildAt g ns x j → ((x ≡ q) × (j ≡ k) → ⊥) → child_field (at ns x) j ≡ n → ⊥
  child_not_node x j u h c other e = go (forest.tended n n_used).stands
    where
      same : x ≡ q
      same = sym c.parent ∙ ap (λ (i : ℕ). (at ns i).parent) e ∙ ready.parent

      go : Stands g ns n → ⊥
      go (alone p) = never_none ns few q ready.parent_used (sym ready.parent ∙ p)
      go (hanging z v o) =
          let o' : OneChildOf g ns q n = subst (λ (i : ℕ). OneChildOf g ns i n) ready.parent o in
          let h' : j < length (g.children (at ns q).production) = subst (λ (i : ℕ). j < length (g.children (at ns i).production)) same h in
          let e' : child_field (at ns q) j ≡ n = subst (λ (i : ℕ). child_field (at ns i) j ≡ n) same e in
          other (same, o'.alone j h' e' ∙ sym (o'.alone k ready.place ready.named))

  -- the place is the changed one or not
  here_or_not : (x j : ℕ) → ((x ≡ q) × (j ≡ k)) ⊎ ((x ≡ q) × (j ≡ k) → ⊥)
  here_or_not x j = elim (equal_or_not x q) [
    | inl a ↦ elim (equal_or_not j k) [ inl b ↦ inl (a.1, b.1) | inr b ↦ inr (λ c. b.1 c.1) ]
    | inr a ↦ inr (λ c. a.1 c.0)
  ]

  child_symbol : (x : ℕ) → g.symbol (at ns' x).production ≡ g.symbol (at ns x).production
  child_symbol x = ap g.symbol (swapped.production x)

  wanted_symbol : (x j : ℕ) → child g (at ns' x).production j ≡ child g (at ns x).production j
  wanted_symbol x j = ap (λ (p : ℕ). child g p j) (swapped.production x)

  hung_child : ChildAt g ns' q k
  hung_child =
      let c : ChildAt g ns q k = (forest.tended q ready.parent_used).children k ready.place in
      record {
        used = subst (λ (i : ℕ). Used ns' i) (sym swapped.child_k) (used_after r ready.root_used);
        symbol =
            ap (λ (i : ℕ). g.symbol (at ns' i).production) swapped.child_k ∙ child_symbol r ∙ ready.symbol
            ∙ subst (λ (i : ℕ). g.symbol (at ns i).production ≡ child g (at ns q).production k) ready.named c.symbol ∙ sym (wanted_symbol q k);
        parent = ap (λ (i : ℕ). (at ns' i).parent) swapped.child_k ∙ swapped.parent_r;
      }

  other_child : (x j : ℕ) → Used ns x → j < length (g.children (at ns x).production) → ChildAt g ns x j → ((x ≡ q) × (j ≡ k) → ⊥) → ChildAt g ns' x j
  other_child x j u h c other =
      let same : child_field (at ns' x) j ≡ child_field (at ns x) j = swapped.child_other x j other in
      record {
        used = subst (λ (i : ℕ). Used ns' i) (sym same) (used_after (child_field (at ns x) j) c.used);
        symbol = ap (λ (i : ℕ). g.symbol (at ns' i).production) same ∙ child_symbol (child_field (at ns x) j) ∙ c.symbol ∙ sym (wanted_symbol x j);
        parent = ap (λ (i : ℕ). (at ns' i).parent) same ∙ swapped.parent_other (child_field (at ns x) j) (child_not_root x j u c) (child_not_node x j u h c other) ∙ c.parent;
      }

  children_after : (x : ℕ) → Used ns x → Tended g ns x → (j : ℕ) → j < length (g.children (at ns' x).production) → ChildAt g ns' x j
  children_after x u t j h =
      let h' : j < length (g.children (at ns x).production) = subst (λ (p : ℕ). j < length (g.children p)) (swapped.production x) h in
      elim (here_or_not x j) [
        | inl e ↦ subst (λ (i : ℕ). ChildAt g ns' x i) (sym e.1) (subst (λ (i : ℕ). ChildAt g ns' i k) (sym e.0) hung_child)
        | inr e ↦ other_child x j u h' (t.children j h') e
      ]

  no_further_after : (x : ℕ) → Tended g ns x → (j : ℕ) → length (g.children (at ns' x).production) ≤ j → j < 3 → child_field (at ns' x) j ≡ none
  no_further_after x t j h l =
      let h' : length (g.children (at ns x).production) ≤ j = subst (λ (p : ℕ). length (g.children p) ≤ j) (swapped.production x) h in
      swapped.child_other x j (λ e. past j h' e.0 e.1) ∙ t.no_further j h' l
    where
      past : (j : ℕ) → length (g.children (at ns x).production) ≤ j → x ≡ q → j ≡ k → ⊥
      past j h e f = let p : length (g.children (at ns q).production) ≤ j = subst (λ (i : ℕ). length (g.children (at ns i).production) ≤ j) e h in omega (arith, ready.place)

  -- the root is a child of the node's old parent
  hung_once : OneChildOf g ns' q r
  hung_once = record {
    place = k;
    inside = subst (λ (p : ℕ). k < length (g.children p)) (sym (swapped.production q)) ready.place;
    named = swapped.child_k;
    alone = λ j h e. only j (subst (λ (p : ℕ). j < length (g.children p)) (swapped.production q) h) e;
  }
    where
      only : (j : ℕ) → j < length (g.children (at ns q).production) → child_field (at ns' q) j ≡ r → j ≡ k
      only j h e = elim (equal_or_not j k) [
        | inl c ↦ c.1
        | inr c ↦ absurd (child_not_root q j ready.parent_used ((forest.tended q ready.parent_used).children j h) (sym (swapped.child_other q j (λ d. c.1 d.1)) ∙ e))
      ]

  -- any other node is the same child as before
  same_once : (p x : ℕ) → (x ≡ r → ⊥) → (x ≡ n → ⊥) → OneChildOf g ns p x → OneChildOf g ns' p x
  same_once p x no_root no_node o = record {
    place = o.place;
    inside = subst (λ (i : ℕ). o.place < length (g.children i)) (sym (swapped.production p)) o.inside;
    named = swapped.child_other p o.place (λ e. no_node (sym o.named ∙ at_place e)) ∙ o.named;
    alone = λ j h e. o.alone j (subst (λ (i : ℕ). j < length (g.children i)) (swapped.production p) h) (sym (swapped.child_other p j (λ d. no_root (sym e ∙ changed j d))) ∙ e);
  }
    where
      at_place : (p ≡ q) × (o.place ≡ k) → child_field (at ns p) o.place ≡ n
      at_place e = subst (λ (i : ℕ). child_field (at ns i) o.place ≡ n) (sym e.0) (subst (λ (i : ℕ). child_field (at ns q) i ≡ n) (sym e.1) ready.named)

      changed : (j : ℕ) → (p ≡ q) × (j ≡ k) → child_field (at ns' p) j ≡ r
      changed j e = subst (λ (i : ℕ). child_field (at ns' i) j ≡ r) (sym e.0) (subst (λ (i : ℕ). child_field (at ns' q) i ≡ r) (sym e.1) swapped.child_k)

  stands_after : (x : ℕ) → Tended g ns x → Stands g ns' x
  stands_after x t = elim (equal_or_not x r) [
    | inl a ↦ subst (λ (i : ℕ). Stands g ns' i) (sym a.1) (hanging ready.root_other (subst (λ (i : ℕ). Used ns' i) (sym swapped.parent_r) (used_after q ready.parent_used)) (subst (λ (i : ℕ). OneChildOf g ns' i r) (sym swapped.parent_r) hung_once))
    | inr a ↦ elim (equal_or_not x n) [
      | inl b ↦ subst (λ (i : ℕ). Stands g ns' i) (sym b.1) (alone swapped.parent_n)
      | inr b ↦ as_before a.1 b.1 t.stands
    ]
  ]
    where
      as_before : (x ≡ r → ⊥) → (x ≡ n → ⊥) → Stands g ns x → Stands g ns' x
      as_before a b (alone p) = alone (swapped.parent_other x a b ∙ p)
      as_before a b (hanging z u o) =
          let same : (at ns x).parent ≡ (at ns' x).parent = sym (swapped.parent_other x a b) in
          hanging z (subst (λ (i : ℕ). Used ns' i) same (used_after (at ns x).parent u)) (subst (λ (i : ℕ). OneChildOf g ns' i x) same (same_once (at ns x).parent x a b o))

  -- A climb that meets the node ends there; one that ends at the root goes on from there.
  climbs_on : (s : ℕ) → (s ≡ r → (s' : ℕ) × Climb ns' s' r) → (x : ℕ) → Climb ns s x → (s' : ℕ) × Climb ns' s' x
  climbs_on s further x (ends u p e) = elim (equal_or_not x r) [
    | inl a ↦ subst (λ (i : ℕ). (s' : ℕ) × Climb ns' s' i) (sym a.1) (further (e ∙ a.1))
    | inr a ↦ elim (equal_or_not x n) [
      | inl b ↦ (x, ends (used_after x u) (subst (λ (i : ℕ). (at ns' i).parent ≡ none) (sym b.1) swapped.parent_n) refl)
      | inr b ↦ (x, ends (used_after x u) (swapped.parent_other x a.1 b.1 ∙ p) refl)
    ]
  ]
  climbs_on s further x (goes_on m u p c) = elim (equal_or_not x n) [
    | inl b ↦ (x, ends (used_after x u) (subst (λ (i : ℕ). (at ns' i).parent ≡ none) (sym b.1) swapped.parent_n) refl)
    | inr b ↦
        let no_root : x ≡ r → ⊥ = λ e. never_none ns few m (climb_used ns s m c) (sym p ∙ ap (λ (i : ℕ). (at ns i).parent) e ∙ ready.root_alone) in
        let (s', d) = climbs_on s further m c in
        (s', goes_on m (used_after x u) (swapped.parent_other x no_root b.1 ∙ p) d)
  ]

  root_climbs : (s : ℕ) × Climb ns' s r
  root_climbs = let (s, c) = climbs_on 0 (λ e. absurd (ready.root_other (sym e))) q ready.parent_climbs in (s, goes_on q (used_after r ready.root_used) swapped.parent_r c)

  pub swapped_forest : Forest g ns'
  swapped_forest = record {
    root_used = used_after 0 forest.root_used;
    tended = λ x u. tend x (used_before x u) (forest.tended x (used_before x u));
    blank = λ x h e. free x (omega (arith, h, swapped.many)) (sym (swapped.used x) ∙ e);
  }
    where
      tend : (x : ℕ) → Used ns x → Tended g ns x → Tended g ns' x
      tend x u t = record {
        production_exists = subst (λ (p : ℕ). p < g.productions) (sym (swapped.production x)) t.production_exists;
        start = (λ e. swapped.production x ∙ t.start.0 e, λ e. t.start.1 (sym (swapped.production x) ∙ e));
        literal_accepted = subst (λ (l : ℤ). T (g.accepts (at ns' x).production l)) (sym (swapped.literal x)) (subst (λ (p : ℕ). T (g.accepts p (at ns x).literal)) (sym (swapped.production x)) t.literal_accepted);
        children = children_after x u t;
        no_further = no_further_after x t;
        stands = stands_after x t;
        climbs = climbs_on t.climbs.0 (λ e. root_climbs) x t.climbs.1;
      }

      not_used : (x : ℕ) → (at ns x).used ≡ false → Used ns x → ⊥
      not_used x e u = let z : true ≡ false = sym u.1 ∙ e in let y : ◌≡◌ {A = ℕ} 0 1 = cc in omega arith

      free : (x : ℕ) → x < length ns → (at ns x).used ≡ false → Blank (at ns' x)
      free x h e =
          let b : Blank (at ns x) = forest.blank x h e in
          let no_root : x ≡ r → ⊥ = λ f. not_used x e (subst (λ (i : ℕ). Used ns i) (sym f) ready.root_used) in
          let no_node : x ≡ n → ⊥ = λ f. not_used x e (subst (λ (i : ℕ). Used ns i) (sym f) n_used) in
          let no_parent : x ≡ q → ⊥ = λ f. not_used x e (subst (λ (i : ℕ). Used ns i) (sym f) ready.parent_used) in
          record {
            free = swapped.used x ∙ e;
            production = swapped.production x ∙ b.production;
            literal = swapped.literal x ∙ b.literal;
            parent = swapped.parent_other x no_root no_node ∙ b.parent;
            children = λ j l. swapped.child_other x j (λ d. no_parent d.0) ∙ b.children j l;
          }
