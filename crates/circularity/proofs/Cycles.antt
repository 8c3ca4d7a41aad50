-- A language is circular exactly when some production roots a tree with a cycle through one of the root's own rules.
use Rattle.std.proofs.Common.{◌≡◌, ℕ, zero, suc, ◌<◌, List, ℤ, sym, refl, ap, ◌∙◌, subst, inl, inr}
use Rattle.grammar.specs.Text.{Segment}
use Rattle.grammar.specs.Grammar.{Grammar, child}
use Rattle.grammar.specs.Limits.{Limits}
use Rattle.grammar.specs.Tree.{Tree, none, node, hanging, TreeOf}
use Rattle.grammar.specs.Dependence.{Instance, under, WaitsAtRoot, Waits, inside, Over, one, then}
use Rattle.grammar.specs.Circularity.{Circular, Culprit}
use Rattle.circularity.proofs.Local.{Star, then_star, star_then, star_trans}
use Rattle.circularity.proofs.TreePaths.{same_place, same_below}

-- nothing waits in no tree
pub none_waits : (g : Grammar) (t : Tree) {x y : Instance} → t ≡ none → Waits g t x y → ⊥
none_waits g t {x} {y} e (Waits.own w) = subst (λ u. WaitsAtRoot g u x y) e w
none_waits g t e (inside k x' y' w q q') = none_waits g (hanging t k) (ap (λ u. hanging u k) e) w

-- A way in a tree: it has a step by one of the root's own rules, or all of it lies inside the tree at one child place.
pub data Split (g : Grammar) (t : Tree) (x y : Instance) : Type 0 where
  by_own : (u v : Instance) → WaitsAtRoot g t u v → Star (Waits g t) x u → Star (Waits g t) v y → Split g t x y
  all_inside : (k : ℕ) (x' y' : Instance) → x ≡ under k x' → y ≡ under k y' → Over (Waits g (hanging t k)) x' y' → Split g t x y

module _ (g : Grammar) (t : Tree) (x : Instance) where
  pub split_first : {y : Instance} → Waits g t x y → Split g t x y
  split_first {y} (Waits.own w) = by_own x y w (inl refl) (inl refl)
  split_first (inside k x' y' w e e') = all_inside k x' y' e e' (one w)

  pub split_inside : (y z : Instance) (k : ℕ) (x' y' : Instance) → x ≡ under k x' → y ≡ under k y' → Over (Waits g (hanging t k)) x' y' → Over (Waits g t) x y → Waits g t y z → Split g t x z
  split_inside y z k x' y' e e' inner o (Waits.own w) = by_own y z w (inr o) (inl refl)
  split_inside y z k x' y' e e' inner o (inside k₂ y₂ z₂ w q q') =
      let same : under k₂ y₂ ≡ under k y' = sym q ∙ e' in
      let place : k₂ ≡ k = same_place y₂ y' k₂ k same in
      let figure : y₂ ≡ y' = same_below y₂ y' k₂ k same in
      let w' : Waits g (hanging t k) y' z₂ = rw (place, figure) at w in
      all_inside k x' z₂ e (rw place at q') (then inner w')

  pub split_next : (y z : Instance) → Over (Waits g t) x y → Waits g t y z → Split g t x y → Split g t x z
  split_next y z o w (by_own u v w' before after) = by_own u v w' before (inr (star_then after w))
  split_next y z o w (all_inside k x' y' e e' inner) = split_inside y z k x' y' e e' inner o w

  pub split : {y : Instance} → Over (Waits g t) x y → Split g t x y
  split (one w) = split_first w
  split (then {y = y} {z = z} o w) = split_next y z o w (split o)

-- A production that exists, and roots a tree with a cycle through one of its own rules.
abbrev pub SomeCulprit : Grammar → Type 0
SomeCulprit g = (p : ℕ) × (p < g.productions) × Culprit g p

-- the cycle starts at the root's own rule, or it lies inside a child's tree
pub culprit_by_split : (g : Grammar) (text : ℕ → List Segment) → Limits g text → (s n p : ℕ) (l : ℤ) (a b c : Tree) → TreeOf g s (node n p l a b c)
    → ((k : ℕ) (y : Instance) → Over (Waits g (hanging (node n p l a b c) k)) y y → SomeCulprit g) → (x : Instance) → Split g (node n p l a b c) x x → SomeCulprit g
culprit_by_split g text lim s n p l a b c h deeper x (by_own u v w before after) = (
  p,
  h.0,
  record {
    symbol = g.symbol p;
    tree = node n p l a b c;
    symbol_exists = (lim.each p h.0).symbol_exists;
    is_tree = (h.0, refl, h.2, h.3, h.4);
    rooted = refl;
    from = u;
    to = v;
    own_rule = w;
    back = star_trans after before;
  },
)
culprit_by_split g text lim s n p l a b c h deeper x (all_inside k x' y' e e' inner) =
    deeper k x' (subst (λ y. Over (Waits g (hanging (node n p l a b c) k)) x' y) (same_below y' x' k k (sym e' ∙ e)) inner)

-- nothing cycles in no tree
pub none_cycles : (g : Grammar) {x y : Instance} → Over (Waits g none) x y → ⊥
none_cycles g (one w) = none_waits g none refl w
none_cycles g (then o w) = none_waits g none refl w

-- what holds for the three trees that hang at a node holds for that at any child place
pub at_each_place : (g : Grammar) (n p : ℕ) (l : ℤ) (a b c : Tree) (C : Type 0)
    → ((y : Instance) → Over (Waits g a) y y → C) → ((y : Instance) → Over (Waits g b) y y → C) → ((y : Instance) → Over (Waits g c) y y → C)
    → (k : ℕ) (y : Instance) → Over (Waits g (hanging (node n p l a b c) k)) y y → C
at_each_place g n p l a b c C in_first in_second in-third zero y o = in_first y o
at_each_place g n p l a b c C in_first in_second in-third (suc zero) y o = in_second y o
at_each_place g n p l a b c C in_first in_second in-third (suc (suc zero)) y o = in-third y o
at_each_place g n p l a b c C in_first in_second in-third (suc (suc (suc k))) y o = absurd (none_cycles g o)

-- a cycle in a tree goes through an own rule of the root of some tree
pub cycle_at_some_node : (g : Grammar) (text : ℕ → List Segment) → Limits g text → (s : ℕ) (t : Tree) → TreeOf g s t → (x : Instance) → Over (Waits g t) x x → SomeCulprit g
cycle_at_some_node g text lim s none h x o = absurd (none_cycles g o)
cycle_at_some_node g text lim s (node n p l a b c) h x o =
    culprit_by_split g text lim s n p l a b c h
    (at_each_place g n p l a b c (SomeCulprit g)
    (λ y r. cycle_at_some_node g text lim (child g p 0) a h.2 y r)
    (λ y r. cycle_at_some_node g text lim (child g p 1) b h.3 y r)
    (λ y r. cycle_at_some_node g text lim (child g p 2) c h.4 y r))
    x (split g (node n p l a b c) x o)

pub circular_has_culprit : (g : Grammar) (text : ℕ → List Segment) → Limits g text → Circular g → SomeCulprit g
circular_has_culprit g text lim c = cycle_at_some_node g text lim c.0 c.1 c.4 c.2 c.5

pub culprit_is_circular : (g : Grammar) (p : ℕ) → Culprit g p → Circular g
culprit_is_circular g p c = (c.symbol, c.tree, c.from, c.symbol_exists, c.is_tree, then_star (one (Waits.own c.own_rule)) c.back)
