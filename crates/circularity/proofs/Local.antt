-- The graph of one production: its own rules, and the relations of the trees at its children's places, given as any relation.
-- With it the general facts on ways of one or more steps.
use Rattle.std.proofs.Common.{◌≡◌, ℕ, ◌<◌, ◌≤◌, ◌⊎◌, [], ◌∷◌, length, inl, inr}
use Rattle.grammar.specs.Grammar.{Grammar, attributes, child}
use Rattle.grammar.specs.Tree.{Tree, hanging}
use Rattle.grammar.specs.Dependence.{Instance, instance, WaitsBy, Over, one, then}
use Rattle.grammar.specs.Circularity.{Related}

-- One step between figures of a production: its own rule, or a pair of the relation at a child's place.
-- R k b a says that the tree at child place k (from 0) has the pair of the inherited attribute b and the synthesized attribute a.
pub data LocalStep (g : Grammar) (p : ℕ) (R : ℕ → ℕ → ℕ → Type 0) : Instance → Instance → Type 0 where
  own : {x y : Instance} → WaitsBy g p x y → LocalStep g p R x y
  via : {x y : Instance} (k b a : ℕ) → k < length (g.children p) → b < g.inherited (child g p k) → g.inherited (child g p k) ≤ a → a < attributes g (child g p k) → R k b a → x ≡ instance (k ∷ []) a → y ≡ instance (k ∷ []) b → LocalStep g p R x y

-- R has exactly the pairs that the trees at the children's places of t have.
pub record Exact (g : Grammar) (p : ℕ) (R : ℕ → ℕ → ℕ → Type 0) (t : Tree) : Type 0 where
  pub sound : (k b a : ℕ) → k < length (g.children p) → b < g.inherited (child g p k) → g.inherited (child g p k) ≤ a → a < attributes g (child g p k) → R k b a → Related g (hanging t k) b a
  pub complete : (k b a : ℕ) → k < length (g.children p) → b < g.inherited (child g p k) → g.inherited (child g p k) ≤ a → a < attributes g (child g p k) → Related g (hanging t k) b a → R k b a

-- over no step, or one or more
abbrev pub Star : {A : Type 0} → (A → A → Type 0) → A → A → Type 0
Star R x y = (x ≡ y) ⊎ Over R x y

module _ {A : Type 0} {R : A → A → Type 0} where
  pub over_trans : {x y z : A} → Over R x y → Over R y z → Over R x z
  over_trans o (one r) = then o r
  over_trans o (then o' r) = then (over_trans o o') r

  -- the first step of a way, and the rest of it where there is more
  pub first_step : {x z : A} → Over R x z → R x z ⊎ ((y : A) × R x y × Over R y z)
  first_step (one r) = inl r
  first_step (then {y = u} o r) = elim (first_step o) [ inl f ↦ inr (u, f, one r) | inr m ↦ inr (m.0, m.1, then m.2 r) ]

  pub star_then : {x y z : A} → Star R x y → R y z → Over R x z
  star_then {x} {y} {z} (inl e) r = one (rw e r)
  star_then (inr o) r = then o r

  pub then_star : {x y z : A} → Over R x y → Star R y z → Over R x z
  then_star o (inl e) = rw e at o
  then_star o (inr o') = over_trans o o'

  pub star_trans : {x y z : A} → Star R x y → Star R y z → Star R x z
  star_trans {x} {y} {z} (inl e) s = rw e s
  star_trans (inr o) s = inr (then_star o s)

-- a function takes a way of R to a way of S, if it takes each step of R to one of S
pub over_map : {A B : Type 0} {R : A → A → Type 0} {S : B → B → Type 0} (f : A → B) → ((x y : A) → R x y → S (f x) (f y)) → (x : A) {y : A} → Over R x y → Over S (f x) (f y)
over_map f h x (one {y = y} r) = one (h x y r)
over_map f h x (then {y = y} {z = z} o r) = then (over_map f h x o) (h y z r)
