-- Which figures of a tree wait on which: each waits on the arguments of its rule.
use Rattle.std.specs.Prelude.{◌≡◌, ℕ, zero, suc, List, [], ◌∷◌}
use Rattle.grammar.specs.declared.language.Occurrence.{Occurrence}
use Rattle.grammar.specs.Grammar.{Grammar, Given, Among, arguments}
use Rattle.grammar.specs.Tree.{Tree, none, node, hanging}

-- One figure of a tree: the way from the root to its node, as child places counted from 0, and the attribute.
pub record Instance : Type 0 where
  pub path : List ℕ
  pub attribute : ℕ

abbrev pub instance : List ℕ → ℕ → Instance
instance path a = record { path = path; attribute = a }

-- the same figure, seen from the parent at whose child place k the tree hangs
abbrev pub under : ℕ → Instance → Instance
under k x = instance (k ∷ x.path) x.attribute

-- the figure that attribute a at place i of the root's production is
abbrev pub at_root : ℕ → ℕ → Instance
at_root zero a = instance [] a
at_root (suc k) a = instance (k ∷ []) a

-- A production's own rule lets figure x wait on figure y: it gives x, and y is one of its arguments.
pub record WaitsBy (g : Grammar) (p : ℕ) (x y : Instance) : Type 0 where
  pub place : ℕ
  pub attribute : ℕ
  pub argument : Occurrence
  pub given : Given g p place attribute
  pub among : Among argument (arguments g p place attribute)
  pub x_is : x ≡ at_root place attribute
  pub y_is : y ≡ at_root argument.place argument.attribute

-- x waits on y by a rule that the tree's root holds
abbrev pub WaitsAtRoot : Grammar → Tree → Instance → Instance → Type 0
WaitsAtRoot g none x y = ⊥
WaitsAtRoot g (node n p l a b c) x y = WaitsBy g p x y

-- x waits on y by one rule: the root holds it, or it is held inside the tree at a child place
pub data Waits (g : Grammar) : Tree → Instance → Instance → Type 0 where
  own : {t : Tree} {x y : Instance} → WaitsAtRoot g t x y → Waits g t x y
  inside : {t : Tree} {x y : Instance} (k : ℕ) (x' y' : Instance) → Waits g (hanging t k) x' y' → x ≡ under k x' → y ≡ under k y' → Waits g t x y

-- over one or more steps of a relation
pub data Over {A : Type 0} (R : A → A → Type 0) (x : A) : A → Type 0 where
  one : {y : A} → R x y → Over R x y
  then : {y z : A} → Over R x y → R y z → Over R x z
