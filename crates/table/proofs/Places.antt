-- Trees by their child places: induction over all places at once, and the numbers of a tree by where they stand.
use Rattle.std.proofs.Common.{◌≡◌, ℕ, zero, suc, ◌<◌, ◌⊎◌, List, [], ◌∷◌, ◌++◌, ℤ, refl, inl, inr, arith}
use Rattle.grammar.specs.Tree.{Tree, none, node, hanging}
use Rattle.table.specs.declared.node.Node.{Node}
use Rattle.table.specs.Nodes.{at, child_field, Used}
use Rattle.table.specs.Nodes
use Rattle.table.specs.Represents.{Represents, numbers, In, Distinct}

pub tree_induction : (P : Tree → Type 0) → P none → ((n p : ℕ) (l : ℤ) (a b c : Tree) → ((k : ℕ) → P (hanging (node n p l a b c) k)) → P (node n p l a b c)) → (t : Tree) → P t
tree_induction P base step none = base
tree_induction P base step (node n p l a b c) = step n p l a b c (each (tree_induction P base step a) (tree_induction P base step b) (tree_induction P base step c))
  where
    each : P a → P b → P c → (k : ℕ) → P (hanging (node n p l a b c) k)
    each x y z zero = x
    each x y z (suc zero) = y
    each x y z (suc (suc zero)) = z
    each x y z (suc (suc (suc k))) = base

-- what hangs at a child place is the tree of the child field
pub represented_at : (ns : List Node) (n m p : ℕ) (l : ℤ) (a b c : Tree) → Represents ns n (node m p l a b c) → (k : ℕ) → k < 3 → Represents ns (child_field (at ns n) k) (hanging (node m p l a b c) k)
represented_at ns n m p l a b c r zero h = r.4
represented_at ns n m p l a b c r (suc zero) h = r.5
represented_at ns n m p l a b c r (suc (suc zero)) h = r.6
represented_at ns n m p l a b c r (suc (suc (suc k))) h = absurd (omega arith)

-- a number among those of two lists
pub in_first : (x : ℕ) (xs ys : List ℕ) → In x xs → In x (xs ++ ys)
in_first x [] ys i = absurd i
in_first x (y ∷ xs) ys (inl e) = inl e
in_first x (y ∷ xs) ys (inr i) = inr (in_first x xs ys i)

pub in_second : (x : ℕ) (xs ys : List ℕ) → In x ys → In x (xs ++ ys)
in_second x [] ys i = i
in_second x (y ∷ xs) ys i = inr (in_second x xs ys i)

pub in_either : (x : ℕ) (xs ys : List ℕ) → In x (xs ++ ys) → In x xs ⊎ In x ys
in_either x [] ys i = inr i
in_either x (y ∷ xs) ys (inl e) = inl (inl e)
in_either x (y ∷ xs) ys (inr i) = elim (in_either x xs ys i) [ inl j ↦ inl (inr j) | inr j ↦ inr j ]

-- a number of one of three lists, by the list's place
pub in_place : (x : ℕ) (f : Tree → List ℕ) (n p : ℕ) (l : ℤ) (a b c : Tree) → In x (f a ++ (f b ++ f c)) → (k : ℕ) × (k < 3) × In x (f (hanging (node n p l a b c) k))
in_place x f n p l a b c i = elim (in_either x (f a) (f b ++ f c) i) [
  | inl j ↦ (0, omega arith, j)
  | inr j ↦ elim (in_either x (f b) (f c) j) [ inl k ↦ (1, omega arith, k) | inr k ↦ (2, omega arith, k) ]
]

pub at_place : (x : ℕ) (f : Tree → List ℕ) (n p : ℕ) (l : ℤ) (a b c : Tree) (k : ℕ) → k < 3 → In x (f (hanging (node n p l a b c) k)) → In x (f a ++ (f b ++ f c))
at_place x f n p l a b c zero h i = in_first x (f a) (f b ++ f c) i
at_place x f n p l a b c (suc zero) h i = in_second x (f a) (f b ++ f c) (in_first x (f b) (f c) i)
at_place x f n p l a b c (suc (suc zero)) h i = in_second x (f a) (f b ++ f c) (in_second x (f b) (f c) i)
at_place x f n p l a b c (suc (suc (suc k))) h i = absurd (omega arith)

pub distinct_joined : (xs ys : List ℕ) → Distinct xs → Distinct ys → ((x : ℕ) → In x xs → In x ys → ⊥) → Distinct (xs ++ ys)
distinct_joined [] ys d e apart = e
distinct_joined (x ∷ xs) ys d e apart =
    (λ i. elim (in_either x xs ys i) [ inl j ↦ d.0 j | inr j ↦ apart x (inl refl) j ], distinct_joined xs ys d.1 e (λ y i j. apart y (inr i) j))

-- a node's number is among those of the tree under it, and a node with such a tree is in use
pub root_in : (ns : List Node) (n : ℕ) (t : Tree) → (n ≡ Nodes.none → ⊥) → Represents ns n t → In n (numbers t)
root_in ns n none u r = absurd (u r)
root_in ns n (node m p l a b c) u r = inl (cc r.0)

pub root_used : (ns : List Node) (n x : ℕ) (t : Tree) → Represents ns n t → In x (numbers t) → Used ns n
root_used ns n x none r i = absurd i
root_used ns n x (node m p l a b c) r i = r.1
