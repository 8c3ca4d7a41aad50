-- Replacing one subtree of a tree: how it computes, which numbers stand around the subtree, and the records that have the new tree.
use Rattle.std.proofs.Common.{◌≡◌, ℕ, ◌<◌, Bool, true, false, eqb, ◌⊎◌, List, [], ◌∷◌, ◌++◌, ℤ, sym, refl, ◌∙◌, subst, inl, inr, arith}
use Rattle.std.proofs.lemmas.Bool.Decides.{eqb_tells}
pub use Rattle.std.proofs.lemmas.Bool.Decides.{eqb_tells as equal_or_not}
use Rattle.grammar.specs.Tree.{Tree, none, node, hanging}
use Rattle.table.specs.declared.node.Node.{Node}
use Rattle.table.specs.Nodes.{at, child_field, Used}
use Rattle.table.specs.Nodes
use Rattle.table.specs.Represents.{Represents, numbers, In, replace}
use Rattle.table.proofs.Places.{tree_induction, represented_at, in_place, at_place}

-- the numbers of a tree around the subtree whose root has number m
abbrev pub around : ℕ → Tree → List ℕ
around m none = []
around m (node n p l a b c) = elim (eqb n m) [ true ↦ [] | false ↦ n ∷ (around m a ++ (around m b ++ around m c)) ]

-- a field that names m names m' instead
abbrev pub redirect : ℕ → ℕ → ℕ → ℕ
redirect m m' field = elim (eqb field m) [ true ↦ m' | false ↦ field ]

-- Node x is in use after, with the production and the literal that it had, and its child fields name m' where they named m, and else what they named.
pub record Relinked (ns ns' : List Node) (m m' x : ℕ) : Type 0 where
  pub used : Used ns' x
  pub production : (at ns' x).production ≡ (at ns x).production
  pub literal : (at ns' x).literal ≡ (at ns x).literal
  pub children : (k : ℕ) → k < 3 → child_field (at ns' x) k ≡ redirect m m' (child_field (at ns x) k)

-- a choice by a test whose answer is known
chosen : {A : Type 0} (b : Bool) (x y : A) → b ≡ true → elim b [ true ↦ x | false ↦ y ] ≡ x
chosen {A} b x y e = subst (λ (z : Bool). ◌≡◌ {A = A} (elim z [ true ↦ x | false ↦ y ]) x) (sym e) refl

not_chosen : {A : Type 0} (b : Bool) (x y : A) → b ≡ false → elim b [ true ↦ x | false ↦ y ] ≡ y
not_chosen {A} b x y e = subst (λ (z : Bool). ◌≡◌ {A = A} (elim z [ true ↦ x | false ↦ y ]) y) (sym e) refl

pub redirect_same : (m m' field : ℕ) → field ≡ m → redirect m m' field ≡ m'
redirect_same m m' field e = elim (eqb_tells field m) [ inl h ↦ chosen (eqb field m) m' field h.0 | inr h ↦ absurd (h.1 e) ]

pub redirect_other : (m m' field : ℕ) → (field ≡ m → ⊥) → redirect m m' field ≡ field
redirect_other m m' field e = elim (eqb_tells field m) [ inl h ↦ absurd (e h.1) | inr h ↦ not_chosen (eqb field m) m' field h.0 ]

pub redirect_itself : (m field : ℕ) → redirect m m field ≡ field
redirect_itself m field = elim (eqb_tells field m) [ inl h ↦ redirect_same m m field h.1 ∙ sym h.1 | inr h ↦ redirect_other m m field h.1 ]

module _ (m : ℕ) (n p : ℕ) (l : ℤ) (a b c : Tree) where
  -- at the root, and elsewhere
  pub replace_here : (u : Tree) → eqb n m ≡ true → replace m u (node n p l a b c) ≡ u
  replace_here u e = chosen (eqb n m) u (node n p l (replace m u a) (replace m u b) (replace m u c)) e

  pub replace_there : (u : Tree) → eqb n m ≡ false → replace m u (node n p l a b c) ≡ node n p l (replace m u a) (replace m u b) (replace m u c)
  replace_there u e = not_chosen (eqb n m) u (node n p l (replace m u a) (replace m u b) (replace m u c)) e

  pub around_here : eqb n m ≡ true → around m (node n p l a b c) ≡ []
  around_here e = chosen (eqb n m) [] (n ∷ (around m a ++ (around m b ++ around m c))) e

  pub around_there : eqb n m ≡ false → around m (node n p l a b c) ≡ n ∷ (around m a ++ (around m b ++ around m c))
  around_there e = not_chosen (eqb n m) [] (n ∷ (around m a ++ (around m b ++ around m c))) e

-- the numbers around a subtree are numbers of the tree
pub around_in : (x m : ℕ) (t : Tree) → In x (around m t) → In x (numbers t)
around_in x m = tree_induction (λ t. In x (around m t) → In x (numbers t)) (λ i. i)
    (λ n p l a b c again i. elim (eqb_tells n m) [
      | inl h ↦ absurd (subst (λ (xs : List ℕ). In x xs) (around_here m n p l a b c h.0) i)
      | inr h ↦
          let cases : (x ≡ n) ⊎ In x (around m a ++ (around m b ++ around m c)) = subst (λ (xs : List ℕ). In x xs) (around_there m n p l a b c h.0) i in
          elim cases [
            | inl e ↦ inl e
            | inr j ↦ let at_k = in_place x (around m) n p l a b c j in inr (at_place x numbers n p l a b c at_k.0 at_k.1 (again at_k.0 at_k.2))
          ]
    ])

-- the numbers of the new tree are those around the subtree and those of what replaced it
pub replaced_numbers : (x m : ℕ) (u t : Tree) → In x (numbers (replace m u t)) → In x (around m t) ⊎ In x (numbers u)
replaced_numbers x m u = tree_induction (λ t. In x (numbers (replace m u t)) → In x (around m t) ⊎ In x (numbers u)) (λ i. inl i)
    (λ n p l a b c again i. elim (eqb_tells n m) [
      | inl h ↦ inr (subst (λ (s : Tree). In x (numbers s)) (replace_here m n p l a b c u h.0) i)
      | inr h ↦
          let cases : (x ≡ n) ⊎ In x (numbers (replace m u a) ++ (numbers (replace m u b) ++ numbers (replace m u c))) = subst (λ (s : Tree). In x (numbers s)) (replace_there m n p l a b c u h.0) i in
          subst (λ (xs : List ℕ). In x xs ⊎ In x (numbers u)) (sym (around_there m n p l a b c h.0)) (elim cases [
            | inl e ↦ inl (inl e)
            | inr j ↦
                let at_k = in_place x (λ s. numbers (replace m u s)) n p l a b c j in
                elim (again at_k.0 at_k.2) [ inl q ↦ inl (inr (at_place x (around m) n p l a b c at_k.0 at_k.1 q)) | inr q ↦ inr q ]
          ])
    ])

pub around_stays : (x m : ℕ) (u t : Tree) → In x (around m t) → In x (numbers (replace m u t))
around_stays x m u = tree_induction (λ t. In x (around m t) → In x (numbers (replace m u t))) (λ i. i)
    (λ n p l a b c again i. elim (eqb_tells n m) [
      | inl h ↦ absurd (subst (λ (xs : List ℕ). In x xs) (around_here m n p l a b c h.0) i)
      | inr h ↦
          let cases : (x ≡ n) ⊎ In x (around m a ++ (around m b ++ around m c)) = subst (λ (xs : List ℕ). In x xs) (around_there m n p l a b c h.0) i in
          subst (λ (s : Tree). In x (numbers s)) (sym (replace_there m n p l a b c u h.0)) (elim cases [
            | inl e ↦ inl e
            | inr j ↦
                let at_k = in_place x (around m) n p l a b c j in
                inr (at_place x (λ s. numbers (replace m u s)) n p l a b c at_k.0 at_k.1 (again at_k.0 at_k.2))
          ])
    ])

pub replacement_in : (x m : ℕ) (u : Tree) → In x (numbers u) → (t : Tree) → In m (numbers t) → In x (numbers (replace m u t))
replacement_in x m u w = tree_induction (λ t. In m (numbers t) → In x (numbers (replace m u t))) (λ i. i)
    (λ n p l a b c again i. elim (eqb_tells n m) [
      | inl h ↦ subst (λ (s : Tree). In x (numbers s)) (sym (replace_here m n p l a b c u h.0)) w
      | inr h ↦ subst (λ (s : Tree). In x (numbers s)) (sym (replace_there m n p l a b c u h.0)) (elim i [
        | inl e ↦ absurd (h.1 (sym e))
        | inr j ↦
            let at_k = in_place m numbers n p l a b c j in
            inr (at_place x (λ s. numbers (replace m u s)) n p l a b c at_k.0 at_k.1 (again at_k.0 at_k.2))
      ])
    ])

-- where no number is m, nothing is replaced
pub replace_absent : (m : ℕ) (u t : Tree) → (In m (numbers t) → ⊥) → replace m u t ≡ t
replace_absent m u none absent = refl
replace_absent m u (node n p l a b c) absent =
    let first : replace m u a ≡ a = replace_absent m u a (λ i. absent (inr (at_place m numbers n p l a b c 0 (omega arith) i))) in
    let second : replace m u b ≡ b = replace_absent m u b (λ i. absent (inr (at_place m numbers n p l a b c 1 (omega arith) i))) in
    let third : replace m u c ≡ c = replace_absent m u c (λ i. absent (inr (at_place m numbers n p l a b c 2 (omega arith) i))) in
    elim (eqb_tells n m) [ inl h ↦ absurd (absent (inl (sym h.1))) | inr h ↦ replace_there m n p l a b c u h.0 ∙ cc ]

-- The records after have the replaced tree, where they have u under m' and each node around m's subtree is relinked from m to m'.
pub replaced : (ns ns' : List Node) (m m' : ℕ) (u : Tree) → (m ≡ Nodes.none → ⊥) → Represents ns' m' u → (t : Tree) (n : ℕ) → Represents ns n t → ((x : ℕ) → In x (around m t) → Relinked ns ns' m m' x) → Represents ns' (redirect m m' n) (replace m u t)
replaced ns ns' m m' u some new = tree_induction (λ t. (n : ℕ) → Represents ns n t → ((x : ℕ) → In x (around m t) → Relinked ns ns' m m' x) → Represents ns' (redirect m m' n) (replace m u t))
    (λ n r relinked. redirect_other m m' n (λ e. some (sym e ∙ r)) ∙ r)
    (λ i p l a b c again n r relinked. elim (eqb_tells i m) [
      | inl h ↦ both (redirect_same m m' n (sym r.0 ∙ h.1)) (replace_here m i p l a b c u h.0) new
      | inr h ↦
          let inside : (x : ℕ) → (x ≡ i) ⊎ In x (around m a ++ (around m b ++ around m c)) → Relinked ns ns' m m' x = λ x q. relinked x (subst (λ (xs : List ℕ). In x xs) (sym (around_there m i p l a b c h.0)) q) in
          let here : Relinked ns ns' m m' n = inside n (inl (sym r.0)) in
          let place : (k : ℕ) → k < 3 → Represents ns' (child_field (at ns' n) k) (replace m u (hanging (node i p l a b c) k)) =
          λ k less. subst (λ (j : ℕ). Represents ns' j (replace m u (hanging (node i p l a b c) k))) (sym (here.children k less))
          (again k (child_field (at ns n) k) (represented_at ns n i p l a b c r k less) (λ x q. inside x (inr (at_place x (around m) i p l a b c k less q)))) in
          both (redirect_other m m' n (λ e. h.1 (r.0 ∙ e))) (replace_there m i p l a b c u h.0)
          (r.0, here.used, here.production ∙ r.2, here.literal ∙ r.3, place 0 (omega arith), place 1 (omega arith), place 2 (omega arith))
    ])
  where
    both : {i j : ℕ} {s t : Tree} → i ≡ j → s ≡ t → Represents ns' j t → Represents ns' i s
    both {i} {j} {s} {t} e f r = subst (λ (k : ℕ). Represents ns' k s) (sym e) (subst (λ (z : Tree). Represents ns' j z) (sym f) r)
