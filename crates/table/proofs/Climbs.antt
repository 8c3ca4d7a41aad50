-- The climb from a node: it ends at one node only, and has fewer steps than there are nodes.
use Rattle.std.proofs.Common.{◌≡◌, ℕ, zero, suc, ◌+◌, ◌<◌, ◌≤◌, List, length, sym, refl, ◌∙◌, subst, arith}
use Rattle.circularity.proofs.Unique.{pigeonhole}
use Rattle.table.specs.declared.node.Node.{Node}
use Rattle.table.specs.Nodes.{none, at, Used}
use Rattle.table.specs.Climbing.{Climb, ends, goes_on}

-- every node on a climb is in use, the first too
pub climb_used : (ns : List Node) (r n : ℕ) → Climb ns r n → Used ns n
climb_used ns r n (ends u p e) = u
climb_used ns r n (goes_on m u p c) = u

-- how many steps a climb takes
abbrev pub steps : (ns : List Node) (r n : ℕ) → Climb ns r n → ℕ
steps ns r n (ends u p e) = 0
steps ns r n (goes_on m u p c) = suc (steps ns r m c)

-- the climb goes on, in j steps, to node m
abbrev pub After : (ns : List Node) (r n : ℕ) → Climb ns r n → ℕ → ℕ → Type 0
After ns r n c j m = (d : Climb ns r m) × (steps ns r n c ≡ j + steps ns r m d)

-- a climb of at least j steps goes on, in j steps, to some node
pub after : (ns : List Node) (r n : ℕ) (c : Climb ns r n) (j : ℕ) → j ≤ steps ns r n c → (m : ℕ) × After ns r n c j m
after ns r n c zero h = (n, (c, omega arith))
after ns r n (ends u p e) (suc j) h = absurd (omega arith)
after ns r n (goes_on m u p c) (suc j) h = let (k, (d, e)) = after ns r m c j (omega arith) in (k, (d, omega arith))

-- the number that stands for no node is no node of the table
module _ (ns : List Node) (few : length ns ≤ none) where
  -- a climb that ends here goes nowhere
  pub never_both : (r n m : ℕ) → (at ns n).parent ≡ none → (at ns n).parent ≡ m → Climb ns r m → ⊥
  never_both r n m p q c = let u = climb_used ns r m c in let e : m ≡ none = sym q ∙ p in omega arith

  -- The climb from a node ends at one node only.
  pub climb_unique : (r s n : ℕ) → Climb ns r n → Climb ns s n → r ≡ s
  climb_unique r s n (ends u p e) (ends u' p' e') = e ∙ sym e'
  climb_unique r s n (ends u p e) (goes_on m u' p' c) = absurd (never_both s n m p p' c)
  climb_unique r s n (goes_on m u p c) (ends u' p' e') = absurd (never_both r n m p' p c)
  climb_unique r s n (goes_on m u p c) (goes_on m' u' p' c') = climb_unique r s m c (subst (λ (k : ℕ). Climb ns s k) (sym p' ∙ p) c')

  -- and always takes the same steps
  pub steps_unique : (r s n m : ℕ) (c : Climb ns r n) (d : Climb ns s m) → n ≡ m → steps ns r n c ≡ steps ns s m d
  steps_unique r s n m (ends u p e) (ends u' p' e') q = refl
  steps_unique r s n m (ends u p e) (goes_on k u' p' d) q = absurd (never_both s m k (subst (λ (i : ℕ). (at ns i).parent ≡ none) q p) p' d)
  steps_unique r s n m (goes_on k u p c) (ends u' p' e') q = absurd (never_both r n k (subst (λ (i : ℕ). (at ns i).parent ≡ none) (sym q) p') p c)
  steps_unique r s n m (goes_on k u p c) (goes_on k' u' p' d) q =
      let h : steps ns r k c ≡ steps ns s k' d = steps_unique r s k k' c d (sym (subst (λ (i : ℕ). (at ns i).parent ≡ k) q p) ∙ p') in
      omega arith

  -- A climb has fewer steps than there are nodes: no two of the nodes on it are the same.
  pub climb_short : (r n : ℕ) (c : Climb ns r n) → steps ns r n c < length ns
  climb_short r n c =
      pigeonhole (suc (steps ns r n c)) (length ns) (After ns r n c)
      (λ i j m lt lt' x y. let h = steps_unique r r m m x.0 y.0 refl in omega arith)
      (λ i lt. let (m, a) = after ns r n c i (omega arith) in (m, (climb_used ns r m a.0).0, a))

-- i steps from node n lead to node m, and the climb from n is the one from m with these before it
pub record Walked (ns : List Node) (n i m : ℕ) : Type 0 where
  pub back : (r : ℕ) → Climb ns r m → Climb ns r n
  pub on : (r : ℕ) (c : Climb ns r n) → After ns r n c i m

module _ (ns : List Node) (n : ℕ) where
  pub walked_start : Walked ns n 0 n
  walked_start = record { back = λ r c. c; on = λ r c. (c, omega arith) }

  up_one : (r m : ℕ) (d : Climb ns r m) → ((at ns m).parent ≡ none → ⊥) → After ns r m d 1 (at ns m).parent
  up_one r m (ends u p e) further = absurd (further p)
  up_one r m (goes_on k u p d) further =
      let P : ℕ → Type 0 = λ i. (e : Climb ns r i) × (steps ns r m (goes_on k u p d) ≡ 1 + steps ns r i e) in
      subst P (sym p) (d, omega arith)

  pub walked_on : (i m : ℕ) → Walked ns n i m → Used ns m → ((at ns m).parent ≡ none → ⊥) → Walked ns n (i + 1) (at ns m).parent
  walked_on i m w u further = record {
    back = λ r c. w.back r (goes_on (at ns m).parent u refl c);
    on = λ r c. let (d, e) = w.on r c in let (d', e') = up_one r m d further in (d', omega arith);
  }

  pub walked_ends : (i m : ℕ) → Walked ns n i m → Used ns m → (at ns m).parent ≡ none → Climb ns m n
  walked_ends i m w u p = w.back m (ends u p refl)

  pub walked_lost : (i m : ℕ) → Walked ns n i m → (Used ns m → ⊥) → (r : ℕ) → Climb ns r n → ⊥
  walked_lost i m w lost r c = lost (climb_used ns r m (w.on r c).0)

  pub walked_out : (i m : ℕ) → Walked ns n i m → length ns ≤ none → length ns ≤ i → (r : ℕ) → Climb ns r n → ⊥
  walked_out i m w few all r c = let short = climb_short ns few r n c in let (d, e) = w.on r c in omega arith

-- what a bounded climb finds out, step by step
pub ruleset walks = (walked_start, walked_on, walked_ends, walked_lost, walked_out)
