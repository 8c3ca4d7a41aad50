-- The children of a node as the test asks for them.
use Rattle.std.proofs.Common.{◌≡◌, ℕ, ◌<◌, ◌≤◌, Bool, true, false, List, length, get_or, MatchBool, ap, ◌∙◌, subst, arith}
use Rattle.std.proofs.lemmas.List.{get_or_default}
use Rattle.std.proofs.lemmas.Slice.Zip.{length-zip, get_or-zip}
use Rattle.std.specs.List.{zip, AllWithin, HoldsAt}
use Rattle.grammar.specs.Grammar.{Grammar, child}
use Rattle.grammar.specs.Text.{Segment}
use Rattle.grammar.specs.Limits.{Limits}
use Rattle.table.specs.declared.node.Node.{Node}
use Rattle.table.specs.Nodes.{at, child_field}
use Rattle.table.specs.Testing.{ChildOf, ChildrenFit}

-- a production that exists has at most three children
pub few_children : (g : Grammar) (text : ℕ → List Segment) → Limits g text → (p : ℕ) → p < g.productions → (cs : List ℕ) → cs ≡ g.children p → length cs ≤ 3
few_children g text limits p exists cs e = rw e (limits.each p exists).few_children

-- The child fields of node n beside the symbols that its production has there.
module _ (g : Grammar) (ns : List Node) (n : ℕ) where
  abbrev pub pairs : List (ℕ × ℕ)
  pairs = zip (at ns n).children (g.children (at ns n).production)

  -- a field names a child of its symbol
  abbrev pub Fits : ℕ × ℕ → Type 0
  Fits p = ChildOf g ns n p.0 p.1

  -- what a test of all pairs tells
  pub fit_by_pairs : length (at ns n).children ≡ 3 → length (g.children (at ns n).production) ≤ 3 → (b : Bool)
      → MatchBool b (AllWithin Fits pairs 0 (length pairs)) ((k : ℕ) × (k < length pairs) × HoldsAt (λ p. Fits p → ⊥) pairs k)
      → MatchBool b (ChildrenFit g ns n) (ChildrenFit g ns n → ⊥)
  fit_by_pairs three few = told
    where
      symbols : List ℕ
      symbols = g.children (at ns n).production

      many : length pairs ≡ length symbols
      many = omega (arith, length-zip (at ns n).children symbols)

      pair : (k : ℕ) (d : ℕ × ℕ) → k < length symbols → get_or pairs k d ≡ (child_field (at ns n) k, child g (at ns n).production k)
      pair k d h =
          get_or-zip (at ns n).children symbols k d (omega arith) h
          ∙ ap (λ x. (x, get_or symbols k d.1)) (get_or_default (at ns n).children k d.0 0 (omega arith))
          ∙ ap (λ x. (child_field (at ns n) k, x)) (get_or_default symbols k d.1 g.symbols h)

      told : (b : Bool) → MatchBool b (AllWithin Fits pairs 0 (length pairs)) ((k : ℕ) × (k < length pairs) × HoldsAt (λ p. Fits p → ⊥) pairs k)
          → MatchBool b (ChildrenFit g ns n) (ChildrenFit g ns n → ⊥)
      told true all = λ k h.
          let fits = subst Fits (pair k (0, 0) h) (all k (0, 0) (omega arith) (omega (arith, many))) in
          record { used = fits.used; symbol = fits.of_symbol; parent = fits.parent }
      told false (k, l, misfit) = λ fit.
          let h : k < length symbols = omega (arith, many) in
          let child_at = fit k h in
          subst (λ p. Fits p → ⊥) (pair k (0, 0) h) (misfit (0, 0)) (record { used = child_at.used; of_symbol = child_at.symbol; parent = child_at.parent })
