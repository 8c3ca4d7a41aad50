-- Which roots are holes after a root was hung in a node's place.
use Rattle.std.proofs.Common.{◌≡◌, ℕ, ◌≤◌, List, length, sym, ◌∙◌, subst, inl, inr, arith}
use Rattle.grammar.specs.Grammar.{Grammar}
use Rattle.table.specs.declared.node.Node.{Node}
use Rattle.table.specs.Nodes.{none, at, Used}
use Rattle.table.specs.Sheets.{Hole}
use Rattle.table.proofs.Reading.{never_none}
use Rattle.table.proofs.Replaced.{equal_or_not}
use Rattle.edit.proofs.Forest.{NoHoleRoots}
use Rattle.edit.proofs.Swapping.{Swapped}

module _ (g : Grammar) (ns ns' : List Node) (few : length ns ≤ 1000) (r n q k : ℕ) (parent_used : Used ns q) (swapped : Swapped r n q k ns ns') where
  used_before : (x : ℕ) → Used ns' x → Used ns x
  used_before x u = (omega (arith, u.0, swapped.many), sym (swapped.used x) ∙ u.1)

  -- No root after but the node is one that was none before; the hung root is none any more.
  pub no_other_hole_roots : ((x : ℕ) → Used ns x → (x ≡ 0 → ⊥) → (x ≡ r → ⊥) → (at ns x).parent ≡ none → Hole g (at ns x).production → ⊥) → (x : ℕ) → Used ns' x → (x ≡ 0 → ⊥) → (x ≡ n → ⊥) → (at ns' x).parent ≡ none → Hole g (at ns' x).production → ⊥
  no_other_hole_roots before x u other no_Node p hole = elim (equal_or_not x r) [
    | inl a ↦ never_none ns few q parent_used (sym swapped.parent_r ∙ subst (λ (i : ℕ). (at ns' i).parent ≡ none) a.1 p)
    | inr a ↦ before x (used_before x u) other a.1 (sym (swapped.parent_other x a.1 no_Node) ∙ p) (subst (λ (i : ℕ). Hole g i) (swapped.production x) hole)
  ]

  -- The node is a root after too.
  pub no_hole_roots : ((x : ℕ) → Used ns x → (x ≡ 0 → ⊥) → (x ≡ r → ⊥) → (at ns x).parent ≡ none → Hole g (at ns x).production → ⊥) → (Hole g (at ns n).production → ⊥) → NoHoleRoots g ns'
  no_hole_roots before no-hole x u other p hole = elim (equal_or_not x n) [
    | inl b ↦ no-hole (subst (λ (i : ℕ). Hole g (at ns i).production) b.1 (subst (λ (i : ℕ). Hole g i) (swapped.production x) hole))
    | inr b ↦ no_other_hole_roots before x u other b.1 p hole
  ]
