-- Nodes under a node: those whose climb passes it. How deep a node is, and that two nodes as deep as each other have no node under both.
use Rattle.std.proofs.Common.{◌≡◌, ℕ, suc, ◌<◌, ◌≤◌, List, length, sym, refl, ◌∙◌, subst, arith}
use Rattle.table.specs.declared.node.Node.{Node}
use Rattle.table.specs.Nodes.{none, at, Used}
use Rattle.table.specs.Climbing.{Climb, ends, goes_on}
use Rattle.table.proofs.Reading.{never_none}

-- node m is n, or lies below it: climbing from m one comes to n
pub data Under (ns : List Node) (n : ℕ) : ℕ → Type 0 where
  itself : {m : ℕ} → Used ns m → m ≡ n → Under ns n m
  up : {m : ℕ} (k : ℕ) → Used ns m → (at ns m).parent ≡ k → Under ns n k → Under ns n m

-- the climb from node n takes d steps
pub data Depth (ns : List Node) : ℕ → ℕ → Type 0 where
  top : {d n : ℕ} → (at ns n).parent ≡ none → d ≡ 0 → Depth ns d n
  one_more : {d n : ℕ} (e m : ℕ) → Used ns m → (at ns n).parent ≡ m → Depth ns e m → d ≡ suc e → Depth ns d n

pub under_used : {ns : List Node} {n m : ℕ} → Under ns n m → Used ns m
under_used (itself u e) = u
under_used (up k u e w) = u

pub climb_used : {ns : List Node} {r n : ℕ} → Climb ns r n → Used ns n
climb_used (ends u e f) = u
climb_used (goes_on m u e c) = u

pub under_trans : {ns : List Node} {n m x : ℕ} → Under ns n m → Under ns m x → Under ns n x
under_trans {ns} {n} {m} {x} v (itself u e) = subst (λ (i : ℕ). Under ns n i) (sym e) v
under_trans v (up k u e w) = up k u e (under_trans v w)

-- under a node without parent lie the nodes whose climb ends at it
pub climb_under : {ns : List Node} {n m : ℕ} → Climb ns n m → Under ns n m
climb_under (ends u e f) = itself u (sym f)
climb_under (goes_on m u e c) = up m u e (climb_under c)

pub under_climb : {ns : List Node} {n m : ℕ} → (at ns n).parent ≡ none → Under ns n m → Climb ns n m
under_climb {ns} {n} h (itself u e) = ends u (subst (λ (i : ℕ). (at ns i).parent ≡ none) (sym e) h) (sym e)
under_climb h (up k u e w) = goes_on k u e (under_climb h w)

-- a climb of any node passes on to what lies under it
pub climb_through : {ns : List Node} {r n m : ℕ} → Climb ns r n → Under ns n m → Climb ns r m
climb_through {ns} {r} c (itself u e) = subst (λ (i : ℕ). Climb ns r i) (sym e) c
climb_through c (up k u e w) = goes_on k u e (climb_through c w)

pub depth_of : {ns : List Node} {r n : ℕ} → Climb ns r n → (d : ℕ) × Depth ns d n
depth_of (ends u e f) = (0, top e refl)
depth_of (goes_on m u e c) = let d = depth_of c in (suc d.0, one_more d.0 m (climb_used c) e d.1 refl)

module _ (ns : List Node) (few : length ns ≤ 1000) where
  pub depth_once : {d e n : ℕ} → Depth ns d n → Depth ns e n → d ≡ e
  depth_once (top p q) (top p' q') = omega arith
  depth_once (top p q) (one_more e m u p' w q') = absurd (never_none ns few m u (sym p' ∙ p))
  depth_once (one_more e m u p w q) (top p' q') = absurd (never_none ns few m u (sym p ∙ p'))
  depth_once (one_more e m u p w q) (one_more e' m' u' p' w' q') =
      let same : e ≡ e' = depth_once w (subst (λ (i : ℕ). Depth ns e' i) (sym p' ∙ p) w') in
      omega arith

  -- what lies under a node is as deep or deeper, and deeper where it lies under by its parent
  pub under_deeper : {d n m : ℕ} → Depth ns d n → Under ns n m → (e : ℕ) × (d ≤ e) × Depth ns e m
  under_deeper {d} w (itself u e) = (d, omega arith, subst (λ (i : ℕ). Depth ns d i) (sym e) w)
  under_deeper w (up k u e v) = let a = under_deeper w v in (suc a.0, omega (arith, a.1), one_more a.0 k (under_used v) e a.2 refl)

  pub deeper : {d n m : ℕ} → Depth ns d n → (k : ℕ) → (at ns m).parent ≡ k → Under ns n k → (e : ℕ) × (d < e) × Depth ns e m
  deeper w k e v = let a = under_deeper w v in (suc a.0, omega (arith, a.1), one_more a.0 k (under_used v) e a.2 refl)

  -- no node lies by its parent under a node as deep as itself
  pub none_both_ways : {d n m : ℕ} → Depth ns d n → Depth ns d m → (k : ℕ) → (at ns m).parent ≡ k → Under ns n k → ⊥
  none_both_ways w v k e u = let a = deeper w k e u in omega (arith, a.1, depth_once v a.2)

  -- nodes as deep as each other, with a node under both, are one node
  pub same_depth_apart : {d n m x : ℕ} → Depth ns d n → Depth ns d m → Under ns n x → Under ns m x → n ≡ m
  same_depth_apart w v (itself u e) (itself u' e') = sym e ∙ e'
  same_depth_apart {d} w v (itself u e) (up k u' e' b) = absurd (none_both_ways v (subst (λ (i : ℕ). Depth ns d i) (sym e) w) k e' b)
  same_depth_apart {d} w v (up k u e a) (itself u' e') = absurd (none_both_ways w (subst (λ (i : ℕ). Depth ns d i) (sym e') v) k e a)
  same_depth_apart {d} {n} {m} w v (up k u e a) (up k' u' e' b) = same_depth_apart w v a (subst (λ (i : ℕ). Under ns m i) (sym e' ∙ e) b)

  -- two nodes under each other are one node
  pub under_both_ways : {d n m : ℕ} → Depth ns d n → Under ns n m → Under ns m n → n ≡ m
  under_both_ways w (itself u e) b = sym e
  under_both_ways w (up k u e a) b =
      let lower = deeper w k e a in
      let back = under_deeper lower.2 b in
      absurd (omega (arith, lower.1, back.1, depth_once w back.2))
