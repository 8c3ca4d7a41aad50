-- What rounds from nothing give, and that they come to an end.
use Rattle.std.proofs.Common.{◌≡◌, ℕ, zero, suc, ◌-◌, ◌<◌, ◌≤◌, T, List, sum, sym, ap, ◌∙◌, subst, arith}
use Rattle.grammar.specs.Grammar.{Grammar}
use Rattle.grammar.specs.Text.{Segment}
use Rattle.grammar.specs.Limits.{Limits}
use Rattle.grammar.specs.Circularity.{Circular, Culprit, RelationCount}
use Rattle.circularity.specs.Working.{grown, rounds, found_by, Saturated, counted}
use Rattle.circularity.proofs.Saturation.{Sound, Closed, sound_rows, grown_rows, grown_more, grown_sound, empty_sound, unchanged, settled, sum_bound}
use Rattle.circularity.proofs.Verdicts.{not_circular, relation_count, culprit, culprit_found}

module _ (g : Grammar) (text : ℕ → List Segment) (lim : Limits g text) where
  pub rounds_sound : (n : ℕ) → Sound g (rounds g n)
  rounds_sound zero = empty_sound g text lim
  rounds_sound (suc n) = grown_sound g text lim (rounds g n) (rounds_sound n) g.productions (omega arith)

  pub saturated_sound : (masks : List ℕ) → Saturated g masks → Sound g masks
  saturated_sound masks s = subst (Sound g) (sym s.made) (rounds_sound s.turns)

  pub saturated_closed : (masks : List ℕ) → Saturated g masks → Closed g masks
  saturated_closed masks s = settled g text lim masks (sound_rows g masks (saturated_sound masks s)) (ap sum s.still)

  -- a round that changes the sets brings their sum nearer to its bound
  pub nearer : (masks masks' : List ℕ) (n : ℕ) → masks ≡ rounds g n → masks' ≡ grown g g.productions masks → (masks' ≡ masks → ⊥)
      → 1048560 - sum masks' < 1048560 - sum masks
  nearer masks masks' n masks-is grown-is differs =
      let sound : Sound g masks = subst (Sound g) (sym masks-is) (rounds_sound n) in
      let rows = grown_rows g text lim masks (sound_rows g masks sound) g.productions (omega arith) in
      let bound : sum masks' ≤ 1048560 = rw grown-is (sum_bound (grown g g.productions masks) rows.count rows.below) in
      let more : sum masks ≤ sum masks' = rw grown-is (grown_more g text lim masks (sound_rows g masks sound) g.productions (omega arith)) in
      let apart : sum masks' ≡ sum masks → ⊥ = λ e. differs (grown-is ∙ unchanged g text lim masks (sound_rows g masks sound) (ap sum (sym grown-is) ∙ e)) in
      omega arith

  -- the verdicts from saturated sets
  pub saturated_passes : (masks : List ℕ) → Saturated g masks → ((p : ℕ) → p < g.productions → T (found_by g p masks).cyclic → ⊥)
      → (n : ℕ) → n ≡ counted masks g.symbols → (Circular g → ⊥) × RelationCount g n
  saturated_passes masks s acyclic n n-is =
      let sound = saturated_sound masks s in
      let closed = saturated_closed masks s in
      (not_circular g text lim masks sound closed acyclic, relation_count g text lim masks sound closed n n-is)

  pub saturated_culprit : (masks : List ℕ) → Saturated g masks → (p : ℕ) → p < g.productions → T (found_by g p masks).cyclic → Culprit g p
  saturated_culprit masks s p exists t = culprit g text lim masks (saturated_sound masks s) p exists t

  -- whatever production may be named shows a cycle in saturated sets
  pub saturated_named : (masks : List ℕ) → Saturated g masks → (p : ℕ) → Culprit g p → (p < g.productions) × T (found_by g p masks).cyclic
  saturated_named masks s p c = culprit_found g text lim masks (saturated_sound masks s) (saturated_closed masks s) p c
