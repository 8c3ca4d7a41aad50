-- The record of a free node is the only blank one.
use Rattle.std.proofs.Common.{◌≡◌, ℕ, zero, suc, ◌<◌, Bool, false, List, [], ◌∷◌, length, get_or, ℤ, pos, MatchBool, refl, sym, ◌∙◌, arith}
use Rattle.std.proofs.lemmas.List.{ext_get_or}
use Rattle.std.specs.Bool.{Decides}
use Rattle.table.specs.declared.node.Node.{Node}
use Rattle.table.specs.Nodes.{none, Blank}
use Rattle.table.proofs.Answering.{by_decision}

abbrev pub free : Node
free = record { used = false; production = 0; literal = pos 0; parent = none; children = none ∷ none ∷ none ∷ [] }

parts : (u : Bool) (p : ℕ) (l : ℤ) (q : ℕ) (cs : List ℕ) → u ≡ false → p ≡ 0 → l ≡ pos 0 → q ≡ none → cs ≡ none ∷ none ∷ none ∷ []
    → ◌≡◌ {A = Node} (record { used = u; production = p; literal = l; parent = q; children = cs }) free
parts u p l q cs a b c d e = rw (a, b, c, d, e) refl

nowhere : (k : ℕ) → k < 3 → get_or (none ∷ none ∷ none ∷ []) k 0 ≡ none
nowhere zero h = refl
nowhere (suc zero) h = refl
nowhere (suc (suc zero)) h = refl
nowhere (suc (suc (suc k))) h = absurd (omega arith)

-- a test whether a record is that one tells whether it is blank
pub blank_by_free : (nd : Node) → length nd.children ≡ 3 → (b : Bool) → Decides b (nd ≡ free) → MatchBool b (Blank nd) (Blank nd → ⊥)
blank_by_free nd three b d = by_decision b d to back
  where
    to : nd ≡ free → Blank nd
    to e = rw e (record { free = refl; production = refl; literal = refl; parent = refl; children = nowhere })

    back : Blank nd → nd ≡ free
    back blank =
        let same : nd.children ≡ none ∷ none ∷ none ∷ [] = ext_get_or 0 nd.children _ three (λ k h. blank.children k (omega arith) ∙ sym (nowhere k (omega arith))) in
        parts nd.used nd.production nd.literal nd.parent nd.children blank.free blank.production blank.literal blank.parent same
