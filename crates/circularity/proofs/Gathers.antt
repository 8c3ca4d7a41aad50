-- What a production finds, from the sets to choose from, and one production more in a round.
use Rattle.std.proofs.Common.{◌≡◌, ℕ, ◌+◌, List, get_or, set, sym, refl, ap, ◌∙◌, ap₂, add-one}
use lib.Bits.{bit_or}
use Rattle.circularity.specs.declared.graph.Outcome.{Outcome}
use Rattle.grammar.specs.Grammar.{Grammar}
use Rattle.circularity.specs.Working.{gathered, outcome, choice, choices_at, found_by, grown}

module _ (g : Grammar) (p : ℕ) where
  -- what all relations in three sets give, one set after another
  abbrev pub found_in : ℕ → ℕ → ℕ → Outcome
  found_in firsts seconds thirds = gathered (λ x. gathered (λ y. gathered (λ z. outcome g p (choice x y z)) thirds) seconds) firsts

  found_there : (masks : List ℕ) → found_in (choices_at g p masks 0) (choices_at g p masks 1) (choices_at g p masks 2) ≡ found_by g p masks
  unfolding gathered outcome
  found_there masks = refl

  pub found_from : (masks : List ℕ) (firsts seconds thirds : ℕ)
      → firsts ≡ choices_at g p masks 0 → seconds ≡ choices_at g p masks 1 → thirds ≡ choices_at g p masks 2
      → gathered (λ x. gathered (λ y. gathered (λ z. outcome g p (choice x y z)) thirds) seconds) firsts ≡ found_by g p masks
  found_from masks firsts seconds thirds e₁ e₂ e₃ =
      ap (λ s. found_in s seconds thirds) e₁ ∙ ap (λ s. found_in (choices_at g p masks 0) s thirds) e₂
      ∙ ap (found_in (choices_at g p masks 0) (choices_at g p masks 1)) e₃ ∙ found_there masks

-- one production more in a round
pub grown_next : (g : Grammar) (p : ℕ) (start masks : List ℕ) → masks ≡ grown g p start → (s : ℕ) → s ≡ g.symbol p → (o : Outcome) → o ≡ found_by g p masks
    → set masks s (bit_or (get_or masks s 0) o.relations) ≡ grown g (p + 1) start
grown_next g p start masks masks-is s s-is o o_is =
    ap₂ (λ x y. set masks x (bit_or (get_or masks x 0) y.relations)) s-is o_is
    ∙ ap (λ m. set m (g.symbol p) (bit_or (get_or m (g.symbol p) 0) (found_by g p m).relations)) masks-is
    ∙ ap (λ n. grown g n start) (sym (add-one p))
