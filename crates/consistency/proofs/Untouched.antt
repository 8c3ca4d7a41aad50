-- The argument for any set of touched nodes: where every used node outside it has its record up to the parent, and the values of the nodes that
-- were used stay, the nodes outside the set are kept.
use Rattle.std.proofs.Common.{◌≡◌, ℕ, zero, suc, ◌+◌, ◌*◌, ◌<◌, List, [], ◌∷◌, map, length, get_or, ℤ, sym, refl, ap, ◌∙◌, arith}
use Rattle.grammar.specs.Grammar.{Grammar, Occurs}
use Rattle.grammar.specs.Text.{Segment}
use Rattle.grammar.specs.Limits.{Limits}
use Rattle.grammar.specs.Values.{meaning_at}
use Rattle.table.specs.declared.node.Node.{Node}
use Rattle.table.specs.Nodes.{at, child_field, Used}
use Rattle.table.specs.Sheets.{Sheet}
use Rattle.table.proofs.Reading.{in_order}
use Rattle.edit.specs.Fresh.{with_parent}
use Rattle.consistency.specs.Consistent.{node_at}
use Rattle.consistency.specs.Keeping.{Keeps}
use Rattle.consistency.proofs.Outside.{keeping}
use Rattle.consistency.proofs.Carrying.{SameAt, carried}

-- a row that is the same means the same
pub same_meaning : {R M : Type 0} (meaning : R → M) (blank : M) (rows rows' : List R) (f : ℕ) → length rows' ≡ length rows → ((d : R) → get_or rows' f d ≡ get_or rows f d) → get_or (map meaning rows') f blank ≡ get_or (map meaning rows) f blank
same_meaning meaning blank [] [] f many same = refl
same_meaning meaning blank [] (r ∷ rows') f many same = absurd (omega arith)
same_meaning meaning blank (r ∷ rows) [] f many same = absurd (omega arith)
same_meaning meaning blank (r ∷ rows) (r' ∷ rows') zero many same = ap meaning (same r)
same_meaning meaning blank (r ∷ rows) (r' ∷ rows') (suc f) many same = same_meaning meaning blank rows rows' f (omega arith) same

-- A node has its record, up to the parent.
pub record SameButParent (before after : List Node) (q : ℕ) : Type 0 where
  pub parent : ℕ
  pub is : at after q ≡ with_parent (at before q) parent

-- every value of a node that was used means what it meant
abbrev pub ValuesStay : {M : Type 0} → List Node → (ℕ → M) → (ℕ → M) → Type 0
ValuesStay before stored stored' = (m a : ℕ) → Used before m → a < 4 → stored' (4 * m + a) ≡ stored (4 * m + a)

module _ (g : Grammar) (text : ℕ → List Segment) (limits : Limits g text) (before : List Node) (sheet : Sheet g before) where
  -- an attribute that occurs at a used node's places is one of the first four
  few_attributes : (p i a : ℕ) → p < g.productions → Occurs g p i a → a < 4
  few_attributes p zero a exists occurs = omega (arith, limits.few_attributes (g.symbol p) (limits.each p exists).symbol_exists)
  few_attributes p (suc k) a exists occurs = omega (arith, occurs.1, limits.few_attributes _ ((limits.each p exists).child_exists k occurs.0).1)

  -- the places of a used node that its production has are used nodes
  place_used : (q : ℕ) → Used before q → (i a : ℕ) → Occurs g (at before q).production i a → Used before (node_at before q i)
  place_used q used zero a occurs = used
  place_used q used (suc k) a occurs = ((in_order sheet q used).children k occurs.0).used

  module _ {R V M : Type 0} (rule : ℕ → ℕ → ℕ → ℤ → List M → M) (means : V → M) (reads : R → V) (nothing : M) (values : List R) (after : List Node) (values' : List R) where
    -- the same node at each place, with the same values
    same_at : (q : ℕ) → Used before q → SameButParent before after q → ValuesStay before (meaning_at means reads nothing values) (meaning_at means reads nothing values') → SameAt g before after (meaning_at means reads nothing values) (meaning_at means reads nothing values') q
    same_at q used same values_stay = record {
      exists = (in_order sheet q used).production_exists;
      production = ap (λ (nd : Node). nd.production) same.is;
      literal = ap (λ (nd : Node). nd.literal) same.is;
      figures = λ i a occurs.
          ap (λ n. meaning_at means reads nothing values' (4 * n + a)) (place_same i)
          ∙ values_stay (node_at before q i) a (place_used q used i a occurs) (few_attributes (at before q).production i a (in_order sheet q used).production_exists occurs);
    }
      where
        place_same : (i : ℕ) → node_at after q i ≡ node_at before q i
        place_same zero = refl
        place_same (suc k) = ap (λ (nd : Node). child_field nd k) same.is

    pub keeps_untouched : (touched : ℕ → Type 0) → length after ≡ length before → ValuesStay before (meaning_at means reads nothing values) (meaning_at means reads nothing values') → ((q : ℕ) → Used after q → (touched q → ⊥) → SameButParent before after q) → Keeps g rule means reads nothing before values after values' touched
    keeps_untouched touched many values_stay same =
        keeping g rule means reads nothing before values after values' touched was_used
        (λ q used out. carried g text limits rule before after (meaning_at means reads nothing values) (meaning_at means reads nothing values') q (same_at q (was_used q used out) (same q used out) values_stay))
      where
        was_used : (q : ℕ) → Used after q → (touched q → ⊥) → Used before q
        was_used q used out = (omega (arith, used.0, many), sym (ap (λ (nd : Node). nd.used) (same q used out).is) ∙ used.1)
