-- The law of an edit over any set of nodes.
use Rattle.std.proofs.Common.{ℕ, ◌⊎◌, List, ℤ, inl, inr}
use Rattle.grammar.specs.Grammar.{Grammar}
use Rattle.grammar.specs.Values.{meaning_at}
use Rattle.table.specs.declared.node.Node.{Node}
use Rattle.table.specs.Nodes.{Used}
use Rattle.table.specs.Represents.{In}
use Rattle.consistency.specs.Consistent.{ConsistentOutside}
use Rattle.consistency.specs.Keeping.{ConsistentIn, Keeps}

module _ {R V M : Type 0} (g : Grammar) (rule : ℕ → ℕ → ℕ → ℤ → List M → M) (means : V → M) (reads : R → V) (nothing : M) (before : List Node) (values : List R) (after : List Node) (values' : List R) where
  module _ (touched : ℕ → Type 0) (was_used : (q : ℕ) → Used after q → (touched q → ⊥) → Used before q) (stays : (q : ℕ) → Used after q → (touched q → ⊥) → ConsistentIn g rule means reads nothing before values q → ConsistentIn g rule means reads nothing after values' q) where
    -- where every used node outside a set was consistent, every used node outside the set and the touched nodes is
    pub outside_and_untouched : (set : ℕ → Type 0) → ConsistentOutside g rule before (meaning_at means reads nothing values) set → ConsistentOutside g rule after (meaning_at means reads nothing values') (λ q. set q ⊎ touched q)
    outside_and_untouched set was q used out = stays q used (λ t. out (inr t)) (was q (was_used q used (λ t. out (inr t))) (λ s. out (inl s)))

    -- what holds node by node holds of sets
    pub keeping : Keeps g rule means reads nothing before values after values' touched
    keeping = record { was_used = was_used; stays = stays; outside = λ set. outside_and_untouched (λ q. In q set) }
