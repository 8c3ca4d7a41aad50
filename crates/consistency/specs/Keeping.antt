-- Accepted edits keep every node consistent that they do not touch. (A refused edit changes nothing, as its own contract says.)
use Rattle.std.specs.Prelude.{ℕ, ◌⊎◌, List, ℤ, Ok}
use Rattle.grammar.specs.Grammar.{Grammar}
use Rattle.grammar.specs.Values.{meaning_at}
use Rattle.table.specs.declared.node.Node.{Node}
use Rattle.table.specs.Nodes.{at, Used}
use Rattle.table.specs.Represents.{In}
use Rattle.edit.specs.declared.opened.OpenedBy.TheVariants.{Make, Insert, Cut, Paste, Exchange, Retype}
use Rattle.edit.specs.Touching.{Touched}
use Rattle.edit.specs.Calls.{MakeCall, InsertCall, CutCall, PasteCall, ExchangeCall, RetypeCall, DiscardCall}
use Rattle.consistency.specs.Consistent.{ConsistentAt, ConsistentOutside}

-- A value lies in a row, which reads as a value with a meaning.
module _ {R V M : Type 0} (g : Grammar) (rule : ℕ → ℕ → ℕ → ℤ → List M → M) (means : V → M) (reads : R → V) (nothing : M) where
  -- what the value in a row means
  abbrev meaning : R → M
  meaning row = means (reads row)

  -- node q is consistent, by what lies in the values' rows
  abbrev pub ConsistentIn : List Node → List R → ℕ → Type 0
  ConsistentIn ns values q = ConsistentAt g rule ns (meaning_at means reads nothing values) q

  module _ (before : List Node) (values : List R) (after : List Node) (values' : List R) where
    -- A call that touches some nodes keeps the others: a node that is in use afterwards and is not touched was in use before, and is consistent if it was.
    -- So, for any set of nodes: where every used node outside the set was consistent, every used node outside the set and the touched nodes is.
    pub record Keeps (touched : ℕ → Type 0) : Type 0 where
      pub was_used : (q : ℕ) → Used after q → (touched q → ⊥) → Used before q
      pub stays : (q : ℕ) → Used after q → (touched q → ⊥) → ConsistentIn before values q → ConsistentIn after values' q
      pub outside : (set : List ℕ) → ConsistentOutside g rule before (meaning_at means reads nothing values) (λ q. In q set) → ConsistentOutside g rule after (meaning_at means reads nothing values') (λ q. In q set ⊎ touched q)

  -- What each accepted call keeps, over any records and values. The first touched node is node 0 after make, the node after insert and retype, the new hole
  -- after cut, and the parent of the place after paste and exchange; discard touches none.
  pub record EditsKeepConsistency : Type 0 where
    pub make : (before : List Node) (values : List R) (after : List Node) (values' : List R) → MakeCall g meaning nothing before values after values' {A = Unit {0}} (Ok tt) → Keeps before values after values' (Touched g after Make 0)
    pub insert : (before : List Node) (values : List R) (after : List Node) (values' : List R) (n p : ℕ) (l : ℤ) → InsertCall g meaning nothing before values after values' {A = Unit {0}} n p l (Ok tt) → Keeps before values after values' (Touched g after Insert n)
    pub cut : (before : List Node) (values : List R) (after : List Node) (values' : List R) (n hole : ℕ) → CutCall g meaning nothing before values after values' n (Ok hole) → Keeps before values after values' (Touched g after Cut hole)
    pub paste : (before : List Node) (values : List R) (after : List Node) (values' : List R) (root n : ℕ) → PasteCall g meaning nothing before values after values' {A = Unit {0}} root n (Ok tt) → Keeps before values after values' (Touched g after Paste (at before n).parent)
    pub exchange : (before : List Node) (values : List R) (after : List Node) (values' : List R) (root n : ℕ) → ExchangeCall g meaning nothing before values after values' {A = Unit {0}} root n (Ok tt) → Keeps before values after values' (Touched g after Exchange (at before n).parent)
    pub retype : (before : List Node) (values : List R) (after : List Node) (values' : List R) (n : ℕ) (l : ℤ) → RetypeCall g meaning nothing before values after values' {A = Unit {0}} n l (Ok tt) → Keeps before values after values' (Touched g after Retype n)
    pub discard : (before : List Node) (values : List R) (after : List Node) (values' : List R) (root : ℕ) (waiting waiting' : List ℕ) → DiscardCall g meaning nothing before values after values' {A = Unit {0}} root waiting waiting' (Ok tt) → Keeps before values after values' (λ q. ⊥)
