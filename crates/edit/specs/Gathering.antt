-- What the parts of discard do: the clipping's nodes are listed, and then the listed nodes are freed.
use Rattle.std.specs.Prelude.{◌≡◌, ℕ, ◌<◌, ◌≤◌, List, length, slice_index}
use Rattle.table.specs.declared.node.Node.{Node}
use Rattle.table.specs.Nodes.{at}
use Rattle.table.specs.Climbing.{Climb}
use Rattle.edit.specs.Fresh.{free_record}
use Rattle.edit.specs.Memory.{SameFrom}
use Rattle.edit.specs.Edits.{Discarded}

-- the number stands in one of the first slots
abbrev pub Listed : List ℕ → ℕ → ℕ → Type 0
Listed slots count n = (k : ℕ) × (k < count) × (slice_index slots k ≡ n)

-- The nodes below a number whose climb ends at a root are listed in the first slots, and no others.
pub record Gathered (ns : List Node) (root end : ℕ) (slots slots' : List ℕ) (count : ℕ) : Type 0 where
  pub few : count ≤ end
  pub climbs : (k : ℕ) → k < count → Climb ns root (slice_index slots' k)
  pub all : (n : ℕ) → n < end → Climb ns root n → Listed slots' count n
  pub rest : SameFrom end slots slots'

-- The listed nodes are free, and no other record differs.
pub record Freed (slots : List ℕ) (count : ℕ) (before after : List Node) : Type 0 where
  pub many : length after ≡ length before
  pub freed : (k : ℕ) → k < count → at after (slice_index slots k) ≡ free_record
  pub others : (n : ℕ) → (Listed slots count n → ⊥) → at after n ≡ at before n

-- The clipping's nodes are free, and the waiting list past as many entries as there are nodes is as it was.
pub record ClippingFreed (root : ℕ) (before after : List Node) (waiting waiting' : List ℕ) : Type 0 where
  pub records : Discarded root before after
  pub same_waiting : SameFrom (length before) waiting waiting'
