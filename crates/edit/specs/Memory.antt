-- What an edit leaves of records and values.
use Rattle.std.specs.Prelude.{◌≡◌, ℕ, ◌+◌, ◌*◌, ◌/◌, ◌<◌, ◌≤◌, List, length, slice_index_or}
use Rattle.table.specs.declared.node.Node.{Node}
use Rattle.table.specs.Nodes.{at}
use Rattle.table.specs.Represents.{In}

-- Only the records of some nodes differ.
pub record OnlyRecords (changed : List ℕ) (before after : List Node) : Type 0 where
  pub many : length after ≡ length before
  pub same : (n : ℕ) → (In n changed → ⊥) → at after n ≡ at before n

-- The four values of some nodes are blank, and every other value is the same row as before. Figure a of node n is value 4 × n + a.
-- `meaning` is what a row's value means, and `nothing` is the blank's meaning.
pub record Blanked {R M : Type 0} (meaning : R → M) (nothing : M) (nodes : List ℕ) (before after : List R) : Type 0 where
  pub many : length after ≡ length before
  pub blank : (n a : ℕ) (d : R) → In n nodes → a < 4 → 4 * n + a < length before → meaning (slice_index_or after (4 * n + a) d) ≡ nothing
  pub same : (f : ℕ) (d : R) → (In (f / 4) nodes → ⊥) → slice_index_or after f d ≡ slice_index_or before f d

-- Every value is a row.
pub record AllStored {R : Type 0} (row : R) (before after : List R) : Type 0 where
  pub many : length after ≡ length before
  pub there : (f : ℕ) (d : R) → f < length before → slice_index_or after f d ≡ row

-- The first values, some count of them, are blank, and every further value is the same row as before.
pub record BlankedFirst {R M : Type 0} (meaning : R → M) (nothing : M) (count : ℕ) (before after : List R) : Type 0 where
  pub many : length after ≡ length before
  pub blank : (f : ℕ) (d : R) → f < count → meaning (slice_index_or after f d) ≡ nothing
  pub same : (f : ℕ) (d : R) → count ≤ f → slice_index_or after f d ≡ slice_index_or before f d

-- A list is as it was from an entry on, and as long.
pub record SameFrom {A : Type 0} (start : ℕ) (before after : List A) : Type 0 where
  pub many : length after ≡ length before
  pub same : (k : ℕ) (d : A) → start ≤ k → slice_index_or after k d ≡ slice_index_or before k d
