-- Climbing from a node by its parents.
use Rattle.std.specs.Prelude.{◌≡◌, ℕ, List, ◌≢◌}
use Rattle.table.specs.declared.node.Node.{Node}
use Rattle.table.specs.Nodes.{none, at, Used}

-- The climb from node n ends at node r, which has no parent. Every node on the way is in use.
pub data Climb (ns : List Node) : ℕ → ℕ → Type 0 where
  ends : {r n : ℕ} → Used ns n → (at ns n).parent ≡ none → r ≡ n → Climb ns r n
  goes_on : {r n : ℕ} (m : ℕ) → Used ns n → (at ns n).parent ≡ m → Climb ns r m → Climb ns r n

-- A node is on the sheet when its climb ends at node 0.
abbrev pub OnSheet : List Node → ℕ → Type 0
OnSheet ns n = Climb ns 0 n

-- A node is in the clipping with root r when its climb ends at r, which is another node than 0.
abbrev pub InClipping : List Node → ℕ → ℕ → Type 0
InClipping ns r n = (r ≢ 0) × Climb ns r n
