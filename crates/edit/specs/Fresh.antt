-- Free nodes, and the new nodes of an edit.
use Rattle.std.specs.Prelude.{◌≡◌, ℕ, zero, suc, ◌<◌, ◌≤◌, true, false, List, [], ◌∷◌, length, take, ℤ, pos, slice_index_or}
use Rattle.table.specs.declared.node.Node.{Node}
use Rattle.table.specs.Nodes.{none, at}

-- the free nodes below n, the highest first
abbrev pub free_below : List Node → ℕ → List ℕ
free_below ns zero = []
free_below ns (suc n) = elim (at ns n).used [ true ↦ free_below ns n | false ↦ n ∷ free_below ns n ]

-- the free nodes of a table, the highest first
abbrev pub free_numbers : List Node → List ℕ
free_numbers ns = free_below ns (length ns)

-- New nodes take the highest free numbers, children left to right: the first k free nodes.
abbrev pub new_nodes : List Node → ℕ → List ℕ
new_nodes ns k = take k (free_numbers ns)

-- a hole of symbol s under a parent
abbrev pub hole_record : ℕ → ℕ → Node
hole_record s parent = record { used = true; production = s; literal = pos 0; parent = parent; children = none ∷ none ∷ none ∷ [] }

-- three child fields: some nodes, then none
abbrev pub three : List ℕ → List ℕ
three ns = slice_index_or ns 0 none ∷ slice_index_or ns 1 none ∷ slice_index_or ns 2 none ∷ []

-- the record of a free node
abbrev pub free_record : Node
free_record = record { used = false; production = 0; literal = pos 0; parent = none; children = none ∷ none ∷ none ∷ [] }

-- a record with another parent
abbrev pub with_parent : Node → ℕ → Node
with_parent nd m = record { used = nd.used; production = nd.production; literal = nd.literal; parent = m; children = nd.children }

-- a record with another production, literal and children
abbrev pub with_production : Node → ℕ → ℤ → List ℕ → Node
with_production nd p l children = record { used = nd.used; production = p; literal = l; parent = nd.parent; children = children }

-- a record with another literal
abbrev pub with_literal : Node → ℤ → Node
with_literal nd l = record { used = nd.used; production = nd.production; literal = l; parent = nd.parent; children = nd.children }

-- Node n is the highest free node below a number.
pub record NextFree (ns : List Node) (below n : ℕ) : Type 0 where
  pub lower : n < below
  pub free : (at ns n).used ≡ false
  pub first : free_below ns below ≡ n ∷ free_below ns n

-- Enough nodes are free, and the child fields name the new ones.
pub record NewNodes (ns : List Node) (count : ℕ) (fields : List ℕ) : Type 0 where
  pub enough : count ≤ length (free_numbers ns)
  pub named : fields ≡ three (new_nodes ns count)
