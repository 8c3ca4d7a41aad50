-- What each accepted edit makes of the records. New nodes take the highest free numbers.
use Rattle.std.specs.Prelude.{◌≡◌, ℕ, zero, suc, ◌+◌, ◌-◌, ◌<◌, true, List, [], ◌∷◌, length, ℤ, pos, slice_index_or, slice_set}
use Rattle.grammar.specs.Grammar.{Grammar, child}
use Rattle.table.specs.declared.node.Node.{Node}
use Rattle.table.specs.Nodes.{none, at, child_field}
use Rattle.table.specs.Climbing.{Climb}
use Rattle.edit.specs.Memory.{OnlyRecords}
use Rattle.edit.specs.Fresh.{new_nodes, hole_record, three, free_record, with_parent, with_production, with_literal}

-- Holes are put down at new nodes under a parent, for the children of a production.
pub record HolesUnder (g : Grammar) (p parent : ℕ) (new : List ℕ) (after : List Node) : Type 0 where
  pub hole : (k : ℕ) → k < length (g.children p) → at after (slice_index_or new k none) ≡ hole_record (child g p k) parent

-- Insert turns the hole at a node into a production with a literal, its children new holes.
pub record Inserted (g : Grammar) (node p : ℕ) (l : ℤ) (before after : List Node) : Type 0 where
  pub new : List ℕ
  pub new_are : new ≡ new_nodes before (length (g.children p))
  pub node_is : at after node ≡ with_production (at before node) p l (three new)
  pub holes : HolesUnder g p node new after
  pub others : OnlyRecords (node ∷ new) before after

-- Retype changes the literal.
pub record Retyped (node : ℕ) (l : ℤ) (before after : List Node) : Type 0 where
  pub node_is : at after node ≡ with_literal (at before node) l
  pub others : OnlyRecords (node ∷ []) before after

-- node m's child field that named one node names another, and nothing else of its record differs
pub record Relinked (m from to : ℕ) (before after : List Node) : Type 0 where
  pub used : (at after m).used ≡ (at before m).used
  pub production : (at after m).production ≡ (at before m).production
  pub literal : (at after m).literal ≡ (at before m).literal
  pub parent : (at after m).parent ≡ (at before m).parent
  pub place : ℕ
  pub inside : place < 3
  pub named : child_field (at before m) place ≡ from
  pub children : (at after m).children ≡ slice_set (at before m).children place to

-- Cut puts a new hole in a node's place and hands the node out as a clipping's root.
pub record CutOut (g : Grammar) (node : ℕ) (before after : List Node) (hole : ℕ) : Type 0 where
  pub hole_number : hole ∷ [] ≡ new_nodes before 1
  pub hole_is : at after hole ≡ hole_record (g.symbol (at before node).production) (at before node).parent
  pub root_is : at after node ≡ with_parent (at before node) none
  pub link : Relinked (at before node).parent node hole before after
  pub others : OnlyRecords (node ∷ hole ∷ (at before node).parent ∷ []) before after

-- Paste frees the hole at a node and hangs the clipping with a root in its place.
pub record Pasted (root node : ℕ) (before after : List Node) : Type 0 where
  pub freed : at after node ≡ free_record
  pub root_is : at after root ≡ with_parent (at before root) (at before node).parent
  pub link : Relinked (at before node).parent node root before after
  pub others : OnlyRecords (node ∷ root ∷ (at before node).parent ∷ []) before after

-- Exchange hangs the clipping in a subtree's place and hands out the old subtree.
pub record Exchanged (root node : ℕ) (before after : List Node) : Type 0 where
  pub root_is : at after root ≡ with_parent (at before root) (at before node).parent
  pub node_is : at after node ≡ with_parent (at before node) none
  pub link : Relinked (at before node).parent node root before after
  pub others : OnlyRecords (node ∷ root ∷ (at before node).parent ∷ []) before after

-- Discard frees exactly the nodes of the clipping: those whose climb ends at its root.
pub record Discarded (root : ℕ) (before after : List Node) : Type 0 where
  pub many : length after ≡ length before
  pub freed : (n : ℕ) → Climb before root n → at after n ≡ free_record
  pub others : (n : ℕ) → (Climb before root n → ⊥) → at after n ≡ at before n

-- the highest numbers of a table with n nodes, the highest first
abbrev pub highest : ℕ → ℕ → List ℕ
highest n zero = []
highest n (suc k) = (n - 1) ∷ highest (n - 1) k

-- Make leaves node 0 with production 0 over holes at the highest numbers, the first child at the highest, and every other node free.
pub record Made (g : Grammar) (nodes : ℕ) (after : List Node) : Type 0 where
  pub many : length after ≡ nodes
  pub start_is : at after 0 ≡ record { used = true; production = 0; literal = pos 0; parent = none; children = three (highest nodes (length (g.children 0))) }
  pub hole : (k : ℕ) → k < length (g.children 0) → at after (nodes - 1 - k) ≡ hole_record (child g 0 k) 0
  pub free : (n : ℕ) → 0 < n → n + length (g.children 0) < nodes → at after n ≡ free_record
