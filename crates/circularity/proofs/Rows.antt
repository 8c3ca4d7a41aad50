-- The rows of a local graph, case by case.
use Rattle.std.proofs.Common.{◌≡◌, ℕ, ◌+◌, ◌-◌, ◌*◌, ◌%◌, ◌^◌, ◌<◌, ◌≤◌, List, length}
use Rattle.std.proofs.lemmas.Bool.{lt-ltb, le-ltb}
use Rattle.grammar.specs.Grammar.{Grammar, child, arguments}
use Rattle.circularity.specs.Bits.{field}
use Rattle.circularity.specs.Working.{bits_of, chosen, parent_row, child_row}

module _ (g : Grammar) (p a : ℕ) where
  pub parent_inherited : a < g.inherited (g.symbol p) → parent_row g p a ≡ 0
  parent_inherited h = rw (lt-ltb a (g.inherited (g.symbol p)) h)

  pub parent_given : g.inherited (g.symbol p) ≤ a → a - g.inherited (g.symbol p) < g.synthesized (g.symbol p) → parent_row g p a ≡ bits_of (arguments g p 0 a)
  parent_given h h' = rw (le-ltb a (g.inherited (g.symbol p)) h, lt-ltb (a - g.inherited (g.symbol p)) (g.synthesized (g.symbol p)) h')

  pub parent_past : g.inherited (g.symbol p) ≤ a → g.synthesized (g.symbol p) ≤ a - g.inherited (g.symbol p) → parent_row g p a ≡ 0
  parent_past h h' = rw (le-ltb a (g.inherited (g.symbol p)) h, le-ltb (a - g.inherited (g.symbol p)) (g.synthesized (g.symbol p)) h')

module _ (g : Grammar) (p : ℕ) (c : List ℕ) (k a : ℕ) where
  pub no_child : length (g.children p) ≤ k → child_row g p c k a ≡ 0
  no_child h = rw (le-ltb k (length (g.children p)) h)

  pub child_given : k < length (g.children p) → a < g.inherited (child g p k) → child_row g p c k a ≡ bits_of (arguments g p (k + 1) a)
  child_given h h' = rw (lt-ltb k (length (g.children p)) h, lt-ltb a (g.inherited (child g p k)) h')

  pub child_related : k < length (g.children p) → g.inherited (child g p k) ≤ a → a - g.inherited (child g p k) < g.synthesized (child g p k)
      → child_row g p c k a ≡ (field (g.inherited (child g p k)) (chosen c k) (a - g.inherited (child g p k)) * 2 ^ (4 * (k + 1))) % 2 ^ 16
  child_related h h' h'' =
      rw (lt-ltb k (length (g.children p)) h, le-ltb a (g.inherited (child g p k)) h', lt-ltb (a - g.inherited (child g p k)) (g.synthesized (child g p k)) h'')

  pub child_past : k < length (g.children p) → g.inherited (child g p k) ≤ a → g.synthesized (child g p k) ≤ a - g.inherited (child g p k) → child_row g p c k a ≡ 0
  child_past h h' h'' =
      rw (lt-ltb k (length (g.children p)) h, le-ltb a (g.inherited (child g p k)) h', le-ltb (a - g.inherited (child g p k)) (g.synthesized (child g p k)) h'')
