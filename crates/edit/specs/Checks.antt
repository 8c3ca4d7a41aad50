-- What each edit checks, in the order of its checks. Each line is a condition that is wanted, and the fault that comes where it does not hold.
use Rattle.std.specs.Prelude.{◌≡◌, ℕ, suc, ◌<◌, ◌≤◌, T, List, [], ◌∷◌, ◌++◌, length, ℤ, ◌≢◌}
use Rattle.grammar.specs.Grammar.{Grammar}
use Rattle.table.specs.declared.node.Node.{Node}
use Rattle.table.specs.Nodes.{at}
use Rattle.table.specs.Sheets.{Hole, ClippingRoot}
use Rattle.table.specs.Refusals.{Check, want, lifted}
use Rattle.table.specs.Checks.{memory, beginning, on_sheet, long_enough}
use Rattle.edit.specs.declared.fault.EditFault.{EditFault}
use Rattle.edit.specs.declared.fault.EditFault.TheVariants.{Table, NoClipping, WrongPlace, WrongSymbol, LiteralRefused, TooFewNodes}
use Rattle.edit.specs.Fresh.{free_numbers}

-- the production at a node
abbrev pub production_at : List Node → ℕ → ℕ
production_at ns n = (at ns n).production

-- the node has to be a hole, or must be none and not node 0
abbrev pub hole_at : Grammar → List Node → ℕ → Check EditFault
hole_at g ns n = want (Hole g (production_at ns n)) (WrongPlace n)

abbrev pub no_hole_at : Grammar → List Node → ℕ → Check EditFault
no_hole_at g ns n = want ((Hole g (production_at ns n) → ⊥) × (n ≢ 0)) (WrongPlace n)

-- the clipping's root is one in this table
abbrev pub clipping_at : List Node → ℕ → Check EditFault
clipping_at ns root = want (ClippingRoot ns root) NoClipping

-- the clipping's root is of the node's symbol
abbrev pub same_symbol : Grammar → List Node → ℕ → ℕ → Check EditFault
same_symbol g ns root n = want (g.symbol (production_at ns root) ≡ g.symbol (production_at ns n)) (WrongSymbol n)

-- production p exists, is no hole and is of another production's symbol
abbrev pub Fitting : Grammar → ℕ → ℕ → Type 0
Fitting g other p = (p < g.productions) × (Hole g p → ⊥) × (g.symbol p ≡ g.symbol other)

-- the production is one that fits at the node
abbrev pub fitting_production : Grammar → List Node → ℕ → ℕ → Check EditFault
fitting_production g ns n p = want (Fitting g (production_at ns n) p) (WrongSymbol n)

-- the literal is accepted
abbrev pub accepted_literal : Grammar → ℕ → ℤ → ℕ → Check EditFault
accepted_literal g p l n = want (T (g.accepts p l)) (LiteralRefused n)

-- enough nodes are free
abbrev pub enough_free : List Node → ℕ → ℕ → Check EditFault
enough_free ns needed n = want (needed ≤ length (free_numbers ns)) (TooFewNodes n)

module _ (g : Grammar) (ns : List Node) (values : ℕ) where
  -- what every edit at a node checks first
  abbrev pub at_a_node : ℕ → List (Check EditFault)
  at_a_node n = lifted Table (beginning g ns values ++ (on_sheet ns n ∷ []))

  -- what every edit with a clipping checks first: the clipping before the node
  abbrev pub with_a_clipping : ℕ → ℕ → List (Check EditFault)
  with_a_clipping root n = lifted Table (beginning g ns values) ++ (clipping_at ns root ∷ lifted Table (on_sheet ns n ∷ []))

  -- insert's last check is that enough nodes are free
  abbrev pub insert_checks_but_free : ℕ → ℕ → ℤ → List (Check EditFault)
  insert_checks_but_free n p l =
      at_a_node n ++ (hole_at g ns n ∷ fitting_production g ns n p ∷ accepted_literal g p l n ∷ [])

  abbrev pub insert_checks : ℕ → ℕ → ℤ → List (Check EditFault)
  insert_checks n p l = insert_checks_but_free n p l ++ (enough_free ns (length (g.children p)) n ∷ [])

  abbrev pub cut_checks : ℕ → List (Check EditFault)
  cut_checks n = at_a_node n ++ (no_hole_at g ns n ∷ enough_free ns 1 n ∷ [])

  abbrev pub paste_checks : ℕ → ℕ → List (Check EditFault)
  paste_checks root n = with_a_clipping root n ++ (hole_at g ns n ∷ same_symbol g ns root n ∷ [])

  abbrev pub exchange_checks : ℕ → ℕ → List (Check EditFault)
  exchange_checks root n = with_a_clipping root n ++ (no_hole_at g ns n ∷ same_symbol g ns root n ∷ [])

  abbrev pub retype_checks : ℕ → ℤ → List (Check EditFault)
  retype_checks n l = at_a_node n ++ (accepted_literal g (production_at ns n) l n ∷ [])

  abbrev pub discard_checks : ℕ → ℕ → List (Check EditFault)
  discard_checks root waiting =
      lifted Table (beginning g ns values ++ (long_enough waiting (length ns) ∷ [])) ++ (clipping_at ns root ∷ [])

  -- make needs no sheet: every node counts as free
  abbrev pub make_checks : List (Check EditFault)
  make_checks = lifted Table (memory g (length ns) values) ++ (want (suc (length (g.children 0)) ≤ length ns) (TooFewNodes 0) ∷ [])
