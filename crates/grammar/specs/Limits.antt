-- The limits that every language's table and text keep. The interface asks each language for this record, so that there is none without it.
use Rattle.std.specs.Prelude.{◌≡◌, ℕ, zero, suc, ◌<◌, ◌≤◌, T, List, [], ◌∷◌, length, ℤ, pos, negsuc, ◌≤ℤ◌, slice_index_or}
use Rattle.grammar.specs.declared.language.Occurrence.{Occurrence}
use Rattle.grammar.specs.Grammar.{Grammar, attributes, child, Occurs, Given, Among, arguments, rules_for}
use Rattle.grammar.specs.Text.{Segment, bytes, literal, named}
use Rattle.grammar.specs.Text

-- a literal lies between -1,000,000,000 and 1,000,000,000
abbrev pub Lawful : ℤ → Type 0
Lawful l = (negsuc 999999999 ≤ℤ l) × (l ≤ℤ pos 1000000000)

-- the numbers from k on, n of them
abbrev pub counted : ℕ → ℕ → List ℕ
counted k zero = []
counted k (suc n) = k ∷ counted (suc k) n

-- fixed bytes are 1 to 8 bytes
abbrev pub Short : Segment → Type 0
Short (bytes b) = (0 < length b) × (length b ≤ 8)
Short literal = Unit {0}
Short (Text.child i) = Unit {0}

-- what one production keeps
pub record ProductionLimits (g : Grammar) (text : ℕ → List Segment) (p : ℕ) : Type 0 where
  -- its symbol exists, and only production 0 is of symbol 0
  pub symbol_exists : g.symbol p < g.symbols
  pub start_alone : g.symbol p ≡ 0 → p ≡ 0
  -- it has at most three children, whose symbols exist and are not symbol 0
  pub few_children : length (g.children p) ≤ 3
  pub child_exists : (k : ℕ) → k < length (g.children p) → (0 < child g p k) × (child g p k < g.symbols)
  -- exactly one rule for each attribute that it gives, and none for any other
  pub one_rule : (i a : ℕ) → Given g p i a → rules_for (g.rules p) i a ≡ 1
  pub no_other_rule : (i a : ℕ) → (Given g p i a → ⊥) → rules_for (g.rules p) i a ≡ 0
  -- a rule has at most four arguments, which occur in the production
  pub few_arguments : (i a : ℕ) → length (arguments g p i a) ≤ 4
  pub arguments_occur : (i a : ℕ) (o : Occurrence) → Among o (arguments g p i a) → Occurs g p o.place o.attribute
  -- no literal outside the range is accepted
  pub literals : (l : ℤ) → T (g.accepts p l) → Lawful l
  -- its text has at most eight segments, of short fixed bytes, the literal, and each child once, in order
  pub few_segments : length (text p) ≤ 8
  pub short_bytes : (k : ℕ) → k < length (text p) → Short (slice_index_or (text p) k literal)
  pub each_child_once : named (text p) ≡ counted 1 (length (g.children p))

pub record Limits (g : Grammar) (text : ℕ → List Segment) : Type 0 where
  pub some_symbol : 1 ≤ g.symbols
  pub few_symbols : g.symbols ≤ 16
  pub few_productions : g.productions ≤ 48
  pub few_attributes : (s : ℕ) → s < g.symbols → attributes g s ≤ 4
  -- symbol 0 inherits nothing, and production 0 is its one production
  pub start_inherits_nothing : g.inherited 0 ≡ 0
  pub start : (0 < g.productions) × (g.symbol 0 ≡ 0)
  -- production s is the hole of every other symbol s, and has no children
  pub hole : (s : ℕ) → 0 < s → s < g.symbols → (s < g.productions) × (g.symbol s ≡ s) × (g.children s ≡ [])
  -- production 0 and holes accept the literal 0 alone
  pub zero_alone : (p : ℕ) → p < g.symbols → T (g.accepts p (pos 0)) × ((l : ℤ) → T (g.accepts p l) → l ≡ pos 0)
  pub each : (p : ℕ) → p < g.productions → ProductionLimits g text p
