-- The table of a language: its symbols, their attributes, its productions and the rules that these hold.
-- A language, here, is such a table with a function for each rule; a figure is the value of one attribute at one node of a tree.
use Rattle.std.specs.Prelude.{◌≡◌, ℕ, zero, suc, ◌+◌, ◌<◌, ◌≤◌, Bool, true, false, ◌&&◌, ◌⊎◌, List, [], ◌∷◌, length, ℤ, ◌==◌, slice_index_or}
use Rattle.grammar.specs.declared.language.Occurrence.{Occurrence}

-- One rule of a production: the attribute whose value it gives, and the attributes whose values it takes, in order.
-- Both are occurrences, attributes at the production's places: place 0 is the production's own symbol, place i its child i.
pub record Rule : Type 0 where
  pub target : Occurrence
  pub arguments : List Occurrence

-- Symbols and productions are numbered from 0. A symbol's attributes are numbered from 0 too, the inherited ones first.
-- What the functions say past the last symbol and the last production means nothing.
pub record Grammar : Type 0 where
  pub symbols : ℕ
  pub productions : ℕ
  -- of a symbol
  pub inherited : ℕ → ℕ
  pub synthesized : ℕ → ℕ
  -- of a production: its symbol, its children's symbols, its rules, and the literals that it accepts
  pub symbol : ℕ → ℕ
  pub children : ℕ → List ℕ
  pub rules : ℕ → List Rule
  pub accepts : ℕ → ℤ → Bool

-- how many attributes a symbol has
abbrev pub attributes : Grammar → ℕ → ℕ
attributes g s = g.inherited s + g.synthesized s

-- the symbol of a production's child, counted from 0; where there is no such child, the number just past the last symbol
abbrev pub child : Grammar → ℕ → ℕ → ℕ
child g p k = slice_index_or (g.children p) k g.symbols

-- attribute a at place i occurs in the production: the place is its own or a child's, and the symbol there has the attribute
abbrev pub Occurs : Grammar → ℕ → ℕ → ℕ → Type 0
Occurs g p zero a = a < attributes g (g.symbol p)
Occurs g p (suc k) a = (k < length (g.children p)) × (a < attributes g (child g p k))

-- attribute a at place i is given by the production: it is synthesized at its own place, or inherited at a child's
abbrev pub Given : Grammar → ℕ → ℕ → ℕ → Type 0
Given g p zero a = (g.inherited (g.symbol p) ≤ a) × (a < attributes g (g.symbol p))
Given g p (suc k) a = (k < length (g.children p)) × (a < g.inherited (child g p k))

-- whether an occurrence is attribute a at place i
abbrev pub is_at : Occurrence → ℕ → ℕ → Bool
is_at o i a = i == o.place && a == o.attribute

-- the arguments of the rule for attribute a at place i: those of the first rule with that target, none where there is no such rule
abbrev pub arguments_in : List Rule → ℕ → ℕ → List Occurrence
arguments_in [] i a = []
arguments_in (r ∷ rs) i a = elim (is_at r.target i a) [ true ↦ r.arguments | false ↦ arguments_in rs i a ]

abbrev pub arguments : Grammar → ℕ → ℕ → ℕ → List Occurrence
arguments g p i a = arguments_in (g.rules p) i a

-- o is one of the occurrences
abbrev pub Among : Occurrence → List Occurrence → Type 0
Among o [] = ⊥
Among o (x ∷ xs) = (o ≡ x) ⊎ Among o xs

-- how many rules have attribute a at place i as their target
abbrev pub rules_for : List Rule → ℕ → ℕ → ℕ
rules_for [] i a = 0
rules_for (r ∷ rs) i a = elim (is_at r.target i a) [ true ↦ suc (rules_for rs i a) | false ↦ rules_for rs i a ]
