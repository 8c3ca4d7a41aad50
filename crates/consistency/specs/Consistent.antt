-- Consistent attributions: each stored value is what its rule gives, of the literal and of the stored values of the rule's arguments.
-- A rule counts at the node whose production holds it, so it makes no difference whether the node is on the sheet or in a clipping.
use Rattle.std.specs.Prelude.{◌≡◌, ℕ, zero, suc, ◌+◌, ◌*◌, List, map, ℤ}
use Rattle.grammar.specs.Grammar.{Grammar, Given, arguments}
use Rattle.table.specs.declared.node.Node.{Node}
use Rattle.table.specs.Nodes.{at, child_field, Used}

-- the node at a place of node q: place 0 is q itself, place k + 1 its child field k
abbrev pub node_at : List Node → ℕ → ℕ → ℕ
node_at ns q zero = q
node_at ns q (suc k) = child_field (at ns q) k

-- the value of attribute a at a place of node q: figure a of node n is value 4 × n + a
abbrev pub figure_at : List Node → ℕ → ℕ → ℕ → ℕ
figure_at ns q i a = 4 * node_at ns q i + a

-- the values of the arguments of the rule for attribute a at place i, which node q's production holds
abbrev pub argument_figures : Grammar → List Node → ℕ → ℕ → ℕ → List ℕ
argument_figures g ns q i a = map (λ o. figure_at ns q o.place o.attribute) (arguments g (at ns q).production i a)

-- `rule` is the function of each rule, by production, place and attribute, and `stored` what each value means.
module _ {M : Type 0} (g : Grammar) (rule : ℕ → ℕ → ℕ → ℤ → List M → M) (ns : List Node) (stored : ℕ → M) where
  -- the rule for attribute a at place i, which node q's production holds, is satisfied
  abbrev pub Satisfied : ℕ → ℕ → ℕ → Type 0
  Satisfied q i a = stored (figure_at ns q i a) ≡ rule (at ns q).production i a (at ns q).literal (map stored (argument_figures g ns q i a))

  -- Node q is consistent: every rule that its production holds is satisfied there.
  abbrev pub ConsistentAt : ℕ → Type 0
  ConsistentAt q = (i a : ℕ) → Given g (at ns q).production i a → Satisfied q i a

  -- every used node outside a set is consistent
  abbrev pub ConsistentOutside : (ℕ → Type 0) → Type 0
  ConsistentOutside S = (q : ℕ) → Used ns q → (S q → ⊥) → ConsistentAt q
