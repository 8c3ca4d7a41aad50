-- Small numbers: a symbol has at most four attributes, so a relation has at most four pairs, and its number is below 16.
use Rattle.std.proofs.Common.{ℕ, ◌+◌, ◌*◌, ◌%◌, ◌^◌, ◌<◌, ◌≤◌, List, get_or, arith, pow_pos, pow_mono}
use Rattle.std.proofs.lemmas.Nat.{mod_below}
use Rattle.grammar.specs.Grammar.{Grammar, attributes}
use Rattle.grammar.specs.Text.{Segment}
use Rattle.grammar.specs.Limits.{Limits}
use Rattle.circularity.specs.Working.{relation_in}
use Rattle.circularity.proofs.Fields.{pack_below, few_pairs}

pub power_small : (h : ℕ) → h ≤ 4 → 2 ^ h ≤ 16
power_small h le = pow_mono le

pub relation_inside : (rows : List ℕ) (h s : ℕ) → h + s ≤ 4 → relation_in rows h s < 2 ^ (h * s)
relation_inside rows h s few =
    pack_below h s (λ j. get_or rows (h + j) 0 % 2 ^ h) (λ j. mod_below (get_or rows (h + j) 0) (2 ^ h) (pow_pos h)) (omega (arith, few_pairs h s few))

pub relation_below : (rows : List ℕ) (h s : ℕ) → h + s ≤ 4 → relation_in rows h s < 16
relation_below rows h s few = omega (arith, relation_inside rows h s few, power_small (h * s) (few_pairs h s few))

pub own_attributes : (g : Grammar) (text : ℕ → List Segment) → Limits g text → (p : ℕ) → p < g.productions → attributes g (g.symbol p) ≤ 4
own_attributes g text lim p h = lim.few_attributes (g.symbol p) (lim.each p h).symbol_exists

pub own_symbol : (g : Grammar) (text : ℕ → List Segment) → Limits g text → (p : ℕ) → p < g.productions → g.symbol p < 16
own_symbol g text lim p exists = omega (arith, (lim.each p exists).symbol_exists, lim.few_symbols)
