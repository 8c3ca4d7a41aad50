-- What the inner functions of the test compute, as functions of the table: one production's local graph, its closure, and the relations found so far.
-- Nobody has to believe this file to read the test's contract, which speaks of trees alone.
use Rattle.std.specs.Prelude.{◌≡◌, ℕ, zero, suc, ◌+◌, ◌-◌, ◌*◌, ◌/◌, ◌%◌, ◌^◌, ◌<◌, ◌≤◌, Bool, true, false, cond, ◌||◌, Option, Some, None, List, [], ◌∷◌, map, length, replicate, fold, bit_or, count_ones, take, sum_by, nat_lt, slice_index, slice_set}
use Rattle.std.specs.List.{range_with_len, enumerate_from, list_any}
use Rattle.grammar.specs.declared.language.Occurrence.{Occurrence}
use Rattle.grammar.specs.Grammar.{Grammar, child, arguments}
use Rattle.circularity.specs.declared.graph.Outcome.{Outcome}
use Rattle.circularity.specs.Bits.{has, with_bit, closed_below, field, pack}

-- the vertex of attribute a at place i, both below 4
abbrev pub vertex : ℕ → ℕ → ℕ
vertex i a = 4 * (i % 4) + a % 4

-- the vertices of some occurrences, as a set of bits
abbrev pub bits_of : List Occurrence → ℕ
bits_of os = fold (λ row o. with_bit row (vertex o.place o.attribute)) 0 os

-- the relation that a choice has for the tree at child place k, counted from 0
abbrev pub chosen : List ℕ → ℕ → ℕ
chosen c k = slice_index c k

-- The edges from attribute a of the production's own symbol: to the arguments of its rule, if it is synthesized.
abbrev pub parent_row : Grammar → ℕ → ℕ → ℕ
parent_row g p a =
    cond (nat_lt a (g.inherited (g.symbol p))) 0
    (cond (nat_lt (a - g.inherited (g.symbol p)) (g.synthesized (g.symbol p))) (bits_of (arguments g p 0 a)) 0)

-- The edges from attribute a at child place k: to the arguments of its rule, if it is inherited;
-- if it is synthesized, to the inherited attributes on which it depends by the chosen relation.
abbrev pub child_row : Grammar → ℕ → List ℕ → ℕ → ℕ → ℕ
child_row g p c k a =
    cond (nat_lt k (length (g.children p)))
    (cond (nat_lt a (g.inherited (child g p k))) (bits_of (arguments g p (k + 1) a))
    (cond (nat_lt (a - g.inherited (child g p k)) (g.synthesized (child g p k)))
    ((field (g.inherited (child g p k)) (chosen c k) (a - g.inherited (child g p k)) * 2 ^ (4 * (k + 1))) % 2 ^ 16)
    0))
    0

abbrev pub row_of : Grammar → ℕ → List ℕ → ℕ → ℕ
row_of g p c v = cond (nat_lt v 4) (parent_row g p v) (child_row g p c (v / 4 - 1) (v % 4))

-- the local graph of a production: a row of edges for each vertex
abbrev pub rows_of : Grammar → ℕ → List ℕ → List ℕ
rows_of g p c = map (row_of g p c) (range_with_len 0 16)

-- some vertex lies on a cycle of a closed graph: its row has an edge to itself
abbrev pub has_cycle : List ℕ → Bool
has_cycle rows = list_any (λ vertex_row. has vertex_row.1 vertex_row.0) (enumerate_from 0 rows)

-- the relation that a closed graph gives the production's own symbol, with h inherited and s synthesized attributes
abbrev pub relation_in : List ℕ → ℕ → ℕ → ℕ
relation_in rows h s = pack h (λ j. slice_index rows (h + j) % 2 ^ h) s

abbrev pub outcome_of_closed : Grammar → ℕ → List ℕ → Outcome
outcome_of_closed g p rows = record {
  relations = (1 * 2 ^ relation_in rows (g.inherited (g.symbol p)) (g.synthesized (g.symbol p))) % 2 ^ 16;
  cyclic = has_cycle rows;
}

-- what one choice of the children's relations gives: the relation of the production's trees, as a set of one, and whether there is a cycle
abbrev pub outcome_of : Grammar → ℕ → List ℕ → Outcome
outcome_of g p c = outcome_of_closed g p (closed_below 16 (rows_of g p c))

-- the same, as a word that a proof opens by name alone, since what it unfolds to is long
unfoldable pub outcome : Grammar → ℕ → List ℕ → Outcome
outcome g p c = outcome_of g p c

abbrev pub nothing_found : Outcome
nothing_found = record { relations = 0; cyclic = false }

abbrev pub joined : Outcome → Outcome → Outcome
joined x y = record { relations = bit_or x.relations y.relations; cyclic = x.cyclic || y.cyclic }

-- x, with y joined to it if so asked
abbrev pub joined_if : Bool → Outcome → Outcome → Outcome
joined_if true x y = joined x y
joined_if false x y = x

-- what the relations below n that are in a set give, joined
abbrev pub gathered_below : (ℕ → Outcome) → ℕ → ℕ → Outcome
gathered_below f set zero = nothing_found
gathered_below f set (suc n) = joined_if (has set n) (gathered_below f set n) (f n)

-- what all relations in a set give, joined; again a word that a proof opens by name alone
unfoldable pub gathered : (ℕ → Outcome) → ℕ → Outcome
gathered f set = gathered_below f set 16

-- what is known of child k, counted from 0: its symbol, or that there is no such child
abbrev pub ChildAt : Grammar → ℕ → ℕ → Option ℕ → Type 0
ChildAt g p k (Some s) = (k < length (g.children p)) × (s ≡ child g p k)
ChildAt g p k None = length (g.children p) ≤ k

-- the set of relations to choose from at child place k: those found for the child's symbol, or the empty relation alone where there is no child
abbrev pub choices_at : Grammar → ℕ → List ℕ → ℕ → ℕ
choices_at g p masks k = cond (nat_lt k (length (g.children p))) (slice_index masks (child g p k)) 1

abbrev pub choice : ℕ → ℕ → ℕ → List ℕ
choice x y z = x ∷ y ∷ z ∷ []

-- what all choices of the children's relations found so far give
abbrev pub found_by : Grammar → ℕ → List ℕ → Outcome
found_by g p masks =
    gathered_below (λ x. gathered_below (λ y. gathered_below (λ z. outcome_of g p (choice x y z)) (choices_at g p masks 2) 16) (choices_at g p masks 1) 16)
    (choices_at g p masks 0) 16

-- the sets of relations after the productions below n have each added what they find
abbrev pub grown : Grammar → ℕ → List ℕ → List ℕ
grown g zero masks = masks
grown g (suc p) masks =
    let before = grown g p masks in
    slice_set before (g.symbol p) (bit_or (slice_index before (g.symbol p)) (found_by g p before).relations)

-- the sets after n rounds, from nothing
abbrev pub rounds : Grammar → ℕ → List ℕ
rounds g zero = replicate 16 0
rounds g (suc n) = grown g g.productions (rounds g n)

-- The sets are what some rounds from nothing give, and one more round adds nothing.
pub record Saturated (g : Grammar) (masks : List ℕ) : Type 0 where
  pub turns : ℕ
  pub made : masks ≡ rounds g turns
  pub still : grown g g.productions masks ≡ masks

-- how many relations are in the sets of the first n symbols
abbrev pub counted : List ℕ → ℕ → ℕ
counted masks n = sum_by count_ones (take n masks)
