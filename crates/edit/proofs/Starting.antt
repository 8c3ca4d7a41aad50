-- A new sheet: in a table of free nodes the new nodes have the highest numbers, and holes there and node 0 make the sheet.
use Rattle.std.proofs.Common.{◌≡◌, ℕ, zero, suc, ◌-◌, ◌<◌, ◌≤◌, true, ◌≢◌, List, ◌∷◌, length, get_or, take, set, pos, Option, Some, None, MatchOption, IsSome, sym, refl, ap, ◌∙◌, arith, length-set}
use Rattle.std.proofs.lemmas.List.{get_or-set_same, get_or-set_other, get_or_default}
use Rattle.grammar.specs.Grammar.{Grammar}
use Rattle.grammar.specs.Limits.{Limits}
use Rattle.grammar.specs.Text.{Segment}
use Rattle.table.specs.declared.node.Node.{Node}
use Rattle.table.specs.Nodes.{none, nowhere, at}
use Rattle.edit.specs.Fresh.{free_below, free_numbers, hole_record, three, NewNodes}
use Rattle.edit.specs.Edits.{highest, Made}
use Rattle.edit.specs.Planting.{Planted, Apart}
use Rattle.edit.specs.Starting.{FreeTo}
use Rattle.table.proofs.Children.{few_children}

down : (n k : ℕ) → highest (suc n) (suc k) ≡ n ∷ highest n k
down n k = let e : suc n - 1 ≡ n = omega arith in ap (λ m. m ∷ highest m k) e

-- all nodes below n are free, the highest first
all_free : (ns : List Node) (size : ℕ) → FreeTo size ns → (n : ℕ) → n ≤ size → free_below ns n ≡ highest n n
all_free ns size free zero h = refl
all_free ns size free (suc n) h = rw (ap (λ nd. nd.used) (free n (omega arith)), free_below) (ap (λ xs. n ∷ xs) (all_free ns size free n (omega arith)) ∙ sym (down n n))

-- the first of the highest numbers
first_highest : (n k : ℕ) → k ≤ n → take k (highest n n) ≡ highest n k
first_highest n zero h = refl
first_highest zero (suc k) h = absurd (omega arith)
first_highest (suc n) (suc k) h = ap (take (suc k)) (down n n) ∙ ap (λ xs. n ∷ xs) (first_highest n k (omega arith)) ∙ sym (down n k)

highest_length : (n k : ℕ) → length (highest n k) ≡ k
highest_length n zero = refl
highest_length n (suc k) = omega (arith, highest_length (n - 1) k)

-- the k-th of the highest numbers, as a child field
highest_at : (n count k : ℕ) → count ≤ 3 → k < count → get_or (three (highest n count)) k 0 ≡ n - 1 - k
highest_at n zero k few h = absurd (omega arith)
highest_at n (suc zero) zero few h = omega arith
highest_at n (suc zero) (suc k) few h = absurd (omega arith)
highest_at n (suc (suc zero)) zero few h = omega arith
highest_at n (suc (suc zero)) (suc zero) few h = omega arith
highest_at n (suc (suc zero)) (suc (suc k)) few h = absurd (omega arith)
highest_at n (suc (suc (suc zero))) zero few h = omega arith
highest_at n (suc (suc (suc zero))) (suc zero) few h = omega arith
highest_at n (suc (suc (suc zero))) (suc (suc zero)) few h = omega arith
highest_at n (suc (suc (suc zero))) (suc (suc (suc k))) few h = absurd (omega arith)
highest_at n (suc (suc (suc (suc count)))) k few h = absurd (omega arith)

-- The language was asked for the symbols of node 0's children, and all nodes are free.
module _ (g : Grammar) (text : ℕ → List Segment) (limits : Limits g text) (before : List Node) (free : FreeTo (length before) before) (room : length (g.children 0) < length before) (symbols : List ℕ) (asked : symbols ≡ g.children 0) where
  counted : length symbols ≡ length (g.children 0)
  counted = ap length asked

  few : length symbols ≤ 3
  few = few_children g text limits 0 limits.start.0 symbols asked

  all : free_numbers before ≡ highest (length before) (length before)
  all = all_free before (length before) free (length before) (omega arith)

  -- there are new nodes
  pub new_found : (found : Option (List ℕ)) → MatchOption found (length (free_numbers before) < length symbols) (NewNodes before (length symbols)) → IsSome found
  new_found None short = absurd (let many = ap length all ∙ highest_length (length before) (length before) in omega (arith, short, many, counted, room))
  new_found (Some fields) new = refl

  module _ (fields : List ℕ) (new : NewNodes before (length symbols) fields) where
    fields_are : fields ≡ three (highest (length before) (length symbols))
    fields_are =
        new.named ∙ ap (λ xs. three (take (length symbols) xs)) all
        ∙ ap three (first_highest (length before) (length symbols) (omega (arith, counted, room)))

    field_at : (k : ℕ) → k < length symbols → get_or fields k 0 ≡ length before - 1 - k
    field_at k h = ap (λ xs. get_or xs k 0) fields_are ∙ highest_at (length before) (length symbols) k few h

    pub holes_fit : (length symbols ≤ length fields) × Apart (length before) (length symbols) fields
    holes_fit = (
      omega (arith, few, ap length new.named),
      record {
        inside = λ k h. rw (field_at k h) (omega (arith, counted, room));
        different = λ j k l h. rw (field_at k h, field_at j (omega arith)) (omega (arith, counted, room));
      },
    )

    -- node 0 is put down over the holes
    pub made_of : (after : List Node) → Planted symbols 0 fields (length symbols) before after
        → Made g (length before) (set after 0 (record { used = true; production = 0; literal = pos 0; parent = none; children = fields }))
    made_of after planted = record {
      many = length-set after 0 start ∙ planted.many;
      start_is =
          get_or-set_same after 0 start nowhere (omega (arith, planted.many, counted, room))
          ∙ ap (λ xs. record { used = true; production = 0; literal = pos 0; parent = none; children = xs }) (fields_are ∙ ap (λ n. three (highest (length before) n)) counted);
      hole = λ k h.
          let inside : k < length symbols = omega (arith, counted, h) in
          other (length before - 1 - k) (omega (arith, counted, room)) ∙ ap (at after) (sym (field_at k inside)) ∙ planted.hole k inside
          ∙ ap (λ s. hole_record s 0) (ap (λ xs. get_or xs k 0) asked ∙ get_or_default (g.children 0) k 0 g.symbols h);
      free = λ n h i. other n h ∙ planted.same n (λ k l e. let f = field_at k l in omega (arith, e, f, counted)) ∙ free n (omega arith);
    }
      where
        start : Node
        start = record { used = true; production = 0; literal = pos 0; parent = none; children = fields }

        other : (n : ℕ) → 0 < n → at (set after 0 start) n ≡ at after n
        other n h = let apart : n ≢ 0 = omega arith in get_or-set_other after 0 n start nowhere apart
