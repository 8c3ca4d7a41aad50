-- The new nodes of an edit are free, different and in the table.
use Rattle.std.proofs.Common.{◌≡◌, ℕ, zero, suc, ◌*◌, ◌<◌, ◌≤◌, Bool, true, false, List, [], ◌∷◌, length, get_or, take, sym, refl, ap, ◌∙◌, inl, inr, arith}
use Rattle.std.proofs.lemmas.List.{get_or-take, length-take-le}
use Rattle.table.specs.declared.node.Node.{Node}
use Rattle.table.specs.Nodes.{none, at}
use Rattle.table.specs.Represents.{In}
use Rattle.table.proofs.Reading.{below_or_not}
use Rattle.edit.specs.Fresh.{free_below, free_numbers, new_nodes, three, NewNodes}
use Rattle.edit.specs.Planting.{Apart, Roomy}

-- numbers of free nodes below a bound, each lower than the one before
pub record Falling (ns : List Node) (bound : ℕ) (xs : List ℕ) : Type 0 where
  pub free : (k : ℕ) → k < length xs → (at ns (get_or xs k none)).used ≡ false
  pub lower : (k : ℕ) → k < length xs → get_or xs k none < bound
  pub falls : (j k : ℕ) → j < k → k < length xs → get_or xs k none < get_or xs j none

falling_more : (ns : List Node) (b : ℕ) (xs : List ℕ) → (at ns b).used ≡ false → Falling ns b xs → Falling ns (suc b) (b ∷ xs)
falling_more ns b xs e f = record { free = free; lower = lower; falls = falls }
  where
    free : (k : ℕ) → k < length (b ∷ xs) → (at ns (get_or (b ∷ xs) k none)).used ≡ false
    free zero h = e
    free (suc k) h = f.free k (omega arith)

    lower : (k : ℕ) → k < length (b ∷ xs) → get_or (b ∷ xs) k none < suc b
    lower zero h = omega arith
    lower (suc k) h = omega (arith, f.lower k (omega arith))

    falls : (j k : ℕ) → j < k → k < length (b ∷ xs) → get_or (b ∷ xs) k none < get_or (b ∷ xs) j none
    falls j zero l h = absurd (omega arith)
    falls zero (suc k) l h = f.lower k (omega arith)
    falls (suc j) (suc k) l h = f.falls j k (omega arith) (omega arith)

falling_wider : (ns : List Node) (b : ℕ) (xs : List ℕ) → Falling ns b xs → Falling ns (suc b) xs
falling_wider ns b xs f = record { free = f.free; lower = λ k h. omega (arith, f.lower k h); falls = f.falls }

pub free_falling : (ns : List Node) (b : ℕ) → Falling ns b (free_below ns b)
free_falling ns zero = record { free = λ k h. absurd (omega arith); lower = λ k h. absurd (omega arith); falls = λ j k l h. absurd (omega arith) }
free_falling ns (suc b) = go (free_falling ns b) (at ns b).used refl
  where
    go : Falling ns b (free_below ns b) → (u : Bool) → (at ns b).used ≡ u → Falling ns (suc b) (free_below ns (suc b))
    go f true e = rw (e, free_below) (falling_wider ns b (free_below ns b) f)
    go f false e = rw (e, free_below) (falling_more ns b (free_below ns b) e f)

-- the child fields by place
pub three_at : (xs : List ℕ) (k : ℕ) → k < 3 → get_or (three xs) k 0 ≡ get_or xs k none
three_at xs zero h = refl
three_at xs (suc zero) h = refl
three_at xs (suc (suc zero)) h = refl
three_at xs (suc (suc (suc k))) h = absurd (omega arith)

module _ (ns : List Node) (count : ℕ) (enough : count ≤ length (free_numbers ns)) where
  pub new_length : length (new_nodes ns count) ≡ count
  new_length = length-take-le count (free_numbers ns) enough

  pub new_falling : Falling ns (length ns) (new_nodes ns count)
  new_falling =
      let f = free_falling ns (length ns) in
      record {
        free = λ k h. rw (same k h) (f.free k (bound k h));
        lower = λ k h. rw (same k h) (f.lower k (bound k h));
        falls = λ j k l h. rw (same k h, same j (omega arith)) (f.falls j k l (bound k h));
      }
    where
      bound : (k : ℕ) → k < length (new_nodes ns count) → k < length (free_numbers ns)
      bound k h = omega (arith, h, new_length, enough)

      same : (k : ℕ) → k < length (new_nodes ns count) → get_or (new_nodes ns count) k none ≡ get_or (free_numbers ns) k none
      same k h = get_or-take count (free_numbers ns) k none (omega (arith, h, new_length))

-- a number of a list stands at some place, and what stands at a place is one of the numbers
pub place_in : (x : ℕ) (xs : List ℕ) → In x xs → (k : ℕ) × (k < length xs) × (get_or xs k none ≡ x)
place_in x [] i = absurd i
place_in x (y ∷ xs) (inl e) = (0, omega arith, sym e)
place_in x (y ∷ xs) (inr i) = let p = place_in x xs i in (suc p.0, omega (arith, p.1), p.2)

pub in_at : (xs : List ℕ) (k : ℕ) → k < length xs → In (get_or xs k none) xs
in_at [] k h = absurd (omega arith)
in_at (x ∷ xs) zero h = inl refl
in_at (x ∷ xs) (suc k) h = inr (in_at xs k (omega arith))

all_taken : (xs : List ℕ) → length xs ≤ 3 → take (length xs) (three xs) ≡ xs
all_taken [] h = refl
all_taken (x ∷ []) h = refl
all_taken (x ∷ y ∷ []) h = refl
all_taken (x ∷ y ∷ z ∷ []) h = refl
all_taken (x ∷ y ∷ z ∷ w ∷ xs) h = absurd (omega arith)

-- the child fields that name the new nodes
module _ (ns : List Node) (count : ℕ) (fields : List ℕ) (some : count ≤ 3) (new : NewNodes ns count fields) where
  pub field_is : (k : ℕ) → k < 3 → get_or fields k 0 ≡ get_or (new_nodes ns count) k none
  field_is k h = ap (λ xs. get_or xs k 0) new.named ∙ three_at (new_nodes ns count) k h

  pub new_place : (k : ℕ) → k < count → k < length (new_nodes ns count)
  new_place k h = omega (arith, h, new_length ns count new.enough)

  pub new_free : (k : ℕ) → k < count → (at ns (get_or (new_nodes ns count) k none)).used ≡ false
  new_free k h = (new_falling ns count new.enough).free k (new_place k h)

  pub new_inside : (k : ℕ) → k < count → get_or (new_nodes ns count) k none < length ns
  new_inside k h = (new_falling ns count new.enough).lower k (new_place k h)

  -- places with the same new node are the same
  pub new_alone : (j k : ℕ) → j < count → k < count → get_or (new_nodes ns count) j none ≡ get_or (new_nodes ns count) k none → j ≡ k
  new_alone j k h l e = elim (below_or_not j k) [
    | inl a ↦ absurd (omega (arith, e, (new_falling ns count new.enough).falls j k a (new_place k l)))
    | inr a ↦ elim (below_or_not k j) [
      | inl b ↦ absurd (omega (arith, e, (new_falling ns count new.enough).falls k j b (new_place j h)))
      | inr b ↦ omega arith
    ]
  ]

  pub new_apart : Apart (length ns) count fields
  new_apart = record {
    inside = λ k h. rw (field_is k (omega arith)) (new_inside k h);
    different = λ j k l h e. let same = new_alone j k (omega arith) h (sym (field_is j (omega arith)) ∙ sym e ∙ field_is k (omega arith)) in omega arith;
  }

  -- the new nodes are the first child fields
  pub taken_fields : take count fields ≡ new_nodes ns count
  taken_fields =
      let size = new_length ns count new.enough in
      ap (take count) new.named ∙ ap (λ k. take k (three (new_nodes ns count))) (sym size) ∙ all_taken (new_nodes ns count) (omega (arith, size, some))

  -- every new node has its four values
  pub new_roomy : (values : ℕ) → 4 * length ns ≤ values → Roomy values count fields
  new_roomy values room k h = omega (arith, room, new_apart.inside k h)
