-- The waiting list: a stack over lent slots. With len entries on it, it holds the first len slots, the last of them on top.
use Rattle.std.specs.Prelude.{◌≡◌, ℕ, ◌+◌, ◌<◌, ◌≤◌, List, [], ◌∷◌, ◌++◌, length, take, Some, None, Option, Ok, Err, Result, slice_set}

-- Slots and count are as they were.
pub record Untouched {T : Type 0} (slots slots' : List T) (len len' : ℕ) : Type 0 where
  pub same_slots : slots' ≡ slots
  pub same_count : len' ≡ len

-- The entry has come on top. It was written behind the others, and every other slot stays.
pub record Pushed {T : Type 0} (x : T) (slots slots' : List T) (len len' : ℕ) : Type 0 where
  pub count : len' ≡ len + 1
  pub written : slots' ≡ slice_set slots len x
  pub held : take len' slots' ≡ take len slots ++ (x ∷ [])

-- The top entry has been taken off. Every slot stays.
pub record Popped {T : Type 0} (x : T) (slots slots' : List T) (len len' : ℕ) : Type 0 where
  pub count : len ≡ len' + 1
  pub same_slots : slots' ≡ slots
  pub held : take len slots ≡ take len' slots ++ (x ∷ [])

-- what a push answers: nothing, or the entry back where every slot is taken
abbrev pub PushAnswer : {T : Type 0} → T → List T → List T → ℕ → ℕ → Result Unit T → Type 0
PushAnswer x slots slots' len len' (Ok done) = (len < length slots) × Pushed x slots slots' len len'
PushAnswer x slots slots' len len' (Err y) = (length slots ≤ len) × Untouched slots slots' len len' × (y ≡ x)

-- what a pop answers: the top entry, or none where the stack is empty
abbrev pub PopAnswer : {T : Type 0} → List T → List T → ℕ → ℕ → Option T → Type 0
PopAnswer slots slots' len len' None = (len ≡ 0) × Untouched slots slots' len len'
PopAnswer slots slots' len len' (Some x) = Popped x slots slots' len len'
