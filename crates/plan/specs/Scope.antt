-- Scopes: a word whose bits 2k and 2k + 1 hold what is known of name k, for the names 0 to 31.
-- An entry is 0 for an undeclared name, 1 or 2 for the type that it was declared with, and 3 for a name that was declared twice.
use Rattle.std.specs.Prelude.{◌≡◌, ℕ, zero, suc, ◌+◌, ◌*◌, ◌/◌, ◌%◌, ◌^◌, ◌<◌, cond, ◌==◌}

-- the entry of a name; past the last name it is 0
abbrev pub entry : ℕ → ℕ → ℕ
entry scope name = scope / 2 ^ (2 * name) % 4

-- the word with the given entries for the names below n
abbrev pub word : (ℕ → ℕ) → ℕ → ℕ
word entries zero = 0
word entries (suc n) = word entries n + entries n * 2 ^ (2 * n)

-- the scope with the given entries
unfoldable pub scope_of : (ℕ → ℕ) → ℕ
scope_of entries = word entries 32

-- each entry is 0, 1, 2 or 3
abbrev pub Small : (ℕ → ℕ) → Type 0
Small entries = (k : ℕ) → entries k < 4

-- A function of names, by its possible answers, gives these entries.
abbrev pub Gives : (ℕ → ℕ → Type 0) → (ℕ → ℕ) → Type 0
Gives answer entries = (k e : ℕ) → answer k e → e ≡ entries k

-- The entries after a name is declared with a type: its own is the type if it was 0, else 3; every other is as it was.
abbrev pub entry_declared : ℕ → ℕ → ℕ → ℕ → ℕ
entry_declared scope name type_number k = cond (k == name) (cond (entry scope k == 0) type_number 3) (entry scope k)

abbrev pub declared : ℕ → ℕ → ℕ → ℕ
declared scope name type_number = scope_of (entry_declared scope name type_number)

-- The entries of an inner scope laid over an outer one: the inner entry where that is not 0, else the outer one.
abbrev pub entry_overlaid : ℕ → ℕ → ℕ → ℕ
entry_overlaid inner outer k = cond (entry inner k == 0) (entry outer k) (entry inner k)

abbrev pub overlaid : ℕ → ℕ → ℕ
overlaid inner outer = scope_of (entry_overlaid inner outer)

-- What a reader may rely on: each name's entry in a scope that a rule makes, and that a scope is told by its 32 entries.
pub record ScopesByEntries : Type 0 where
  pub after_declaration : (scope name type_number k : ℕ) → type_number < 4 → k < 32 → entry (declared scope name type_number) k ≡ entry_declared scope name type_number k
  pub laid_over : (inner outer k : ℕ) → k < 32 → entry (overlaid inner outer) k ≡ entry_overlaid inner outer k
  pub told_by_entries : (s t : ℕ) → s < 2 ^ 64 → t < 2 ^ 64 → ((k : ℕ) → k < 32 → entry s k ≡ entry t k) → s ≡ t
