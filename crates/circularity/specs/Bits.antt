-- Numbers as sets of bits, and the closure of a graph that is held as rows of bits: what the inner functions of the test compute.
-- Nobody has to believe this file to read the test's contract, which speaks of trees alone.
use Rattle.std.specs.Prelude.{ℕ, zero, suc, ◌*◌, ◌/◌, ◌%◌, ◌^◌, Bool, true, false, List, map, ◌==◌, bit_or, slice_index}

-- whether bit j of r is set
abbrev pub has : ℕ → ℕ → Bool
has r j = (r / 2 ^ j) % 2 == 1

-- r with bit j set, in 16 bits
abbrev pub with_bit : ℕ → ℕ → ℕ
with_bit r j = bit_or r ((1 * 2 ^ j) % 2 ^ 16)

-- One turn of the closure: every row that has an edge to vertex m takes over m's edges.
abbrev pub through : ℕ → List ℕ → List ℕ
through m rows = map (λ row. elim (has row m) [ true ↦ bit_or row (slice_index rows m) | false ↦ row ]) rows

-- the turns for the vertices below m
abbrev pub closed_below : ℕ → List ℕ → List ℕ
closed_below zero rows = rows
closed_below (suc m) rows = through m (closed_below m rows)

-- field j of r, in fields of h bits
abbrev pub field : ℕ → ℕ → ℕ → ℕ
field h r j = (r / 2 ^ (h * j)) % 2 ^ h

-- the number with the fields f 0, f 1, .. f (n - 1)
abbrev pub pack : ℕ → (ℕ → ℕ) → ℕ → ℕ
pack h f zero = 0
pack h f (suc n) = bit_or (pack h f n) ((f n * 2 ^ (h * n)) % 2 ^ 16)
