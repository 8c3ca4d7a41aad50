-- Numbers as rows of fields of h bits each: what a packed number's fields are, and that the fields tell numbers apart.
use Rattle.std.proofs.Common.{◌≡◌, ℕ, zero, suc, ◌+◌, ◌-◌, ◌*◌, ◌/◌, ◌%◌, ◌^◌, ◌<◌, ◌≤◌, sym, ap, ◌∙◌, subst, ap₂, inl, inr, mod-lt, mod-eq_of_lt, add_comm, mul-le-mul_left, mul-zero, zero-mul, mul-suc, arith, pow_pos, pow-add, shl_exact}
use lib.Arith.{digits_lt}
use lib.Bits.{bit_or, or_shifted_r}
use lib.Pow.{high, low, mod-mod-pow, recompose}
use lib.Pow as pow
use Rattle.std.proofs.lemmas.Bool.{cases_lt}
use Rattle.circularity.specs.Bits.{field, pack}

pub field_below : (h r j : ℕ) → field h r j < 2 ^ h
field_below h r j = mod-lt (r / 2 ^ (h * j)) (pow_pos h)

-- the bits of one field more
one_more : (h n : ℕ) → h * suc n ≡ h + h * n
one_more h n = mul-suc h n ∙ add_comm (h * n) h

-- a field lies in the low part of a number
field_of_mod : (h r n j : ℕ) → j < n → field h (r % 2 ^ (h * n)) j ≡ field h r j
field_of_mod h r n j l =
    let room : h * suc j ≤ h * n = mul-le-mul_left h l in
    let d = h * n - (h + h * j) in
    let e : h * n ≡ (d + h) + h * j = omega (arith, one_more h j) in
    ap (λ (x : ℕ). field h (r % 2 ^ x) j) e
    ∙ ap (λ (x : ℕ). x % 2 ^ h) (pow.field r (d + h) (h * j))
    ∙ mod-mod-pow (r / 2 ^ (h * j)) d h

module _ (h : ℕ) (f : ℕ → ℕ) (small : (j : ℕ) → f j < 2 ^ h) where
  -- in 16 bits, packing one more field adds it above the others
  pack_step : (n : ℕ) → pack h f n < 2 ^ (h * n) → h * suc n ≤ 16 → pack h f (suc n) ≡ f n * 2 ^ (h * n) + pack h f n
  pack_step n below fits =
      ap (bit_or (pack h f n)) (shl_exact h (h * n) 16 (small n) (omega (arith, one_more h n)))
      ∙ or_shifted_r (f n) (h * n) (pack h f n) below

  packed_below : (n : ℕ) → h * n ≤ 16 → pack h f n < 2 ^ (h * n)
  packed_below zero fits = pow_pos (h * zero)
  packed_below (suc n) fits =
      let below : pack h f n < 2 ^ (h * n) = packed_below n (omega (arith, one_more h n)) in
      let room : 2 ^ (h * suc n) ≡ 2 ^ h * 2 ^ (h * n) = ap (λ (x : ℕ). 2 ^ x) (one_more h n) ∙ pow-add 2 h (h * n) in
      omega (arith, pack_step n below fits, room, digits_lt {q = f n} {m = 2 ^ h} (small n) below)

  packed_field : (n : ℕ) → h * n ≤ 16 → (j : ℕ) → j < n → field h (pack h f n) j ≡ f j
  packed_field zero fits j l = absurd (omega arith)
  packed_field (suc n) fits j l =
      let fits' : h * n ≤ 16 = omega (arith, one_more h n) in
      let below : pack h f n < 2 ^ (h * n) = packed_below n fits' in
      let step : pack h f (suc n) ≡ f n * 2 ^ (h * n) + pack h f n = pack_step n below fits in
      elim (cases_lt j n) [
        | inl before ↦
            sym (field_of_mod h (pack h f (suc n)) n j before)
            ∙ ap (λ (x : ℕ). field h x j) (ap (λ (x : ℕ). x % 2 ^ (h * n)) step ∙ low (f n) (h * n) below)
            ∙ packed_field n fits' j before
        | inr after ↦
            (let e : n ≡ j = omega arith in
            subst (λ (x : ℕ). field h (pack h f (suc n)) x ≡ f x) e
            (ap (λ (x : ℕ). x % 2 ^ h) (ap (λ (x : ℕ). x / 2 ^ (h * n)) step ∙ high (f n) (h * n) below) ∙ mod-eq_of_lt (small n)))
      ]

pub pack_below : (h n : ℕ) (f : ℕ → ℕ) → ((j : ℕ) → f j < 2 ^ h) → h * n ≤ 16 → pack h f n < 2 ^ (h * n)
pack_below h n f small fits = packed_below h f small n fits

pub field_pack : (h n : ℕ) (f : ℕ → ℕ) → ((j : ℕ) → f j < 2 ^ h) → h * n ≤ 16 → (j : ℕ) → j < n → field h (pack h f n) j ≡ f j
field_pack h n f small fits j l = packed_field h f small n fits j l

-- the highest field stands above the rest
top_field : (h n r : ℕ) → r < 2 ^ (h * suc n) → field h r n * 2 ^ (h * n) + r % 2 ^ (h * n) ≡ r
top_field h n r l = recompose h (h * n) (subst (λ (x : ℕ). r < 2 ^ x) (one_more h n) l)

pub fields_same : (h n r q : ℕ) → r < 2 ^ (h * n) → q < 2 ^ (h * n) → ((j : ℕ) → j < n → field h r j ≡ field h q j) → r ≡ q
fields_same h zero r q hr hq same =
    let e : 2 ^ (h * zero) ≡ 1 = ap (λ (x : ℕ). 2 ^ x) (mul-zero h) in
    omega (arith, e)
fields_same h (suc n) r q hr hq same =
    let rest : r % 2 ^ (h * n) ≡ q % 2 ^ (h * n) =
    fields_same h n (r % 2 ^ (h * n)) (q % 2 ^ (h * n)) (mod-lt r (pow_pos (h * n))) (mod-lt q (pow_pos (h * n)))
    (λ j l. field_of_mod h r n j l ∙ same j (omega arith) ∙ sym (field_of_mod h q n j l)) in
    sym (top_field h n r hr) ∙ ap₂ (λ (x y : ℕ). x * 2 ^ (h * n) + y) (same n (omega arith)) rest ∙ top_field h n q hq

-- with four attributes at most, no more than four pairs
pub few_pairs : (h s : ℕ) → h + s ≤ 4 → h * s ≤ 4
few_pairs zero s l = omega (arith, zero-mul s)
few_pairs (suc zero) s l = omega arith
few_pairs (suc (suc zero)) s l = omega arith
few_pairs (suc (suc (suc zero))) s l = omega arith
few_pairs (suc (suc (suc (suc zero)))) s l = omega arith
few_pairs (suc (suc (suc (suc (suc h))))) s l = absurd (omega arith)
