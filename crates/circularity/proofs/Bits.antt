-- Numbers as sets of bits: which bits a union, a power of two, a shifted number and a remainder have, and that the bits tell numbers apart.
use Rattle.std.proofs.Common.{◌≡◌, ℕ, zero, suc, ◌+◌, ◌-◌, ◌*◌, ◌/◌, ◌%◌, ◌^◌, ◌<◌, ◌≤◌, Bool, true, false, ◌||◌, T, eqb, ◌⊎◌, sym, refl, ap, ◌∙◌, subst, inl, inr, lt_of_lt_of_le, mod-lt, mul_assoc, pow-suc, div-one, add-one, arith, lit<, pow_pos, pow_mono, pow-add, shl_exact, shr-shr}
use native.Mathlib.Nat.{div-eq_of_lt, div_self}
use lib.Bits.{bit_or, or_shr, or_mod, or_lt, or_add_and, and_le_r, shifted_even}
use lib.Pow.{shl-shr, field, mod-mod-pow}
use Rattle.std.proofs.lemmas.Nat.{one_shl}
use Rattle.std.proofs.lemmas.Bool.{cases_lt, true≢false}
use Rattle.circularity.specs.Bits.{has, with_bit}

-- ---- tests

pub T_true : (b : Bool) → b ≡ true → T b
T_true b e = subst T (sym e) tt

pub T_false : (b : Bool) → b ≡ false → T b → ⊥
T_false b e t = subst T e t

pub true_T : (b : Bool) → T b → b ≡ true
true_T true t = refl
true_T false t = elim t [ ]

pub false_T : (b : Bool) → (T b → ⊥) → b ≡ false
false_T true n = absurd (n tt)
false_T false n = refl

pub T_same : (a b : Bool) → (T a → T b) → (T b → T a) → a ≡ b
T_same true b f g = sym (true_T b (f tt))
T_same false b f g = sym (false_T b g)

pub T_along : (a b : Bool) → a ≡ b → T a → T b
T_along a b e t = subst T e t

pub T_back : (a b : Bool) → a ≡ b → T b → T a
T_back a b e t = subst T (sym e) t

pub T_either : (a b : Bool) → T (a || b) → T a ⊎ T b
T_either true b t = inl tt
T_either false b t = inr t

pub T_left : (a b : Bool) → T a → T (a || b)
T_left true b t = tt
T_left false b t = elim t [ ]

pub T_right : (a b : Bool) → T b → T (a || b)
T_right true b t = tt
T_right false b t = t

-- ---- a union has the bits of both

digit_or : (x y : ℕ) → x < 2 → y < 2 → eqb (bit_or x y) 1 ≡ (eqb x 1 || eqb y 1)
digit_or zero y hx hy = refl
digit_or (suc zero) zero hx hy = refl
digit_or (suc zero) (suc zero) hx hy = refl
digit_or (suc zero) (suc (suc y)) hx hy = absurd (omega arith)
digit_or (suc (suc x)) y hx hy = absurd (omega arith)

pub has_or : (a b j : ℕ) → has (bit_or a b) j ≡ (has a j || has b j)
has_or a b j =
    ap (λ (x : ℕ). eqb (x % 2) 1) (or_shr a b j)
    ∙ ap (λ (x : ℕ). eqb x 1) (or_mod (a / 2 ^ j) (b / 2 ^ j) 1)
    ∙ digit_or ((a / 2 ^ j) % 2) ((b / 2 ^ j) % 2) (mod-lt (a / 2 ^ j) (lit< tt)) (mod-lt (b / 2 ^ j) (lit< tt))

pub or_has : (a b j : ℕ) → T (has (bit_or a b) j) → T (has a j) ⊎ T (has b j)
or_has a b j t = T_either (has a j) (has b j) (T_along (has (bit_or a b) j) (has a j || has b j) (has_or a b j) t)

pub or_has_left : (a b j : ℕ) → T (has a j) → T (has (bit_or a b) j)
or_has_left a b j t = T_back (has (bit_or a b) j) (has a j || has b j) (has_or a b j) (T_left (has a j) (has b j) t)

pub or_has_right : (a b j : ℕ) → T (has b j) → T (has (bit_or a b) j)
or_has_right a b j t = T_back (has (bit_or a b) j) (has a j || has b j) (has_or a b j) (T_right (has a j) (has b j) t)

pub or_same_means_below : (a b : ℕ) → bit_or a b ≡ a → (j : ℕ) → T (has b j) → T (has a j)
or_same_means_below a b e j t = subst (λ (x : ℕ). T (has x j)) e (or_has_right a b j t)

pub or_grows : (a b : ℕ) → a ≤ bit_or a b
or_grows a b = omega (arith, or_add_and a b, and_le_r a b)

-- ---- no bit past a bound

no_bit : (x j : ℕ) → x / 2 ^ j ≡ 0 → has x j ≡ false
no_bit x j e = ap (λ (y : ℕ). eqb (y % 2) 1) e

pub has_high : (n x j : ℕ) → x < 2 ^ n → n ≤ j → has x j ≡ false
has_high n x j h le = no_bit x j (div-eq_of_lt (lt_of_lt_of_le h (pow_mono le)))

pub has_below : (n x j : ℕ) → x < 2 ^ n → T (has x j) → j < n
has_below n x j h t = elim (cases_lt j n) [ inl l ↦ l | inr le ↦ absurd (T_false (has x j) (has_high n x j h le) t) ]

pub has_zero : (j : ℕ) → has 0 j ≡ false
has_zero j = has_high 0 0 j (lit< tt) (omega arith)

-- ---- a shifted number

-- what is at bit b stands at bit i + b
has_shl : (x i b : ℕ) → has (x * 2 ^ i) (i + b) ≡ has x b
has_shl x i b =
    ap (λ (y : ℕ). eqb (y % 2) 1) (sym (shr-shr (x * 2 ^ i) i b))
    ∙ ap (λ (y : ℕ). eqb ((y / 2 ^ b) % 2) 1) (shl-shr x i)

-- and below bit i there is none
low_of_shl : (x d j : ℕ) → has (x * 2 ^ (suc d + j)) j ≡ false
low_of_shl x d j =
    let f : x * 2 ^ (suc d + j) ≡ x * 2 ^ suc d * 2 ^ j = ap (λ (y : ℕ). x * y) (pow-add 2 (suc d) j) ∙ sym (mul_assoc x (2 ^ suc d) (2 ^ j)) in
    ap (λ (y : ℕ). eqb ((y / 2 ^ j) % 2) 1) f ∙ ap (λ (y : ℕ). eqb (y % 2) 1) (shl-shr (x * 2 ^ suc d) j) ∙ ap (λ (y : ℕ). eqb y 1) (shifted_even x d)

has_shl_low : (x i j : ℕ) → j < i → has (x * 2 ^ i) j ≡ false
has_shl_low x i j h =
    let e : i ≡ suc (i - suc j) + j = omega arith in
    ap (λ (y : ℕ). has (x * 2 ^ y) j) e ∙ low_of_shl x (i - suc j) j

shl_has : (x i j : ℕ) → T (has (x * 2 ^ i) j) → (b : ℕ) × (j ≡ i + b) × T (has x b)
shl_has x i j t =
    elim (cases_lt j i) [
      | inl l ↦ absurd (T_false (has (x * 2 ^ i) j) (has_shl_low x i j l) t)
      | inr le ↦
          (let e : j ≡ i + (j - i) = omega arith in
          (j - i, e, T_along (has (x * 2 ^ i) j) (has x (j - i)) (ap (has (x * 2 ^ i)) e ∙ has_shl x i (j - i)) t))
    ]

-- the same in 16 bits, where nothing is shifted out
pub has_shifted : (x i n j : ℕ) → x < 2 ^ n → n + i ≤ 16 → T (has ((x * 2 ^ i) % 2 ^ 16) j) → (b : ℕ) × (b < n) × (j ≡ i + b) × T (has x b)
has_shifted x i n j small fits t =
    let s = shl_has x i j (subst (λ (y : ℕ). T (has y j)) (shl_exact n i 16 small fits) t) in
    (s.0, has_below n x s.0 small s.2, s.1, s.2)

pub shifted_has : (x i n b : ℕ) → x < 2 ^ n → n + i ≤ 16 → T (has x b) → T (has ((x * 2 ^ i) % 2 ^ 16) (i + b))
shifted_has x i n b small fits t =
    subst (λ (y : ℕ). T (has y (i + b))) (sym (shl_exact n i 16 small fits)) (T_back (has (x * 2 ^ i) (i + b)) (has x b) (has_shl x i b) t)

pub shifted_below : (x i : ℕ) → (x * 2 ^ i) % 2 ^ 16 < 2 ^ 16
shifted_below x i = mod-lt (x * 2 ^ i) (pow_pos 16)

-- ---- a power of two

pub power_has : (k : ℕ) → T (has (2 ^ k) k)
power_has k =
    let e : 2 ^ k / 2 ^ k ≡ 1 = div_self (pow_pos k) in
    T_true (has (2 ^ k) k) (ap (λ (y : ℕ). eqb (y % 2) 1) e)

pub has_power_only : (k j : ℕ) → T (has (2 ^ k) j) → k ≡ j
has_power_only k j t =
    let e : 2 ^ k ≡ 1 * 2 ^ k = omega arith in
    let s = shl_has 1 k j (subst (λ (y : ℕ). T (has y j)) e t) in
    let b : s.0 < 1 = has_below 1 1 s.0 (lit< tt) s.2 in
    omega (arith, s.1)

-- ---- a number with one more bit

pub has_with_bit : (r k j : ℕ) → k < 16 → T (has (with_bit r k) j) → T (has r j) ⊎ (k ≡ j)
has_with_bit r k j h t =
    elim (or_has r ((1 * 2 ^ k) % 2 ^ 16) j t) [
      | inl u ↦ inl u
      | inr u ↦ inr (has_power_only k j (subst (λ (x : ℕ). T (has x j)) (one_shl k 16 h) u))
    ]

pub with_bit_keeps : (r k j : ℕ) → T (has r j) → T (has (with_bit r k) j)
with_bit_keeps r k j t = or_has_left r ((1 * 2 ^ k) % 2 ^ 16) j t

pub with_bit_sets : (r k : ℕ) → k < 16 → T (has (with_bit r k) k)
with_bit_sets r k h = or_has_right r ((1 * 2 ^ k) % 2 ^ 16) k (subst (λ (x : ℕ). T (has x k)) (sym (one_shl k 16 h)) (power_has k))

pub with_bit_below : (r k : ℕ) → r < 2 ^ 16 → with_bit r k < 2 ^ 16
with_bit_below r k h = or_lt 16 r ((1 * 2 ^ k) % 2 ^ 16) h (shifted_below 1 k)

-- ---- the lower bits, and the bits of a half

mod_has : (x d b : ℕ) → has (x % 2 ^ (suc d + b)) b ≡ has x b
mod_has x d b =
    ap (λ (y : ℕ). eqb (y % 2) 1) (field x (suc d) b)
    ∙ ap (λ (y : ℕ). eqb ((x / 2 ^ b) % 2 ^ y % 2) 1) (sym (add-one d))
    ∙ ap (λ (y : ℕ). eqb y 1) (mod-mod-pow (x / 2 ^ b) d 1)

pub has_mod : (x h b : ℕ) → b < h → has (x % 2 ^ h) b ≡ has x b
has_mod x h b l =
    let e : h ≡ suc (h - suc b) + b = omega arith in
    ap (λ (y : ℕ). has (x % 2 ^ y) b) e ∙ mod_has x (h - suc b) b

pub has_half : (x b : ℕ) → has (x / 2) b ≡ has x (suc b)
has_half x b = let e : 1 + b ≡ suc b = omega arith in ap (λ (y : ℕ). eqb (y % 2) 1) (shr-shr x 1 b ∙ ap (λ (y : ℕ). x / 2 ^ y) e)

pub has_lowest : (x : ℕ) → has x 0 ≡ eqb (x % 2) 1
has_lowest x = ap (λ (y : ℕ). eqb (y % 2) 1) (div-one x)

-- ---- the bits tell numbers apart

digit_same : (x y : ℕ) → x < 2 → y < 2 → eqb x 1 ≡ eqb y 1 → x ≡ y
digit_same zero zero hx hy e = refl
digit_same zero (suc zero) hx hy e = absurd (true≢false (sym e))
digit_same zero (suc (suc y)) hx hy e = absurd (omega arith)
digit_same (suc zero) zero hx hy e = absurd (true≢false e)
digit_same (suc zero) (suc zero) hx hy e = refl
digit_same (suc zero) (suc (suc y)) hx hy e = absurd (omega arith)
digit_same (suc (suc x)) y hx hy e = absurd (omega arith)

same_digits : (h x y : ℕ) → x < 2 ^ h → y < 2 ^ h → ((b : ℕ) → b < h → has x b ≡ has y b) → x ≡ y
same_digits zero x y hx hy same = omega arith
same_digits (suc h) x y hx hy same =
    let p = pow-suc 2 h in
    let halves : x / 2 ≡ y / 2 =
    same_digits h (x / 2) (y / 2) (omega (arith, p)) (omega (arith, p)) (λ b l. has_half x b ∙ same (suc b) (omega arith) ∙ sym (has_half y b)) in
    let lowest : x % 2 ≡ y % 2 =
    digit_same (x % 2) (y % 2) (omega arith) (omega arith) (sym (has_lowest x) ∙ same 0 (omega arith) ∙ has_lowest y) in
    omega arith

pub bits_same : (h x y : ℕ) → x < 2 ^ h → y < 2 ^ h → ((b : ℕ) → b < h → (T (has x b) → T (has y b)) × (T (has y b) → T (has x b))) → x ≡ y
bits_same h x y hx hy same = same_digits h x y hx hy (λ b l. T_same (has x b) (has y b) (same b l).0 (same b l).1)
