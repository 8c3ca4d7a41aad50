-- Words made of entries: they fit, an entry can be read back, and a word is told by its entries.
use Rattle.std.proofs.Common.{map-id, ◌≡◌, ℕ, zero, suc, ◌+◌, ◌-◌, ◌*◌, ◌/◌, ◌%◌, ◌^◌, ◌<◌, ◌≤◌, Bool, true, false, cond, eqb, sym, refl, ap, ◌∙◌, subst, ⊎_elim, mod-eq_of_lt, mul_assoc, mul_comm, add-one, arith, bit_and, bit_or}
use native.Mathlib.Nat.{div-eq_of_lt, add-mul-mod_self_left}
use Rattle.std.proofs.lemmas.Bool.{cases_lt}
use Rattle.std.proofs.lemmas.Nat.{and_block, or_disjoint, pow-add, pow_pos, shl_whole, mod_below, mul-le, field_of, mod-pow-add, shr_high}
use Rattle.std.proofs.iter.Yields.{nat_range_steps, Range-gives, gives_Drains}
use Rattle.std.proofs.iter.runs.Made.{took}
use Rattle.std.specs.Int.Bits.{and_zero_l, and_zero_r}
use Rattle.std.specs.Iterator.Runs.{Run}
use Rattle.std.specs.declared.ops.Range.{Range}
use Rattle.std.specs.List.{fold, range_with_len}
use Rattle.plan.specs.Scope.{entry, word, Small, entry_declared, entry_overlaid}

pub entry_small : (scope : ℕ) → Small (entry scope)
entry_small scope k = mod_below (scope / 2 ^ (2 * k)) 4 (omega arith)

cond_small : (b : Bool) (m n : ℕ) → m < 4 → n < 4 → cond b m n < 4
cond_small true m n h h' = h
cond_small false m n h h' = h'

pub declared_small : (scope name type_number : ℕ) → type_number < 4 → Small (entry_declared scope name type_number)
declared_small scope name type_number h k =
    cond_small (eqb k name) _ _ (cond_small (eqb (entry scope k) 0) _ _ h (omega arith)) (entry_small scope k)

pub overlaid_small : (inner outer : ℕ) → Small (entry_overlaid inner outer)
overlaid_small inner outer k = cond_small (eqb (entry inner k) 0) _ _ (entry_small outer k) (entry_small inner k)

next_power : (n : ℕ) → 2 ^ (2 * suc n) ≡ 4 * 2 ^ (2 * n)
next_power n = let e : 2 * suc n ≡ 2 + 2 * n = omega arith in rw e (pow-add 2 2 (2 * n))

pub word_lt : (entries : ℕ → ℕ) → Small entries → (n : ℕ) → word entries n < 2 ^ (2 * n)
word_lt entries small zero = omega arith
word_lt entries small (suc n) =
    let below = word_lt entries small n in
    let four = next_power n in
    let three : entries n ≤ 3 = omega (arith, small n) in
    let more = mul-le (entries n) (2 ^ (2 * n)) 3 (2 ^ (2 * n)) three (omega arith) in
    omega arith

-- an entry past the last name
pub no_name : (scope name : ℕ) → scope < 2 ^ 64 → 32 ≤ name → 0 ≡ entry scope name
no_name scope name fits past =
    let rest = 2 * name - 64 in
    let e : 2 * name ≡ rest + 64 = omega arith in
    let split : 2 ^ (2 * name) ≡ 2 ^ rest * 2 ^ 64 = ap (λ k. 2 ^ k) e ∙ pow-add 2 rest 64 in
    let positive = pow_pos rest in
    let more = mul-le 1 (2 ^ 64) (2 ^ rest) (2 ^ 64) (omega arith) (omega arith) in
    let less : scope < 2 ^ (2 * name) = omega arith in
    sym (ap (λ q. q % 4) (div-eq_of_lt less))

-- a word with one entry more, as the code makes it
abbrev pub with_entry : (ℕ → ℕ) → ℕ → ℕ → ℕ
with_entry entries w k = bit_or w ((entries k * 2 ^ (2 * k)) % 2 ^ 64)

-- the fields of two entries share no bit, and the shift loses nothing
one_more : (entries : ℕ → ℕ) → Small entries → (k : ℕ) → k < 32 → with_entry entries (word entries k) k ≡ word entries (k + 1)
one_more entries small k h =
    let w = word entries k in
    let field = entries k * 2 ^ (2 * k) in
    let high : field + 0 ≡ field = omega arith in
    let low : 0 * 2 ^ (2 * k) + w ≡ w = omega arith in
    let none : bit_and 0 (entries k) * 2 ^ (2 * k) + bit_and w 0 ≡ 0 = omega (arith, and_zero_l (entries k), and_zero_r w) in
    let apart : bit_and w field ≡ 0 = cc (and_block (2 * k) 0 (entries k) w 0 (word_lt entries small k) (pow_pos (2 * k))) in
    ap (bit_or (word entries k)) (shl_whole (entries k) 2 (2 * k) 64 (small k) (omega arith))
    ∙ or_disjoint (word entries k) (entries k * 2 ^ (2 * k)) apart
    ∙ ap (word entries) (sym (add-one k))

-- the words that a fold over the names makes
folded_from : (entries : ℕ → ℕ) → Small entries → (n k : ℕ) → k + n ≤ 32 → fold (with_entry entries) (word entries k) (range_with_len k n) ≡ word entries (k + n)
folded_from entries small zero k h = ap (word entries) (omega arith)
folded_from entries small (suc n) k h =
    let e : (k + 1) + n ≡ k + suc n = omega arith in
    ap (λ w. fold (with_entry entries) w (range_with_len (k + 1) n)) (one_more entries small k (omega arith))
    ∙ folded_from entries small n (k + 1) (omega arith)
    ∙ ap (word entries) e

pub folded : (entries : ℕ → ℕ) → Small entries → fold (with_entry entries) 0 (range_with_len 0 32) ≡ word entries 32
folded entries small = folded_from entries small 32 0 (omega arith)

-- the items of a range, all of them
pub range_items : (p : Run nat_range_steps) (a b : ℕ) → p.from ≡ record { start = a; end = b } → p.whole ≡ true → p.items ≡ range_with_len a (b - a)
range_items p a b from whole =
    let last = (took p).2 whole in
    let all = gives_Drains nat_range_steps (λ x. x) p.items _ p.from (Range-gives p.from) (last.0, ((took p).0, (took p).1, last.1)) in
    sym (map-id p.items) ∙ all ∙ ap (λ (s : Range ℕ). range_with_len s.start (s.end - s.start)) from

-- an entry is told by the lower part of a word
lower_part : (scope k : ℕ) → entry scope k ≡ scope % 2 ^ (2 + 2 * k) / 2 ^ (2 * k)
lower_part scope k = sym (field_of scope 2 (2 * k))

entry_under : (w e k n : ℕ) → k < n → entry (w + e * 2 ^ (2 * n)) k ≡ entry w k
entry_under w e k n h =
    let low = 2 + 2 * k in
    let rest = 2 * n - low in
    let z : 2 * n ≡ low + rest = omega arith in
    let split : e * 2 ^ (2 * n) ≡ 2 ^ low * (2 ^ rest * e) = mul_comm e (2 ^ (2 * n)) ∙ ap (λ p. 2 ^ p * e) z ∙ ap (λ p. p * e) (pow-add 2 low rest) ∙ mul_assoc _ _ _ in
    let cut : (w + e * 2 ^ (2 * n)) % 2 ^ low ≡ w % 2 ^ low = ap (λ x. (w + x) % 2 ^ low) split ∙ add-mul-mod_self_left _ _ _ in
    lower_part (w + e * 2 ^ (2 * n)) k ∙ ap (λ x. x / 2 ^ (2 * k)) cut ∙ sym (lower_part w k)

entry_last : (entries : ℕ → ℕ) → Small entries → (n : ℕ) → entry (word entries (suc n)) n ≡ entries n
entry_last entries small n =
    let sum : word entries n + entries n * 2 ^ (2 * n) ≡ entries n * 2 ^ (2 * n) + word entries n = omega arith in
    ap (λ w. entry w n) sum
    ∙ ap (λ q. q % 4) (shr_high (entries n) (2 * n) (word entries n) (word_lt entries small n))
    ∙ mod-eq_of_lt (small n)

-- the entries of a word are those that it was made of
pub entry_word : (entries : ℕ → ℕ) → Small entries → (n k : ℕ) → k < n → entry (word entries n) k ≡ entries k
entry_word entries small zero k h = absurd (omega arith)
entry_word entries small (suc n) k h =
    ⊎_elim
    (λ (lower : k < n). entry_under (word entries n) (entries n) k n lower ∙ entry_word entries small n k lower)
    (λ (last : n ≤ k). let here : n ≡ k = omega arith in subst (λ (j : ℕ). entry (word entries (suc n)) j ≡ entries j) here (entry_last entries small n))
    (cases_lt k n)

-- a word is made of its entries
pub word_entry : (scope n : ℕ) → word (entry scope) n ≡ scope % 2 ^ (2 * n)
word_entry scope zero = omega arith
word_entry scope (suc n) =
    let e : 2 * suc n ≡ 2 + 2 * n = omega arith in
    let whole : scope % 2 ^ (2 * suc n) ≡ entry scope n * 2 ^ (2 * n) + scope % 2 ^ (2 * n) = ap (λ k. scope % 2 ^ k) e ∙ mod-pow-add scope 2 (2 * n) in
    omega (arith, word_entry scope n)

pub word_same : (entries others : ℕ → ℕ) (n : ℕ) → ((k : ℕ) → k < n → entries k ≡ others k) → word entries n ≡ word others n
word_same entries others zero same = refl
word_same entries others (suc n) same =
    let rest = word_same entries others n (λ k h. same k (omega arith)) in
    let last = same n (omega arith) in
    cc

-- two scopes with the same entries are the same
pub told_by_entries : (s t : ℕ) → s < 2 ^ 64 → t < 2 ^ 64 → ((k : ℕ) → k < 32 → entry s k ≡ entry t k) → s ≡ t
told_by_entries s t fits fits' same =
    let a : word (entry s) 32 ≡ s = word_entry s 32 ∙ mod-eq_of_lt fits in
    let b : word (entry t) 32 ≡ t = word_entry t 32 ∙ mod-eq_of_lt fits' in
    sym a ∙ word_same (entry s) (entry t) 32 same ∙ b
