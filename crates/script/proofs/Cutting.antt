-- Where a line is cut: its first word, and the first line of an input, by where the first byte that separates stands.
use Rattle.std.proofs.Common.{◌≡◌, ℕ, zero, suc, ◌+◌, ◌-◌, ◌<◌, Bool, true, false, List, [], ◌∷◌, Option, None, Some, unwrap_or, MatchOption, length, get_or, take, drop, filter, sym, ap, refl, ◌∙◌, arith, length-drop, length-take, take_all, drop-cons, add-one}
use Rattle.std.specs.List.{AllWithin, HoldsAt, onto_first, slice_split}
use Rattle.std.proofs.lemmas.Bool.{false≢true}
use Rattle.std.proofs.lemmas.List.{drop_all, take_rest}
use Rattle.std.proofs.lemmas.List.Splits.{slice_split-cons_yes, slice_split-cons_no, slice_split_none}
use Rattle.script.specs.Words.{is_blank, is_line_feed, has_bytes, words, FirstWord, FirstLine}

-- where the first byte that separates stands, or that there is none
abbrev pub IsFirst : (ℕ → Bool) → List ℕ → Option ℕ → Type 0
IsFirst p xs r =
    MatchOption r (AllWithin (λ b. p b ≡ false) xs 0 (length xs))
    (λ n. (n < length xs) × HoldsAt (λ b. p b ≡ true) xs n × AllWithin (λ b. p b ≡ false) xs 0 n)

-- the one part, where no byte separates
pub whole : (p : ℕ → Bool) (xs : List ℕ) → IsFirst p xs None → slice_split p xs ≡ xs ∷ []
whole p xs h = slice_split_none p xs (λ k d lt. h k d (omega arith) lt)

-- the first part and the others, where the byte at n is the first that separates
pub cut : (p : ℕ → Bool) (xs : List ℕ) (n : ℕ) → IsFirst p xs (Some n) → slice_split p xs ≡ take n xs ∷ slice_split p (drop (suc n) xs)
cut p [] n h = absurd (let lt = h.0 in omega arith)
cut p (b ∷ xs) zero h = slice_split-cons_yes p b xs (h.1 0)
cut p (b ∷ xs) (suc n) h =
    slice_split-cons_no p b xs (h.2 0 0 (omega arith) (omega arith))
    ∙ ap (onto_first b) (cut p xs n (let lt = h.0 in omega arith, λ d. h.1 d, λ k d low lt. h.2 (suc k) d (omega arith) (omega arith)))

pub first_line : (xs : List ℕ) (n : ℕ) → IsFirst is_line_feed xs (Some n)
    → FirstLine xs (take n xs) (take (length xs - (n + 1)) (drop (n + 1) xs))
first_line xs n h =
    record {
      lines_are = cut is_line_feed xs n h ∙ rw (take_rest xs (n + 1), add-one n);
      shorter = rw (take_rest xs (n + 1)) (simp length-drop (let lt = h.0 in omega arith));
    }

-- leading blanks change no word
pub words_past_blanks : (xs : List ℕ) (n : ℕ) → AllWithin (λ b. is_blank b ≡ true) xs 0 n → words xs ≡ words (drop n xs)
words_past_blanks xs zero h = refl
words_past_blanks [] (suc n) h = refl
words_past_blanks (b ∷ xs) (suc n) h =
    ap (filter has_bytes) (slice_split-cons_yes is_blank b xs (h 0 0 (omega arith) (omega arith)))
    ∙ words_past_blanks xs n (λ k d low lt. h (suc k) d (omega arith) (omega arith))

-- a part that is not empty is a word
pub one_word : (w : List ℕ) (rest : List (List ℕ)) → 0 < length w
    → filter has_bytes (w ∷ rest) ≡ w ∷ filter has_bytes rest
one_word [] rest lt = absurd (omega arith)
one_word (b ∷ w) rest lt = refl

-- no word where every byte is blank
pub no_word : (xs : List ℕ) → AllWithin (λ b. is_blank b ≡ true) xs 0 (length xs) → words xs ≡ []
no_word xs h = words_past_blanks xs (length xs) h ∙ rw (drop_all (length xs) xs (omega arith))

-- no test answers both
apart : (b : Bool) → b ≡ true → b ≡ false → 0 < 0
apart b one other = absurd (false≢true (sym other ∙ one))

-- where a byte that is no blank stands in front, the first blank stands behind it
pub word_end : (xs : List ℕ) (r : Option ℕ) → 0 < length xs → is_blank (get_or xs 0 0) ≡ false → IsFirst is_blank xs r → 0 < unwrap_or r (length xs)
word_end xs None pos front h = pos
word_end xs (Some zero) pos front h = apart (is_blank (get_or xs 0 0)) (h.1 0) front
word_end xs (Some (suc n)) pos front h = omega arith

-- and the first word ends there
pub word_in_front : (xs : List ℕ) (r : Option ℕ) → 0 < length xs → is_blank (get_or xs 0 0) ≡ false → IsFirst is_blank xs r
    → words xs ≡ take (unwrap_or r (length xs)) xs ∷ words (drop (unwrap_or r (length xs)) xs)
word_in_front xs None pos front h =
    ap (filter has_bytes) (whole is_blank xs h)
    ∙ one_word xs [] pos
    ∙ rw (take_all (length xs) xs (omega arith), drop_all (length xs) xs (omega arith))
word_in_front xs (Some n) pos front h =
    let some = word_end xs (Some n) pos front h in
    ap (filter has_bytes) (cut is_blank xs n h)
    ∙ one_word (take n xs) (slice_split is_blank (drop (suc n) xs)) (let lt = h.0 in simp length-take (omega arith))
    ∙ ap (λ ws. take n xs ∷ ws)
    (sym (ap words (drop-cons xs n 0 h.0)
    ∙ ap (filter has_bytes) (slice_split-cons_yes is_blank (get_or xs n 0) (drop (suc n) xs) (h.1 0))))

-- the first word behind the m blanks in front, and the rest; ys is what follows those blanks
pub first_word : (xs ys : List ℕ) (m : ℕ) (r : Option ℕ) → ys ≡ drop m xs
    → (m < length xs) × HoldsAt (λ b. is_blank b ≡ false) xs m × AllWithin (λ b. is_blank b ≡ true) xs 0 m → IsFirst is_blank ys r
    → FirstWord xs (take (unwrap_or r (length ys)) ys) (drop (unwrap_or r (length ys)) ys)
first_word xs ys m r e found h =
    let lt = found.0 in
    let len : length ys ≡ length xs - m = ap length e ∙ length-drop m xs in
    let some : 0 < length ys = omega arith in
    let front : is_blank (get_or ys 0 0) ≡ false = rw (e, drop-cons xs m 0 lt) (found.1 0) in
    let end : 0 < unwrap_or r (length ys) = word_end ys r some front h in
    record {
      words_are = words_past_blanks xs m found.2 ∙ ap words (sym e) ∙ word_in_front ys r some front h;
      some = simp length-take (omega arith);
      shorter = simp length-drop (omega arith);
    }
