-- The closure of a graph held as 16 rows of bits is reachability over one or more edges.
use Rattle.std.proofs.Common.{◌≡◌, ℕ, zero, suc, ◌^◌, ◌<◌, Bool, true, false, T, ◌⊎◌, List, length, get_or, sym, ◌∙◌, subst, inl, inr, arith}
use lib.Bits.{bit_or, or_lt}
use Rattle.std.proofs.lemmas.List.{get_or-map, get_or_past, length-map}
use Rattle.std.proofs.lemmas.Bool.{cases_lt}
use Rattle.grammar.specs.Dependence.{Over, one, then}
use Rattle.circularity.proofs.Local.{over_trans}
use Rattle.circularity.specs.Bits.{has, through, closed_below}
use Rattle.circularity.proofs.Bits.{T_false, has_zero, or_has, or_has_left, or_has_right}

-- sixteen rows of sixteen bits
pub record Rows (rows : List ℕ) : Type 0 where
  pub count : length rows ≡ 16
  pub below : (v : ℕ) → get_or rows v 0 < 2 ^ 16

abbrev pub Edge : List ℕ → ℕ → ℕ → Type 0
Edge rows v w = T (has (get_or rows v 0) w)

-- an edge begins and ends at a vertex
pub edge_from : (rows : List ℕ) → Rows rows → (v w : ℕ) → Edge rows v w → v < 16
edge_from rows r v w e =
    elim (cases_lt v 16) [
      | inl l ↦ l
      | inr le ↦
          absurd (T_false (has 0 w) (has_zero w)
          (subst (λ (x : ℕ). T (has x w)) (get_or_past rows v 0 (omega (arith, r.count))) e))
    ]

-- ---- one row in one turn: s is the row of the vertex that the turn goes through

abbrev turned : ℕ → ℕ → ℕ → ℕ
turned m s row = elim (has row m) [ true ↦ bit_or row s | false ↦ row ]

turned_below : (m s row : ℕ) → s < 2 ^ 16 → row < 2 ^ 16 → turned m s row < 2 ^ 16
turned_below m s row hs hr =
    elim (has row m) as (λ b. (elim b [ true ↦ bit_or row s | false ↦ row ]) < 2 ^ 16) [ true ↦ or_lt 16 row s hr hs | false ↦ hr ]

turned_cases : (b : Bool) (s row w : ℕ) → T (has (elim b [ true ↦ bit_or row s | false ↦ row ]) w) → T (has row w) ⊎ (T b × T (has s w))
turned_cases true s row w t = elim (or_has row s w t) [ inl u ↦ inl u | inr u ↦ inr (tt, u) ]
turned_cases false s row w t = inl t

turned_keeps : (b : Bool) (s row w : ℕ) → T (has row w) → T (has (elim b [ true ↦ bit_or row s | false ↦ row ]) w)
turned_keeps true s row w t = or_has_left row s w t
turned_keeps false s row w t = t

turned_takes : (b : Bool) (s row w : ℕ) → T b → T (has s w) → T (has (elim b [ true ↦ bit_or row s | false ↦ row ]) w)
turned_takes true s row w t u = or_has_right row s w u
turned_takes false s row w t u = elim t [ ]

-- ---- one turn

through_row : (m : ℕ) (rows : List ℕ) (v : ℕ) → v < length rows → get_or (through m rows) v 0 ≡ turned m (get_or rows m 0) (get_or rows v 0)
through_row m rows v h = get_or-map (turned m (get_or rows m 0)) rows v 0 0 h

through_rows : (m : ℕ) (rows : List ℕ) → Rows rows → Rows (through m rows)
through_rows m rows r = record {
  count = length-map rows (turned m (get_or rows m 0)) ∙ r.count;
  below = λ v.
      elim (cases_lt v (length rows)) [
        | inl l ↦ subst (λ (x : ℕ). x < 2 ^ 16) (sym (through_row m rows v l)) (turned_below m (get_or rows m 0) (get_or rows v 0) (r.below m) (r.below v))
        | inr le ↦ subst (λ (x : ℕ). x < 2 ^ 16) (sym (get_or_past (through m rows) v 0 (simp length-map le))) (omega arith)
      ];
}

module _ (m : ℕ) (rows : List ℕ) (r : Rows rows) where
  -- an edge after the turn was there, or goes through m
  through_sound : (v w : ℕ) → Edge (through m rows) v w → Edge rows v w ⊎ (Edge rows v m × Edge rows m w)
  through_sound v w e =
      let l : v < length rows = omega (arith, edge_from (through m rows) (through_rows m rows r) v w e, r.count) in
      turned_cases (has (get_or rows v 0) m) (get_or rows m 0) (get_or rows v 0) w (subst (λ (x : ℕ). T (has x w)) (through_row m rows v l) e)

  through_keeps : (v w : ℕ) → Edge rows v w → Edge (through m rows) v w
  through_keeps v w e =
      let l : v < length rows = omega (arith, edge_from rows r v w e, r.count) in
      subst (λ (x : ℕ). T (has x w)) (sym (through_row m rows v l)) (turned_keeps (has (get_or rows v 0) m) (get_or rows m 0) (get_or rows v 0) w e)

  through_takes : (v w : ℕ) → Edge rows v m → Edge rows m w → Edge (through m rows) v w
  through_takes v w e f =
      let l : v < length rows = omega (arith, edge_from rows r v m e, r.count) in
      subst (λ (x : ℕ). T (has x w)) (sym (through_row m rows v l)) (turned_takes (has (get_or rows v 0) m) (get_or rows m 0) (get_or rows v 0) w e f)

  -- the turn closes the graph through m, and what was closed stays so
  through_closes : (v w : ℕ) → Edge (through m rows) v m → Edge (through m rows) m w → Edge (through m rows) v w
  through_closes v w e f =
      through_takes v w
      (elim (through_sound v m e) [ inl a ↦ a | inr a ↦ a.0 ])
      (elim (through_sound m w f) [ inl b ↦ b | inr b ↦ b.1 ])

  through_stays : (k : ℕ) → ((v w : ℕ) → Edge rows v k → Edge rows k w → Edge rows v w)
      → (v w : ℕ) → Edge (through m rows) v k → Edge (through m rows) k w → Edge (through m rows) v w
  through_stays k closed v w e f =
      elim (through_sound v k e) [
        | inl a ↦
            elim (through_sound k w f) [
              | inl b ↦ through_keeps v w (closed v w a b)
              | inr b ↦ through_takes v w (closed v m a b.0) b.1
            ]
        | inr a ↦
            elim (through_sound k w f) [
              | inl b ↦ through_takes v w a.0 (closed m w a.1 b)
              | inr b ↦ through_takes v w a.0 b.1
            ]
      ]

-- ---- all turns

pub closed_rows : (m : ℕ) (rows : List ℕ) → Rows rows → Rows (closed_below m rows)
closed_rows zero rows r = r
closed_rows (suc m) rows r = through_rows m (closed_below m rows) (closed_rows m rows r)

sound_below : (m : ℕ) (rows : List ℕ) → Rows rows → (v w : ℕ) → Edge (closed_below m rows) v w → Over (Edge rows) v w
sound_below zero rows r v w e = one e
sound_below (suc m) rows r v w e =
    elim (through_sound m (closed_below m rows) (closed_rows m rows r) v w e) [
      | inl a ↦ sound_below m rows r v w a
      | inr a ↦ over_trans (sound_below m rows r v m a.0) (sound_below m rows r m w a.1)
    ]

keeps_below : (m : ℕ) (rows : List ℕ) → Rows rows → (v w : ℕ) → Edge rows v w → Edge (closed_below m rows) v w
keeps_below zero rows r v w e = e
keeps_below (suc m) rows r v w e = through_keeps m (closed_below m rows) (closed_rows m rows r) v w (keeps_below m rows r v w e)

closed_through : (m : ℕ) (rows : List ℕ) → Rows rows → (k : ℕ) → k < m
    → (v w : ℕ) → Edge (closed_below m rows) v k → Edge (closed_below m rows) k w → Edge (closed_below m rows) v w
closed_through zero rows r k l = absurd (omega arith)
closed_through (suc m) rows r k l =
    elim (cases_lt k m) [
      | inl h ↦ through_stays m (closed_below m rows) (closed_rows m rows r) k (closed_through m rows r k h)
      | inr h ↦
          (let e : m ≡ k = omega arith in
          subst (λ (x : ℕ). (v w : ℕ) → Edge (closed_below (suc m) rows) v x → Edge (closed_below (suc m) rows) x w → Edge (closed_below (suc m) rows) v w) e
          (through_closes m (closed_below m rows) (closed_rows m rows r)))
    ]

pub closure_sound : (rows : List ℕ) → Rows rows → (v w : ℕ) → Edge (closed_below 16 rows) v w → Over (Edge rows) v w
closure_sound rows r v w e = sound_below 16 rows r v w e

pub closure_complete : (rows : List ℕ) → Rows rows → (v w : ℕ) → Over (Edge rows) v w → Edge (closed_below 16 rows) v w
closure_complete rows r v w (one e) = keeps_below 16 rows r v w e
closure_complete rows r v w (then {y = y} p e) =
    closed_through 16 rows r y (edge_from rows r y w e) v w (closure_complete rows r v y p) (keeps_below 16 rows r y w e)
