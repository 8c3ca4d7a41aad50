-- Blank values: those of one node, and those of two lists of nodes one after the other.
use Rattle.std.proofs.Common.{◌≡◌, ℕ, ◌+◌, ◌*◌, ◌/◌, ◌<◌, ◌⊎◌, List, [], ◌∷◌, ◌++◌, length, get_or, take, sym, ap, ◌∙◌, subst, inl, inr, arith}
use Rattle.std.proofs.lemmas.List.{take_more}
use Rattle.table.specs.Represents.{In}
use Rattle.table.proofs.Places.{in_first, in_second, in_either}
use Rattle.table.proofs.Replaced.{equal_or_not}
use Rattle.edit.specs.Memory.{Blanked}

-- a number stands in a list or not
pub in_or_not : (n : ℕ) (xs : List ℕ) → In n xs ⊎ (In n xs → ⊥)
in_or_not n [] = inr (λ i. i)
in_or_not n (x ∷ xs) = elim (equal_or_not n x) [
  | inl h ↦ inl (inl h.1)
  | inr h ↦ elim (in_or_not n xs) [ inl i ↦ inl (inr i) | inr out ↦ inr (λ i. elim i [ inl e ↦ h.1 e | inr j ↦ out j ]) ]
]

module _ {R M : Type 0} (meaning : R → M) (nothing : M) where
  pub blanked_both : (xs ys : List ℕ) (a b c : List R) → Blanked meaning nothing xs a b → Blanked meaning nothing ys b c → Blanked meaning nothing (xs ++ ys) a c
  blanked_both xs ys a b c one two = record {
    many = two.many ∙ one.many;
    blank = λ n k d i less inside.
        let inside' : 4 * n + k < length b = omega (arith, inside, one.many) in
        elim (in_or_not n ys) [
          | inl j ↦ two.blank n k d j less inside'
          | inr out ↦
              let place : (4 * n + k) / 4 ≡ n = omega arith in
              let first : In n xs = elim (in_either n xs ys i) [ inl j ↦ j | inr j ↦ absurd (out j) ] in
              ap meaning (two.same (4 * n + k) d (λ j. out (subst (λ (m : ℕ). In m ys) place j))) ∙ one.blank n k d first less inside
        ];
    same = λ f d out. two.same f d (λ j. out (in_second (f / 4) xs ys j)) ∙ one.same f d (λ j. out (in_first (f / 4) xs ys j));
  }

  -- one more of the first nodes of a list
  pub blanked_more : (nodes : List ℕ) (k : ℕ) (a b c : List R) → k < length nodes → Blanked meaning nothing (take k nodes) a b → Blanked meaning nothing (get_or nodes k 0 ∷ []) b c → Blanked meaning nothing (take (k + 1) nodes) a c
  blanked_more nodes k a b c h so_far one =
      subst (λ xs. Blanked meaning nothing xs a c) (sym (take_more nodes k 0 h)) (blanked_both (take k nodes) (get_or nodes k 0 ∷ []) a b c so_far one)
