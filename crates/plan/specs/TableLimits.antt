-- The tables keep the limits: a computation, with what is said of the literals. There is nothing here to believe.
use Rattle.std.specs.Prelude.{◌≡◌, ℕ, zero, suc, ◌<◌, Bool, true, false, ◌&&◌, T, List, [], ◌∷◌, ℤ, pos, negsuc, int_le, nat_lt}
use Rattle.std.proofs.Common.{arith, eqb→eq, ltb→lt, le→leb}
use Rattle.grammar.specs.declared.language.Occurrence.{Occurrence}
use Rattle.grammar.specs.Limits.{Lawful, Limits}
use Rattle.grammar.specs.LimitsByTest.{limits_by_test, keeps}
use Rattle.plan.specs.Table.{grammar_taking, plan_grammar, plan_text, altered_grammar, zero_alone, declaration, lawful, name, own, first, step_in, term_type}

zero_alone_is : (l : ℤ) → T (zero_alone l) → l ≡ pos 0
zero_alone_is (pos n) t = let e = eqb→eq n 0 t in cc
zero_alone_is (negsuc n) t = absurd t

small_lawful : (n : ℕ) → n < 128 → Lawful (pos n)
small_lawful n h = (record { le = tt }, record { le = le→leb n 1000000000 (omega arith) })

zero_lawful : (l : ℤ) → T (zero_alone l) → Lawful l
zero_lawful (pos n) t = small_lawful n (omega (arith, eqb→eq n 0 t))
zero_lawful (negsuc n) t = absurd t

left : (x y : Bool) → T (x && y) → T x
left true y t = tt
left false y t = t

right : (x y : Bool) → T (x && y) → T y
right true y t = t
right false y t = absurd t

declaration_lawful : (l : ℤ) → T (declaration l) → Lawful l
declaration_lawful (pos n) t = small_lawful n (ltb→lt n 128 (left (nat_lt n 128) _ t))
declaration_lawful (negsuc n) t = absurd t

number_lawful : (l : ℤ) → T (lawful l) → Lawful l
number_lawful l t = (record { le = left (int_le (negsuc 999999999) l) _ t }, record { le = right (int_le (negsuc 999999999) l) _ t })

name_lawful : (l : ℤ) → T (name l) → Lawful l
name_lawful (pos n) t = small_lawful n (omega (arith, ltb→lt n 32 t))
name_lawful (negsuc n) t = absurd t

module _ (taken : List Occurrence) where
  holes_and_start : (p : ℕ) → p < 3 → T ((grammar_taking taken).accepts p (pos 0)) × ((l : ℤ) → T ((grammar_taking taken).accepts p l) → l ≡ pos 0)
  holes_and_start zero h = (tt, zero_alone_is)
  holes_and_start (suc zero) h = (tt, zero_alone_is)
  holes_and_start (suc (suc zero)) h = (tt, zero_alone_is)
  holes_and_start (suc (suc (suc p))) h = absurd (omega arith)

  all_lawful : (p : ℕ) → p < 9 → (l : ℤ) → T ((grammar_taking taken).accepts p l) → Lawful l
  all_lawful zero h = zero_lawful
  all_lawful (suc zero) h = zero_lawful
  all_lawful (suc (suc zero)) h = zero_lawful
  all_lawful (suc (suc (suc zero))) h = zero_lawful
  all_lawful (suc (suc (suc (suc zero)))) h = declaration_lawful
  all_lawful (suc (suc (suc (suc (suc zero))))) h = zero_lawful
  all_lawful (suc (suc (suc (suc (suc (suc zero)))))) h = number_lawful
  all_lawful (suc (suc (suc (suc (suc (suc (suc zero))))))) h = name_lawful
  all_lawful (suc (suc (suc (suc (suc (suc (suc (suc zero)))))))) h = zero_lawful
  all_lawful (suc (suc (suc (suc (suc (suc (suc (suc (suc p))))))))) h = absurd (omega arith)

  limits_taking : T (keeps (grammar_taking taken) plan_text) → Limits (grammar_taking taken) plan_text
  limits_taking passes = limits_by_test (grammar_taking taken) plan_text passes holes_and_start all_lawful

pub plan_limits : Limits plan_grammar plan_text
plan_limits = limits_taking (own step_in ∷ []) tt

pub altered_limits : Limits altered_grammar plan_text
altered_limits = limits_taking (own step_in ∷ first term_type ∷ []) tt
