-- The table keeps the limits.
use Rattle.std.specs.Prelude.{◌≡◌, ℕ, zero, suc, ◌<◌, Bool, true, false, ◌&&◌, T, ℤ, pos, negsuc, ◌==◌, int_le, nat_eq, unsigned_abs}
use Rattle.std.proofs.Common.{sym, ap, subst, arith, eqb→eq}
use Rattle.grammar.specs.Limits.{Lawful, Limits}
use Rattle.grammar.specs.LimitsByTest.{limits_by_test}
use Rattle.formula.specs.Readings.{in_range}
use Rattle.formula.specs.Table.{formula_grammar, formula_text, accepted}

zero_is : (l : ℤ) → T (unsigned_abs l == 0) → l ≡ pos 0
zero_is (pos n) t = ap pos (eqb→eq n 0 t)
zero_is (negsuc n) t = absurd (omega (arith, eqb→eq (suc n) 0 t))

pub in_range_lawful : (l : ℤ) → T (in_range l) → Lawful l
in_range_lawful l t = both (int_le (negsuc 999999999) l) (int_le l (pos 1000000000)) t (λ u v. (record { le = u }, record { le = v }))
  where
    both : (x y : Bool) → T (x && y) → (T x → T y → Lawful l) → Lawful l
    both true y u f = f tt u
    both false y u f = absurd u

-- whatever is accepted, as a constant or as 0, is lawful
accepted_lawful : (p : ℕ) (l : ℤ) → T (accepted p l) → Lawful l
accepted_lawful p l t = decided (p == 2) t
  where
    decided : (b : Bool) → T (elim b [ true ↦ in_range l | false ↦ nat_eq (unsigned_abs l) 0 ]) → Lawful l
    decided true u = in_range_lawful l u
    decided false u = subst Lawful (sym (zero_is l u)) (in_range_lawful (pos 0) tt)

zero_alone : (p : ℕ) → p < 2 → T (accepted p (pos 0)) × ((l : ℤ) → T (accepted p l) → l ≡ pos 0)
zero_alone zero h = (tt, zero_is)
zero_alone (suc zero) h = (tt, zero_is)
zero_alone (suc (suc p)) h = absurd (omega arith)

pub formula_limits : Limits formula_grammar formula_text
formula_limits = limits_by_test formula_grammar formula_text tt zero_alone (λ p h l t. accepted_lawful p l t)
