-- The table keeps the limits: all but those on literals by computation.
use Rattle.std.specs.Prelude.{◌≡◌, Bool, true, false, ℕ, zero, suc, ◌<◌, T, eqb, ℤ, pos, negsuc, nat_abs}
use Rattle.std.proofs.Common.{sym, ap, subst, arith, eqb→eq, leb→le, le→leb}
use Rattle.grammar.specs.Limits.{Lawful, Limits}
use Rattle.grammar.specs.LimitsByTest.{limits_by_test}
use Rattle.tally.specs.Table.{tally_grammar, tally_text, to_999, accepted}

zero_is : (l : ℤ) → T (eqb (nat_abs l) 0) → l ≡ pos 0
zero_is (pos n) t = ap pos (eqb→eq n 0 t)
zero_is (negsuc n) t = absurd (omega (arith, eqb→eq (suc n) 0 t))

-- production 0 and the hole accept 0 alone
zero_alone : (p : ℕ) → p < 2 → T (accepted p (pos 0)) × ((l : ℤ) → T (accepted p l) → l ≡ pos 0)
zero_alone zero h = (tt, zero_is)
zero_alone (suc zero) h = (tt, zero_is)
zero_alone (suc (suc p)) h = absurd (omega arith)

amount_lawful : (l : ℤ) → T (to_999 l) → Lawful l
amount_lawful (pos n) t = (record { le = tt }, record { le = le→leb n 1000000000 (omega (arith, leb→le n 999 t)) })
amount_lawful (negsuc n) t = absurd t

-- whatever is accepted, as an amount or as 0, is lawful
accepted_lawful : (p : ℕ) (l : ℤ) → T (accepted p l) → Lawful l
accepted_lawful p l t = decided (eqb p 2) t
  where
    decided : (b : Bool) → T (elim b [ true ↦ to_999 l | false ↦ eqb (nat_abs l) 0 ]) → Lawful l
    decided true u = amount_lawful l u
    decided false u = subst Lawful (sym (zero_is l u)) (amount_lawful (pos 0) tt)

pub tally_limits : Limits tally_grammar tally_text
tally_limits = limits_by_test tally_grammar tally_text tt zero_alone (λ p h l t. accepted_lawful p l t)
