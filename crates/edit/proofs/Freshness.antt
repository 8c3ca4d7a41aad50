-- The child fields that name the first of the free nodes, one by one.
use Rattle.std.proofs.Common.{◌≡◌, ℕ, zero, suc, ◌+◌, ◌<◌, ◌≤◌, List, [], ◌∷◌, length, take, drop, set, sym, ap, ◌∙◌, arith, length-set}
use Rattle.std.proofs.lemmas.List.{length-take-le}
use Rattle.std.proofs.Math.Seq.{take-set-lt}
use Rattle.table.specs.declared.node.Node.{Node}
use Rattle.edit.specs.Fresh.{free_below, free_numbers, three, NextFree}

never_nil : (n : ℕ) (rest : List ℕ) → [] ≡ n ∷ rest → ⊥
never_nil n rest e = let z : ◌≡◌ {A = ℕ} 0 1 = cc in omega arith

-- one more of a list's first numbers, where it goes on with n
pub record OneMore (free : List ℕ) (k n : ℕ) (rest : List ℕ) : Type 0 where
  pub enough : k + 1 ≤ length free
  pub remain : drop (k + 1) free ≡ rest
  pub fields : three (take (k + 1) free) ≡ set (three (take k free)) k n

pub one_more : (free : List ℕ) (k n : ℕ) (rest : List ℕ) → k < 3 → drop k free ≡ n ∷ rest → OneMore free k n rest
one_more [] zero n rest h e = absurd (never_nil n rest e)
one_more [] (suc k) n rest h e = absurd (never_nil n rest e)
one_more (x ∷ []) (suc zero) n rest h e = absurd (never_nil n rest e)
one_more (x ∷ []) (suc (suc k)) n rest h e = absurd (never_nil n rest e)
one_more (x ∷ y ∷ []) (suc (suc zero)) n rest h e = absurd (never_nil n rest e)
one_more (x ∷ y ∷ []) (suc (suc (suc k))) n rest h e = absurd (omega arith)
one_more (x ∷ free) zero n rest h e = record { enough = omega arith; remain = cc; fields = cc }
one_more (x ∷ y ∷ free) (suc zero) n rest h e = record { enough = omega arith; remain = cc; fields = cc }
one_more (x ∷ y ∷ z ∷ free) (suc (suc zero)) n rest h e = record { enough = omega arith; remain = cc; fields = cc }
one_more (x ∷ y ∷ z ∷ free) (suc (suc (suc k))) n rest h e = absurd (omega arith)

-- The child fields so far name the first k free nodes, and the others lie below a number.
pub record Named (ns : List Node) (k below : ℕ) (fields : List ℕ) : Type 0 where
  pub inside : below ≤ length ns
  pub enough : k ≤ length (free_numbers ns)
  pub remain : drop k (free_numbers ns) ≡ free_below ns below
  pub fields_are : fields ≡ three (take k (free_numbers ns))

pub named_more : (ns : List Node) (k below n : ℕ) (fields : List ℕ) → k < 3 → Named ns k below fields → NextFree ns below n → Named ns (k + 1) n (set fields k n)
named_more ns k below n fields h named next =
    let more = one_more (free_numbers ns) k n (free_below ns n) h (named.remain ∙ next.first) in
    record { inside = omega (arith, named.inside, next.lower); enough = more.enough; remain = more.remain; fields_are = ap (λ xs. set xs k n) named.fields_are ∙ sym more.fields }

-- The same of the fields for some new nodes alone, the first of the three.
pub record NamedOf (ns : List Node) (count k below : ℕ) (fields : List ℕ) : Type 0 where
  pub all : List ℕ
  pub named : Named ns k below all
  pub part : fields ≡ take count all
  pub size : length all ≡ 3

pub named_of_more : (ns : List Node) (count k below n : ℕ) (fields : List ℕ) → count ≤ 3 → k < length fields → NamedOf ns count k below fields → NextFree ns below n → NamedOf ns count (k + 1) n (set fields k n)
named_of_more ns count k below n fields few h so_far next = record {
  all = set so_far.all k n;
  named = named_more ns k below n so_far.all (omega (arith, inside)) so_far.named next;
  part = ap (λ xs. set xs k n) so_far.part ∙ sym (take-set-lt count so_far.all k n inside);
  size = length-set so_far.all k n ∙ so_far.size;
}
  where
    inside : k < count
    inside = omega (arith, h, ap length so_far.part, length-take-le count so_far.all (omega (arith, so_far.size)))
