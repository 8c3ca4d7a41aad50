-- The two ways in which an edit returns.
use Rattle.std.proofs.Common.{◌≡◌, ℕ, List, length, ℤ, IsErrAnd, Ok, Err, Result, sym, refl, subst}
use Rattle.grammar.specs.Grammar.{Grammar}
use Rattle.table.specs.declared.node.Node.{Node}
use Rattle.table.specs.Refusals.{Check, First}
use Rattle.edit.specs.declared.fault.EditFault.{EditFault}
use Rattle.edit.specs.Checks.{insert_checks}
use Rattle.edit.specs.Calls.{Edited, InsertWork, InsertCall}

-- A refusal of the checks is the edit's, and all memory is as it was.
pub refused : {R M A : Type 0} (g : Grammar) (meaning : R → M) (nothing : M) (before : List Node) (values : List R) (checks : List (Check EditFault)) (Work : A → Type 0) (e : EditFault) (r : Result A EditFault)
    → First checks e → IsErrAnd r (λ f. f ≡ e) → Edited g meaning nothing before values before values checks Work r
refused g meaning nothing before values checks Work e (Ok a) w k = absurd k
refused g meaning nothing before values checks Work e (Err f) w k = (subst (λ x. First checks x) (sym k) w, refl, refl)

-- Retype's and insert's refusals; the literal comes back from the code by another term, which is equal to it.
module _ {R M A : Type 0} (g : Grammar) (meaning : R → M) (nothing : M) (before : List Node) (values : List R) (n : ℕ) (l l' : ℤ) (same : l' ≡ l) (e : EditFault) (r : Result A EditFault) (is : IsErrAnd r (λ f. f ≡ e)) where
  pub insert_refused : (p : ℕ) → First (insert_checks g before (length values) n p l') e → InsertCall g meaning nothing before values before values n p l r
  insert_refused p w =
      refused g meaning nothing before values (insert_checks g before (length values) n p l) (λ a. InsertWork g meaning nothing before values before values n p l) e r
      (subst (λ (z : ℤ). First (insert_checks g before (length values) n p z) e) same w) is
