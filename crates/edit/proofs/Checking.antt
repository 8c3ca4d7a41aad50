-- A refusal by the first of insert's checks is insert's. A literal comes back from the code by another term, which is equal to it.
use Rattle.std.proofs.Common.{◌≡◌, ℕ, List, [], ◌∷◌, length, ℤ, IsErrAnd, Ok, Err, Result, sym, subst, MatchResult}
use Rattle.grammar.specs.Grammar.{Grammar}
use Rattle.table.specs.declared.node.Node.{Node}
use Rattle.table.specs.Refusals.{First}
use Rattle.table.proofs.Refusing.{first_front}
use Rattle.edit.specs.declared.fault.EditFault.{EditFault}
use Rattle.edit.specs.Checks.{insert_checks, insert_checks_but_free, enough_free}

module _ (g : Grammar) (ns : List Node) (values n p : ℕ) (l l' : ℤ) (same : l' ≡ l) where
  pub production_refused : {A : Type 0} (W : A → Type 0) (e : EditFault) (r : Result A EditFault) → First (insert_checks_but_free g ns values n p l') e → IsErrAnd r (λ f. f ≡ e) → MatchResult r W (First (insert_checks g ns values n p l))
  production_refused W e (Ok a) w k = absurd k
  production_refused W e (Err f) w k =
      subst (λ x. First (insert_checks g ns values n p l) x) (sym k)
      (first_front (insert_checks_but_free g ns values n p l) (enough_free ns (length (g.children p)) n ∷ []) e (subst (λ (z : ℤ). First (insert_checks_but_free g ns values n p z) e) same w))
