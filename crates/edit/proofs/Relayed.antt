-- A callee's refusal is the caller's, where the caller answers a value if it is accepted.
use Rattle.std.proofs.Common.{◌≡◌, List, ◌++◌, IsErrAnd, Ok, Err, Result, sym, subst, MatchResult}
use Rattle.table.specs.Refusals.{Check, Met, First}
use Rattle.table.proofs.Refusing.{first_front, first_back}

-- the callee's checks come after some that are met, and before others
pub relayed : {A F : Type 0} (front cs back : List (Check F)) (W : A → Type 0) (e : F) (r : Result A F) → Met front → First cs e → IsErrAnd r (λ f. f ≡ e) → MatchResult r W (First (front ++ (cs ++ back)))
relayed front cs back W e (Ok a) m w k = absurd k
relayed front cs back W e (Err f) m w k = subst (λ x. First (front ++ (cs ++ back)) x) (sym k) (first_back front (cs ++ back) e m (first_front cs back e w))
