-- Lists of checks put together and lifted: what the parts say, the whole says.
-- `handed_on` and `passed_on` answer the exit of a `?`: the callee's refusal is the caller's, in the same layer and in the one above.
use Rattle.std.proofs.Common.{◌≡◌, List, [], ◌∷◌, ◌++◌, IsErrAnd, Ok, Err, Result, sym, refl, subst, inl, inr}
use Rattle.table.specs.Refusals.{Check, Met, First, lifted, Answer}

module _ {F : Type 0} where
  pub met_both : (cs ds : List (Check F)) → Met cs → Met ds → Met (cs ++ ds)
  met_both [] ds m n = n
  met_both (c ∷ cs) ds m n = (m.0, met_both cs ds m.1 n)

  pub met_front : (cs ds : List (Check F)) → Met (cs ++ ds) → Met cs
  met_front [] ds m = tt
  met_front (c ∷ cs) ds m = (m.0, met_front cs ds m.1)

  pub met_back : (cs ds : List (Check F)) → Met (cs ++ ds) → Met ds
  met_back [] ds m = m
  met_back (c ∷ cs) ds m = met_back cs ds m.1

  -- a fault of the first part is one of the whole
  pub first_front : (cs ds : List (Check F)) (f : F) → First cs f → First (cs ++ ds) f
  first_front [] ds f r = absurd r
  first_front (c ∷ cs) ds f (inl r) = inl r
  first_front (c ∷ cs) ds f (inr r) = inr (r.0, first_front cs ds f r.1)

  -- where the first part is met, a fault of the second is one of the whole
  pub first_back : (cs ds : List (Check F)) (f : F) → Met cs → First ds f → First (cs ++ ds) f
  first_back [] ds f m r = r
  first_back (c ∷ cs) ds f m r = inr (m.0, first_back cs ds f m.1 r)

  -- an accepted call has no fault
  pub met_or_refused : (cs : List (Check F)) (f : F) → Met cs → First cs f → ⊥
  met_or_refused [] f m r = r
  met_or_refused (c ∷ cs) f m (inl r) = r.0 m.0
  met_or_refused (c ∷ cs) f m (inr r) = met_or_refused cs f m.1 r.1

  -- The callee's checks come after some that are met, and before others.
  pub handed_on : {A : Type 0} (front cs back : List (Check F)) (e : F) (r : Result A F)
      → Met front → First cs e → IsErrAnd r (λ f. f ≡ e) → Answer (front ++ (cs ++ back)) r
  handed_on front cs back e (Ok a) m w k = absurd k
  handed_on front cs back e (Err f) m w k =
      subst (λ x. First (front ++ (cs ++ back)) x) (sym k) (first_back front (cs ++ back) e m (first_front cs back e w))

module _ {E F : Type 0} (up : E → F) where
  pub met_lifted : (cs : List (Check E)) → Met cs → Met (lifted up cs)
  met_lifted [] m = tt
  met_lifted (c ∷ cs) m = (m.0, met_lifted cs m.1)

  pub met_lowered : (cs : List (Check E)) → Met (lifted up cs) → Met cs
  met_lowered [] m = tt
  met_lowered (c ∷ cs) m = (m.0, met_lowered cs m.1)

  pub first_lifted : (cs : List (Check E)) (e : E) → First cs e → First (lifted up cs) (up e)
  first_lifted [] e r = absurd r
  first_lifted (c ∷ cs) e (inl r) = inl (r.0, (e, r.1, refl))
  first_lifted (c ∷ cs) e (inr r) = inr (r.0, first_lifted cs e r.1)

  -- The same, where the callee is of the layer below.
  pub passed_on : {A : Type 0} (front : List (Check F)) (cs : List (Check E)) (back : List (Check F)) (e : E) (r : Result A F)
      → Met front → First cs e → IsErrAnd r (λ f. f ≡ up e) → Answer (front ++ (lifted up cs ++ back)) r
  passed_on front cs back e r m w k = handed_on front (lifted up cs) back (up e) r m (first_lifted cs e w) k
