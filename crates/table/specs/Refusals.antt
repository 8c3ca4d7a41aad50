-- When a call is refused, and with which fault: one device for all calls.
-- A call lists what it wants, in the order of its checks. It is refused by the first check whose wanted condition does not hold.
use Rattle.std.specs.Prelude.{◌≡◌, ◌⊎◌, List, [], ◌∷◌, Ok, Err, Result}

-- A check: a condition that is wanted, and the faults that may come where it does not hold.
pub record Check (F : Type 0) : Type 1 where
  pub wanted : Type 0
  pub fault : F → Type 0

-- a check whose fault may be one of several
abbrev pub check : {F : Type 0} → Type 0 → (F → Type 0) → Check F
check wanted fault = record { wanted = wanted; fault = fault }

-- a check with one fault
abbrev pub want : {F : Type 0} → Type 0 → F → Check F
want wanted e = check wanted (λ f. f ≡ e)

-- every check's wanted condition holds
abbrev pub Met : {F : Type 0} → List (Check F) → Type 0
Met [] = Unit {0}
Met (c ∷ rest) = c.wanted × Met rest

-- f is the fault of the first check whose wanted condition does not hold
abbrev pub First : {F : Type 0} → List (Check F) → F → Type 0
First [] f = ⊥
First (c ∷ rest) f = ((c.wanted → ⊥) × c.fault f) ⊎ (c.wanted × First rest f)

-- A lower layer's checks in an upper layer: the same conditions, and the lower layer's faults inside the upper layer's.
abbrev pub lifted : {E F : Type 0} → (E → F) → List (Check E) → List (Check F)
lifted up [] = []
lifted {E} up (c ∷ rest) = check c.wanted (λ f. (e : E) × c.fault e × (f ≡ up e)) ∷ lifted up rest

-- What an answer says of a call's checks: an accepted call met them all, a refused one answers the fault of the first that it did not meet.
abbrev pub Answer : {A F : Type 0} → List (Check F) → Result A F → Type 0
Answer checks (Ok a) = Met checks
Answer checks (Err f) = First checks f
