-- The limits by computation: Bool tests over a table and a text, and the lemma that a table which passes them keeps the limits.
-- There is nothing here to believe: what the limits say stands in Limits, and a test that tested too little could not prove them.
use Rattle.std.specs.Prelude.{◌≡◌, ℕ, zero, suc, ◌<◌, ◌≤◌, Bool, true, false, not, ◌&&◌, ◌||◌, T, leb, ◌⊎◌, List, [], ◌∷◌, length, ℤ, pos, ◌==◌, nat_le, nat_lt, slice_index_or, refl}
use Rattle.std.proofs.Common.{sym, ap, subst, inl, inr, arith, eqb→eq, leb→le, ltb→lt, le→leb, lt→ltb}
use Rattle.std.proofs.Math.Dec.{eqb_refl}
use Rattle.grammar.specs.declared.language.Occurrence.{Occurrence}
use Rattle.grammar.specs.Grammar.{Grammar, Rule, attributes, child, Occurs, Given, Among, is_at, arguments_in, rules_for}
use Rattle.grammar.specs.Limits.{Lawful, counted, Short, ProductionLimits, Limits}
use Rattle.grammar.specs.Text.{Segment, bytes, literal, named}
use Rattle.grammar.specs.Text

-- Tests of lists and of numbers below a bound

-- every test of a list passes
abbrev pub all : List Bool → Bool
all [] = true
all (b ∷ bs) = b && all bs

abbrev pub all_of : {A : Type 0} → (A → Bool) → List A → Bool
all_of f [] = true
all_of f (x ∷ xs) = f x && all_of f xs

abbrev pub all_below : (ℕ → Bool) → ℕ → Bool
all_below f zero = true
all_below f (suc n) = f n && all_below f n

abbrev pub same_numbers : List ℕ → List ℕ → Bool
same_numbers [] [] = true
same_numbers [] (y ∷ ys) = false
same_numbers (x ∷ xs) [] = false
same_numbers (x ∷ xs) (y ∷ ys) = x == y && same_numbers xs ys

first : (x y : Bool) → T (x && y) → T x
first true y t = tt
first false y t = t

second : (x y : Bool) → T (x && y) → T y
second true y t = t
second false y t = absurd t

otherwise : (x y : Bool) → T (not x || y) → T x → T y
otherwise true y t h = t
otherwise false y t h = absurd h

-- test k of a list that passes
passed : (bs : List Bool) → T (all bs) → (k : ℕ) → T (slice_index_or bs k true)
passed [] t k = tt
passed (b ∷ bs) t zero = first b (all bs) t
passed (b ∷ bs) t (suc k) = passed bs (second b (all bs) t) k

passed_at : {A : Type 0} (f : A → Bool) (xs : List A) → T (all_of f xs) → (k : ℕ) (d : A) → k < length xs → T (f (slice_index_or xs k d))
passed_at f [] t k d h = absurd (omega arith)
passed_at f (x ∷ xs) t zero d h = first (f x) (all_of f xs) t
passed_at f (x ∷ xs) t (suc k) d h = passed_at f xs (second (f x) (all_of f xs) t) k d (omega arith)

passed_below : (f : ℕ → Bool) (n : ℕ) → T (all_below f n) → (k : ℕ) → k < n → T (f k)
passed_below f zero t k h = absurd (omega arith)
passed_below f (suc n) t k h = elim (either k n (omega arith)) [ inl e ↦ subst (λ (m : ℕ). T (f m)) (sym e) (first (f n) (all_below f n) t) | inr l ↦ passed_below f n (second (f n) (all_below f n) t) k l ]
  where
    either : (j m : ℕ) → j ≤ m → (j ≡ m) ⊎ (j < m)
    either zero zero l = inl refl
    either zero (suc m) l = inr (omega arith)
    either (suc j) zero l = absurd (omega arith)
    either (suc j) (suc m) l = elim (either j m (omega arith)) [ inl e ↦ inl (ap suc e) | inr g ↦ inr (omega arith) ]

same_numbers→eq : (xs ys : List ℕ) → T (same_numbers xs ys) → xs ≡ ys
same_numbers→eq [] [] t = refl
same_numbers→eq [] (y ∷ ys) t = absurd t
same_numbers→eq (x ∷ xs) [] t = absurd t
same_numbers→eq (x ∷ xs) (y ∷ ys) t =
    let e = eqb→eq x y (first (x == y) (same_numbers xs ys) t) in
    let r = same_numbers→eq xs ys (second (x == y) (same_numbers xs ys) t) in
    cc

empty : (xs : List ℕ) → length xs ≡ 0 → xs ≡ []
empty [] e = refl
empty (x ∷ xs) e = absurd (omega arith)

-- The tests of a table and its text

abbrev pub occurs : Grammar → ℕ → ℕ → ℕ → Bool
occurs g p zero a = nat_lt a (attributes g (g.symbol p))
occurs g p (suc k) a = nat_lt k (length (g.children p)) && nat_lt a (attributes g (child g p k))

abbrev pub given : Grammar → ℕ → ℕ → ℕ → Bool
given g p zero a = nat_le (g.inherited (g.symbol p)) a && nat_lt a (attributes g (g.symbol p))
given g p (suc k) a = nat_lt k (length (g.children p)) && nat_lt a (g.inherited (child g p k))

abbrev pub short : Segment → Bool
short (bytes b) = nat_lt 0 (length b) && nat_le (length b) 8
short literal = true
short (Text.child i) = true

-- the rule gives what its production gives, from few arguments that occur
abbrev pub rule_tests : Grammar → ℕ → Rule → List Bool
rule_tests g p r =
    given g p r.target.place r.target.attribute
    ∷ nat_le (length r.arguments) 4
    ∷ all_of (λ o. occurs g p o.place o.attribute) r.arguments
    ∷ []

abbrev pub rule_keeps : Grammar → ℕ → Rule → Bool
rule_keeps g p r = all (rule_tests g p r)

-- what is given at one of the places and attributes below 4 has one rule
abbrev pub one_rule_at : Grammar → ℕ → ℕ → ℕ → Bool
one_rule_at g p i a = not (given g p i a) || rules_for (g.rules p) i a == 1

abbrev pub one_rule_each : Grammar → ℕ → Bool
one_rule_each g p = all_below (λ i. all_below (one_rule_at g p i) 4) 4

abbrev pub production_tests : Grammar → (ℕ → List Segment) → ℕ → List Bool
production_tests g text p =
    nat_lt (g.symbol p) g.symbols
    ∷ (not (g.symbol p == 0) || p == 0)
    ∷ nat_le (length (g.children p)) 3
    ∷ all_of (λ s. nat_lt 0 s && nat_lt s g.symbols) (g.children p)
    ∷ one_rule_each g p
    ∷ all_of (rule_keeps g p) (g.rules p)
    ∷ nat_le (length (text p)) 8
    ∷ all_of short (text p)
    ∷ same_numbers (named (text p)) (counted 1 (length (g.children p)))
    ∷ []

abbrev pub production_keeps : Grammar → (ℕ → List Segment) → ℕ → Bool
production_keeps g text p = all (production_tests g text p)

abbrev pub hole_tests : Grammar → ℕ → List Bool
hole_tests g s = nat_lt s g.productions ∷ (g.symbol s == s) ∷ (length (g.children s) == 0) ∷ []

abbrev pub hole_keeps : Grammar → ℕ → Bool
hole_keeps g s = not (nat_lt 0 s) || all (hole_tests g s)

abbrev pub table_tests : Grammar → (ℕ → List Segment) → List Bool
table_tests g text =
    nat_le 1 g.symbols
    ∷ nat_le g.symbols 16
    ∷ nat_le g.productions 48
    ∷ all_below (λ s. leb (attributes g s) 4) g.symbols
    ∷ (g.inherited 0 == 0)
    ∷ nat_lt 0 g.productions
    ∷ (g.symbol 0 == 0)
    ∷ all_below (hole_keeps g) g.symbols
    ∷ all_below (production_keeps g text) g.productions
    ∷ []

-- every limit but those on literals
abbrev pub keeps : Grammar → (ℕ → List Segment) → Bool
keeps g text = all (table_tests g text)

-- From the tests to the facts

orders : (a b c d : ℕ) → T (nat_le a b && nat_le c d) → (a ≤ b) × (c ≤ d)
orders a b c d t = (leb→le a b (first (nat_le a b) (nat_le c d) t), leb→le c d (second (nat_le a b) (nat_le c d) t))

tests : (a b c d : ℕ) → (a ≤ b) × (c ≤ d) → T (nat_le a b && nat_le c d)
tests a b c d h = both (nat_le a b) (nat_le c d) (le→leb a b h.0) (le→leb c d h.1)
  where
    both : (x y : Bool) → T x → T y → T (x && y)
    both true y t u = u
    both false y t u = t

at_is : (o : Occurrence) (i a : ℕ) → T (is_at o i a) → (i ≡ o.place) × (a ≡ o.attribute)
at_is o i a t = (eqb→eq i o.place (first (i == o.place) (a == o.attribute) t), eqb→eq a o.attribute (second (i == o.place) (a == o.attribute) t))

short_is : (s : Segment) → T (short s) → Short s
short_is (bytes b) t = orders 1 (length b) (length b) 8 t
short_is literal t = tt
short_is (Text.child i) t = tt

module _ (g : Grammar) (p : ℕ) where
  occurs_is : (i a : ℕ) → T (occurs g p i a) → Occurs g p i a
  occurs_is zero a t = ltb→lt a (attributes g (g.symbol p)) t
  occurs_is (suc k) a t = orders (suc k) (length (g.children p)) (suc a) (attributes g (child g p k)) t

  given_is : (i a : ℕ) → T (given g p i a) → Given g p i a
  given_is zero a t = orders (g.inherited (g.symbol p)) a (suc a) (attributes g (g.symbol p)) t
  given_is (suc k) a t = orders (suc k) (length (g.children p)) (suc a) (g.inherited (child g p k)) t

  is_given : (i a : ℕ) → Given g p i a → T (given g p i a)
  is_given zero a h = tests (g.inherited (g.symbol p)) a (suc a) (attributes g (g.symbol p)) h
  is_given (suc k) a h = tests (suc k) (length (g.children p)) (suc a) (g.inherited (child g p k)) h

  all_occur : (os : List Occurrence) → T (all_of (λ o. occurs g p o.place o.attribute) os) → (o : Occurrence) → Among o os → Occurs g p o.place o.attribute
  all_occur [] t o h = absurd h
  all_occur (x ∷ os) t o (inl e) =
      subst (λ (y : Occurrence). Occurs g p y.place y.attribute) (sym e)
      (occurs_is x.place x.attribute (first (occurs g p x.place x.attribute) _ t))
  all_occur (x ∷ os) t o (inr h) = all_occur os (second (occurs g p x.place x.attribute) _ t) o h

  -- where every rule gives what the production gives, there is no rule for anything else
  none_else : (rs : List Rule) → T (all_of (rule_keeps g p) rs) → (i a : ℕ) → (Given g p i a → ⊥) → rules_for rs i a ≡ 0
  none_else [] t i a other = refl
  none_else (r ∷ rs) t i a other = here (is_at r.target i a) (at_is r.target i a) (none_else rs (second (rule_keeps g p r) (all_of (rule_keeps g p) rs) t) i a other)
    where
      ours : Given g p r.target.place r.target.attribute
      ours = given_is r.target.place r.target.attribute (passed (rule_tests g p r) (first (rule_keeps g p r) (all_of (rule_keeps g p) rs) t) 0)

      here : (b : Bool) → (T b → (i ≡ r.target.place) × (a ≡ r.target.attribute)) → rules_for rs i a ≡ 0 → ◌≡◌ {A = ℕ} (elim b [ true ↦ suc (rules_for rs i a) | false ↦ rules_for rs i a ]) 0
      here true is e = absurd (other (rw ((is tt).0, (is tt).1) ours))
      here false is e = e

  -- what holds of no arguments and of every rule's arguments holds of the arguments for any attribute at any place
  of_arguments : (P : List Occurrence → Type 0) → P [] → ((r : Rule) → T (rule_keeps g p r) → P r.arguments) → (rs : List Rule) → T (all_of (rule_keeps g p) rs) → (i a : ℕ) → P (arguments_in rs i a)
  of_arguments P none some [] t i a = none
  of_arguments P none some (r ∷ rs) t i a = here (is_at r.target i a) (some r (first (rule_keeps g p r) _ t)) (of_arguments P none some rs (second (rule_keeps g p r) _ t) i a)
    where
      here : (b : Bool) → P r.arguments → P (arguments_in rs i a) → P (elim b [ true ↦ r.arguments | false ↦ arguments_in rs i a ])
      here true now later = now
      here false now later = later

module _ (g : Grammar) (text : ℕ → List Segment) (few : (s : ℕ) → s < g.symbols → attributes g s ≤ 4) (p : ℕ) (t : T (production_keeps g text p)) (lawful : (l : ℤ) → T (g.accepts p l) → Lawful l) where
  test : (k : ℕ) → T (slice_index_or (production_tests g text p) k true)
  test = passed (production_tests g text p) t

  children_exist : (k : ℕ) → k < length (g.children p) → (0 < child g p k) × (child g p k < g.symbols)
  children_exist k h = let s = child g p k in orders 1 s (suc s) g.symbols (passed_at (λ c. nat_lt 0 c && nat_lt c g.symbols) (g.children p) (test 3) k g.symbols h)

  -- what is given is given at a place and an attribute below 4
  small : (i a : ℕ) → Given g p i a → (i < 4) × (a < 4)
  small zero a h = let e = few (g.symbol p) (ltb→lt _ _ (test 0)) in (omega arith, omega arith)
  small (suc k) a h =
      let e = few (child g p k) (children_exist k h.0).1 in
      let c = leb→le (length (g.children p)) 3 (test 2) in
      (omega arith, omega arith)

  one_each : (i a : ℕ) → Given g p i a → rules_for (g.rules p) i a ≡ 1
  one_each i a h =
      let near = small i a h in
      eqb→eq _ 1 (otherwise (given g p i a) _ (passed_below (one_rule_at g p i) 4 (passed_below (λ j. all_below (one_rule_at g p j) 4) 4 (test 4) i near.0) a near.1) (is_given g p i a h))

  production_limits : ProductionLimits g text p
  production_limits =
      record {
        symbol_exists = ltb→lt _ _ (test 0);
        start_alone = λ e. eqb→eq p 0 (otherwise (g.symbol p == 0) (p == 0) (test 1) (rw e (eqb_refl 0)));
        few_children = leb→le _ 3 (test 2);
        child_exists = children_exist;
        one_rule = one_each;
        no_other_rule = none_else g p (g.rules p) (test 5);
        few_arguments = of_arguments g p (λ os. length os ≤ 4) (omega arith) (λ r u. leb→le _ 4 (passed (rule_tests g p r) u 1)) (g.rules p) (test 5);
        arguments_occur = of_arguments g p (λ os. (o : Occurrence) → Among o os → Occurs g p o.place o.attribute) (λ o h. absurd h) (λ r u. all_occur g p r.arguments (passed (rule_tests g p r) u 2)) (g.rules p) (test 5);
        literals = lawful;
        few_segments = leb→le _ 8 (test 6);
        short_bytes = λ k h. short_is _ (passed_at short (text p) (test 7) k literal h);
        each_child_once = same_numbers→eq _ _ (test 8);
      }

-- A table that passes the tests, with what is said of its literals, keeps the limits.
pub limits_by_test :
    (g : Grammar) (text : ℕ → List Segment)
    → T (keeps g text)
    → ((p : ℕ) → p < g.symbols → T (g.accepts p (pos 0)) × ((l : ℤ) → T (g.accepts p l) → l ≡ pos 0))
    → ((p : ℕ) → p < g.productions → (l : ℤ) → T (g.accepts p l) → Lawful l)
    → Limits g text
limits_by_test g text t zero_alone lawful =
    record {
      some_symbol = leb→le 1 _ (test 0);
      few_symbols = leb→le _ 16 (test 1);
      few_productions = leb→le _ 48 (test 2);
      few_attributes = few;
      start_inherits_nothing = eqb→eq _ 0 (test 4);
      start = (ltb→lt 0 _ (test 5), eqb→eq _ 0 (test 6));
      hole = holes;
      zero_alone = zero_alone;
      each = λ p h. production_limits g text few p (passed_below (production_keeps g text) g.productions (test 8) p h) (lawful p h);
    }
  where
    test : (k : ℕ) → T (slice_index_or (table_tests g text) k true)
    test = passed (table_tests g text) t

    few : (s : ℕ) → s < g.symbols → attributes g s ≤ 4
    few s h = leb→le _ 4 (passed_below (λ s. leb (attributes g s) 4) g.symbols (test 3) s h)

    holes : (s : ℕ) → 0 < s → s < g.symbols → (s < g.productions) × (g.symbol s ≡ s) × (g.children s ≡ [])
    holes s z h =
        let u = passed (hole_tests g s) (otherwise (nat_lt 0 s) (all (hole_tests g s)) (passed_below (hole_keeps g) g.symbols (test 7) s h) (lt→ltb 0 s z)) in
        (ltb→lt s _ (u 0), eqb→eq _ s (u 1), empty (g.children s) (eqb→eq _ 0 (u 2)))
