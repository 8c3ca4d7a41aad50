-- Each call: the nodes that it does not touch have their records up to the parent, and the values of used nodes stay.
use Rattle.std.proofs.Common.{◌≡◌, ℕ, zero, suc, ◌+◌, ◌-◌, ◌*◌, ◌/◌, ◌<◌, ◌≤◌, false, List, [], ◌∷◌, length, ℤ, Ok, sym, refl, ap, ◌∙◌, subst, inl, inr, arith}
use Rattle.grammar.specs.Grammar.{Grammar}
use Rattle.grammar.specs.Text.{Segment}
use Rattle.grammar.specs.Limits.{Limits}
use Rattle.grammar.specs.Values.{meaning_at}
use Rattle.table.specs.declared.node.Node.{Node}
use Rattle.table.specs.Nodes.{none, at, Used}
use Rattle.table.specs.Represents.{In}
use Rattle.table.proofs.Reading.{below_or_not, never_none}
use Rattle.table.proofs.Replaced.{equal_or_not}
use Rattle.edit.specs.declared.opened.OpenedBy.TheVariants.{Make, Insert, Cut, Paste, Exchange, Retype}
use Rattle.edit.specs.Fresh.{free_numbers, new_nodes, with_parent}
use Rattle.edit.specs.Memory.{OnlyRecords, Blanked}
use Rattle.edit.specs.Edits.{Inserted, CutOut, highest, Made}
use Rattle.edit.specs.Touching.{ChildOf, Touched}
use Rattle.edit.specs.Calls.{MakeCall, InsertCall, CutCall, PasteCall, ExchangeCall, RetypeCall, DiscardCall}
use Rattle.edit.proofs.NewNodes.{three_at, new_length, new_falling, place_in}
use Rattle.edit.proofs.Regrowing.{never_both}
use Rattle.edit.proofs.MadeSheet.{highest_at}
use Rattle.consistency.specs.Keeping.{Keeps}
use Rattle.consistency.proofs.Outside.{keeping}
use Rattle.consistency.proofs.Untouched.{SameButParent, ValuesStay, same_meaning, keeps_untouched}

-- a record that is the same
unchanged : (before after : List Node) (q : ℕ) → at after q ≡ at before q → SameButParent before after q
unchanged before after q e = record { parent = (at before q).parent; is = e }

-- new nodes were free
new_unused : (ns : List Node) (count : ℕ) → count ≤ length (free_numbers ns) → (m : ℕ) → Used ns m → In m (new_nodes ns count) → ⊥
new_unused ns count enough m used i =
    let p = place_in m (new_nodes ns count) i in
    never_both (at ns m).used used.1 (subst (λ (x : ℕ). (at ns x).used ≡ false) p.2 ((new_falling ns count enough).free p.0 p.1))

-- Where a root was hung in node n's place, every node but the old parent has its record up to the parent, if node n has.
hung : (before after : List Node) (root n : ℕ) → at after root ≡ with_parent (at before root) (at before n).parent → OnlyRecords (n ∷ root ∷ (at before n).parent ∷ []) before after → (q : ℕ) → (q ≡ n → SameButParent before after q) → (q ≡ (at before n).parent → ⊥) → SameButParent before after q
hung before after root n root_is others q node_stays out = elim (equal_or_not q n) [
  | inl same ↦ node_stays same.1
  | inr apart ↦ elim (equal_or_not q root) [
    | inl same ↦ record { parent = (at before n).parent; is = subst (λ (x : ℕ). at after x ≡ with_parent (at before x) (at before n).parent) (sym same.1) root_is }
    | inr elsewhere ↦ unchanged before after q (others.same q (λ i. elim i [ inl e ↦ apart.1 e | inr j ↦ elim j [ inl e ↦ elsewhere.1 e | inr k ↦ elim k [ inl e ↦ out e | inr l ↦ l ] ] ]))
  ]
]

module _ {R V M : Type 0} (means : V → M) (reads : R → V) (nothing : M) (before : List Node) (values values' : List R) where
  -- where only values of nodes that were free become blank, those of used nodes stay
  values_stay : (new : List ℕ) → ((m : ℕ) → Used before m → In m new → ⊥) → Blanked (λ row. means (reads row)) nothing new values values' → ValuesStay before (meaning_at means reads nothing values) (meaning_at means reads nothing values')
  values_stay new unused blanked m a used less =
      let place : (4 * m + a) / 4 ≡ m = omega arith in
      same_meaning (λ row. means (reads row)) nothing values values' (4 * m + a) blanked.many
      (λ d. blanked.same (4 * m + a) d (λ i. unused m used (subst (λ (x : ℕ). In x new) place i)))

  same_values : values' ≡ values → ValuesStay before (meaning_at means reads nothing values) (meaning_at means reads nothing values')
  same_values e m a used less = ap (λ rows. meaning_at means reads nothing rows (4 * m + a)) e

module _ {R V M : Type 0} (g : Grammar) (text : ℕ → List Segment) (limits : Limits g text) (rule : ℕ → ℕ → ℕ → ℤ → List M → M) (means : V → M) (reads : R → V) (nothing : M) (before : List Node) (values : List R) (after : List Node) (values' : List R) where
  -- Make touches every node that it leaves in use.
  module _ (call : MakeCall g (λ row. means (reads row)) nothing before values after values' {A = Unit {0}} (Ok tt)) where
    abbrev count : ℕ
    count = length (g.children 0)

    abbrev made : Made g (length before) after
    made = call.1.records

    some : count ≤ 3
    some = (limits.each 0 limits.start.0).few_children

    late_child : (q : ℕ) → q < length before → length before ≤ q + count → ChildOf g after 0 q
    late_child q inside late =
        let k : ℕ = length before - 1 - q in
        let less : k < count = omega arith in
        let back : length before - 1 - k ≡ q = omega arith in
        (k, rw made.start_is less, rw made.start_is (three_at (highest (length before) count) k (omega (arith, some)) ∙ highest_at (length before) count k less ∙ back))

    touched_by_make : (q : ℕ) → Used after q → Touched g after Make 0 q
    touched_by_make zero used = inl refl
    touched_by_make (suc n) used = elim (below_or_not (suc n + count) (length before)) [
      | inl early ↦ absurd (never_both (at after (suc n)).used used.1 (ap (λ (nd : Node). nd.used) (made.free (suc n) (omega arith) early)))
      | inr late ↦ inr (late_child (suc n) (omega (arith, used.0, made.many)) late)
    ]

    pub make_keeps : Keeps g rule means reads nothing before values after values' (Touched g after Make 0)
    make_keeps = keeping g rule means reads nothing before values after values' (Touched g after Make 0) (λ q used out. absurd (out (touched_by_make q used))) (λ q used out. absurd (out (touched_by_make q used)))

  -- Insert changes the node and the new nodes, which are its children then, and no other record; the new nodes were free.
  module _ (n p : ℕ) (l : ℤ) (call : InsertCall g (λ row. means (reads row)) nothing before values after values' {A = Unit {0}} n p l (Ok tt)) where
    abbrev inserted : Inserted g n p l before after
    inserted = call.1.records

    enough : length (g.children p) ≤ length (free_numbers before)
    enough = call.0.1.1.1.1.1.1.1.0

    at_most : length (g.children p) ≤ 3
    at_most = (limits.each p call.0.1.1.1.1.1.0.0).few_children

    new_child : (q : ℕ) → In q inserted.new → ChildOf g after n q
    new_child q i =
        let at_k = place_in q inserted.new i in
        let less : at_k.0 < length (g.children p) = omega (arith, at_k.1, ap length inserted.new_are, new_length before (length (g.children p)) enough) in
        (at_k.0, rw inserted.node_is less, rw inserted.node_is (three_at inserted.new at_k.0 (omega (arith, less, at_most)) ∙ at_k.2))

    pub insert_keeps : Keeps g rule means reads nothing before values after values' (Touched g after Insert n)
    insert_keeps =
        keeps_untouched g text limits before call.0.1.1.0 rule means reads nothing values after values' (Touched g after Insert n) inserted.others.many
        (values_stay means reads nothing before values values' inserted.new
        (λ m used i. new_unused before (length (g.children p)) enough m used (subst (λ (new : List ℕ). In m new) inserted.new_are i)) call.1.blanked)
        (λ q used out. unchanged before after q (inserted.others.same q (λ i. elim i [ inl e ↦ out (inl e) | inr j ↦ out (inr (new_child q j)) ])))

  -- Retype changes the node's record alone.
  pub retype_keeps : (n : ℕ) (l : ℤ) → RetypeCall g (λ row. means (reads row)) nothing before values after values' {A = Unit {0}} n l (Ok tt) → Keeps g rule means reads nothing before values after values' (Touched g after Retype n)
  retype_keeps n l call =
      keeps_untouched g text limits before call.0.1.1.0 rule means reads nothing values after values' (Touched g after Retype n) call.1.records.others.many
      (same_values means reads nothing before values values' call.1.same_values)
      (λ q used out. unchanged before after q (call.1.records.others.same q (λ i. elim i [ inl e ↦ out e | inr j ↦ absurd j ])))

  -- Discard frees the clipping's nodes and changes no other record.
  pub discard_keeps : (root : ℕ) (waiting waiting' : List ℕ) → DiscardCall g (λ row. means (reads row)) nothing before values after values' {A = Unit {0}} root waiting waiting' (Ok tt) → Keeps g rule means reads nothing before values after values' (λ q. ⊥)
  discard_keeps root waiting waiting' call =
      let work = call.0.1 in
      keeps_untouched g text limits before call.0.0.1.1.0 rule means reads nothing values after values' (λ q. ⊥) work.records.many
      (same_values means reads nothing before values values' work.same_values)
      (λ q used out. unchanged before after q (work.records.others q (λ climb. never_both (at after q).used used.1 (ap (λ (nd : Node). nd.used) (work.records.freed q climb)))))

  -- Cut changes the node's parent, its old parent's child field and the new hole, which was free.
  module _ (n hole : ℕ) (call : CutCall g (λ row. means (reads row)) nothing before values after values' n (Ok hole)) where
    abbrev cut_out : CutOut g n before after hole
    cut_out = call.1.records

    -- the hole's parent is the node's old one
    hole_parent : (at after hole).parent ≡ (at before n).parent
    hole_parent = ap (λ (nd : Node). nd.parent) cut_out.hole_is

    uncut : (q : ℕ) → Used after q → (Touched g after Cut hole q → ⊥) → SameButParent before after q
    uncut q used out = elim (equal_or_not q n) [
      | inl same ↦ record { parent = none; is = subst (λ (x : ℕ). at after x ≡ with_parent (at before x) none) (sym same.1) cut_out.root_is }
      | inr other ↦ unchanged before after q (cut_out.others.same q (λ i. elim i [
        | inl e ↦ other.1 e
        | inr j ↦ elim j [
          | inl e ↦ out (inl e)
          | inr k ↦ elim k [ inl e ↦ out (inr (hole_parent ∙ sym e, never_none after (omega (arith, cut_out.others.many, call.0.1.0.few)) q used)) | inr none_left ↦ none_left ]
        ]
      ]))
    ]

    pub cut_keeps : Keeps g rule means reads nothing before values after values' (Touched g after Cut hole)
    cut_keeps =
        keeps_untouched g text limits before call.0.1.1.0 rule means reads nothing values after values' (Touched g after Cut hole) cut_out.others.many
        (values_stay means reads nothing before values values' (hole ∷ [])
        (λ m used i. new_unused before 1 call.0.1.1.1.1.1.0 m used (subst (λ (new : List ℕ). In m new) cut_out.hole_number i)) call.1.blanked)
        uncut

  -- Paste and exchange change the root's parent, the node, and its old parent's child field, and no value.
  pub paste_keeps : (root n : ℕ) → PasteCall g (λ row. means (reads row)) nothing before values after values' {A = Unit {0}} root n (Ok tt) → Keeps g rule means reads nothing before values after values' (Touched g after Paste (at before n).parent)
  paste_keeps root n call =
      let pasted = call.1.records in
      keeps_untouched g text limits before call.0.1.1.0 rule means reads nothing values after values' (Touched g after Paste (at before n).parent) pasted.others.many
      (same_values means reads nothing before values values' call.1.same_values)
      (λ q used out. hung before after root n pasted.root_is pasted.others q (λ same. absurd (never_both (at after q).used used.1 (ap (λ (nd : Node). nd.used) (ap (λ x. at after x) same ∙ pasted.freed)))) out)

  pub exchange_keeps : (root n : ℕ) → ExchangeCall g (λ row. means (reads row)) nothing before values after values' {A = Unit {0}} root n (Ok tt) → Keeps g rule means reads nothing before values after values' (Touched g after Exchange (at before n).parent)
  exchange_keeps root n call =
      let exchanged = call.1.records in
      keeps_untouched g text limits before call.0.1.1.0 rule means reads nothing values after values' (Touched g after Exchange (at before n).parent) exchanged.others.many
      (same_values means reads nothing before values values' call.1.same_values)
      (λ q used out. hung before after root n exchanged.root_is exchanged.others q (λ same. record { parent = none; is = subst (λ (x : ℕ). at after x ≡ with_parent (at before x) none) (sym same) exchanged.node_is }) out)
