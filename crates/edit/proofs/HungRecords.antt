-- A clipping's root can be hung in the place of a node on the sheet, and what that makes of each record.
use Rattle.std.proofs.Common.{◌≡◌, ℕ, ◌<◌, ◌≤◌, List, length, get_or, set, sym, refl, ap, ◌∙◌, subst, inl, inr, arith, get_or-set_other, get_or-set_same}
use Rattle.grammar.specs.Grammar.{Grammar}
use Rattle.table.specs.declared.node.Node.{Node}
use Rattle.table.specs.Nodes.{at, child_field}
use Rattle.table.specs.Climbing.{Climb, ends, goes_on}
use Rattle.table.specs.Sheets.{ClippingRoot, OneChildOf}
use Rattle.table.proofs.Climbs.{climb_used, climb_unique}
use Rattle.table.proofs.Reading.{never_none, below_or_not, past_the_end}
use Rattle.table.proofs.Replaced.{equal_or_not}
use Rattle.table.proofs.Under.{itself, depth_of, none_both_ways}
use Rattle.table.proofs.Members.{AtMostThree}
use Rattle.edit.specs.Edits.{Exchanged}
use Rattle.edit.specs.Hanging.{Hangable}
use Rattle.edit.proofs.Forest.{Forest, Stands, alone, hanging}
use Rattle.edit.proofs.Swapping.{Ready, Swapped}

module _ (g : Grammar) (ns : List Node) (few : length ns ≤ 1000) (three : AtMostThree g) (forest : Forest g ns) (r n : ℕ) (at_root : ClippingRoot ns r) (on : Climb ns 0 n) (other : n ≡ 0 → ⊥) where
  -- the node's parent is on the sheet too
  pub parent_on : Climb ns 0 (at ns n).parent
  parent_on = go on
    where
      go : Climb ns 0 n → Climb ns 0 (at ns n).parent
      go (ends u p e) = absurd (other (sym e))
      go (goes_on m u p c) = subst (λ (i : ℕ). Climb ns 0 i) (sym p) c

  pub one_child : OneChildOf g ns (at ns n).parent n
  one_child = go (forest.tended n (climb_used ns 0 n on)).stands
    where
      go : Stands g ns n → OneChildOf g ns (at ns n).parent n
      go (alone p) = absurd (never_none ns few (at ns n).parent (climb_used ns 0 (at ns n).parent parent_on) p)
      go (hanging z u o) = o

  -- whatever climbs to node 0 is not the root
  pub no_root : (x : ℕ) → Climb ns 0 x → x ≡ r → ⊥
  no_root x c e = at_root.1 (sym (climb_unique ns (omega arith) 0 r x c (subst (λ (i : ℕ). Climb ns r i) (sym e) (ends at_root.0 at_root.2 refl))))

  pub parent_apart : (at ns n).parent ≡ n → ⊥
  parent_apart e = none_both_ways ns few (depth_of on).1 (depth_of on).1 n e (itself (climb_used ns 0 n on) refl)

  pub place_inside : one_child.place < 3
  place_inside = omega (arith, one_child.inside, three (at ns (at ns n).parent).production (forest.tended (at ns n).parent (climb_used ns 0 (at ns n).parent parent_on)).production_exists)

  pub hangable : Hangable ns r n
  hangable = record {
    root_inside = at_root.0.0;
    node_inside = (climb_used ns 0 n on).0;
    parent_inside = (climb_used ns 0 (at ns n).parent parent_on).0;
    root_apart = λ e. no_root n on (sym e);
    parent_apart = parent_apart;
    parent_no_root = no_root (at ns n).parent parent_on;
    place = one_child.place;
    place_inside = place_inside;
    named = one_child.named;
  }

  pub ready : g.symbol (at ns r).production ≡ g.symbol (at ns n).production → Ready g r n (at ns n).parent one_child.place ns
  ready symbol = record {
    root_used = at_root.0;
    root_alone = at_root.2;
    root_other = at_root.1;
    node_other = other;
    parent = refl;
    parent_used = climb_used ns 0 (at ns n).parent parent_on;
    parent_climbs = parent_on;
    place = one_child.inside;
    named = one_child.named;
    symbol = symbol;
  }

  module _ (ns' : List Node) (exchanged : Exchanged r n ns ns') where
    -- the place found is the node's one place
    same_place : exchanged.link.place ≡ one_child.place
    same_place = elim (below_or_not exchanged.link.place (length (g.children (at ns (at ns n).parent).production))) [
      | inl h ↦ one_child.alone exchanged.link.place h exchanged.link.named
      | inr h ↦ absurd (never_none ns few n (climb_used ns 0 n on) (sym exchanged.link.named ∙ (forest.tended (at ns n).parent (climb_used ns 0 (at ns n).parent parent_on)).no_further exchanged.link.place h exchanged.link.inside))
    ]

    long : one_child.place < length (at ns (at ns n).parent).children
    long = elim (below_or_not one_child.place (length (at ns (at ns n).parent).children)) [
      | inl h ↦ h
      | inr h ↦ absurd (other (sym one_child.named ∙ past_the_end (at ns (at ns n).parent).children one_child.place 0 h))
    ]

    children_after : (at ns' (at ns n).parent).children ≡ set (at ns (at ns n).parent).children one_child.place r
    children_after = exchanged.link.children ∙ ap (λ (k : ℕ). set (at ns (at ns n).parent).children k r) same_place

    -- what hanging leaves of a record
    everywhere : {A : Type 0} (part : Node → A) → part (at ns' r) ≡ part (at ns r) → part (at ns' n) ≡ part (at ns n) → part (at ns' (at ns n).parent) ≡ part (at ns (at ns n).parent) → (x : ℕ) → part (at ns' x) ≡ part (at ns x)
    everywhere part at-r at_n at_q x = elim (equal_or_not x r) [
      | inl a ↦ subst (λ (i : ℕ). part (at ns' i) ≡ part (at ns i)) (sym a.1) at-r
      | inr a ↦ elim (equal_or_not x n) [
        | inl b ↦ subst (λ (i : ℕ). part (at ns' i) ≡ part (at ns i)) (sym b.1) at_n
        | inr b ↦ elim (equal_or_not x (at ns n).parent) [
          | inl c ↦ subst (λ (i : ℕ). part (at ns' i) ≡ part (at ns i)) (sym c.1) at_q
          | inr c ↦ ap part (exchanged.others.same x (λ i. elim i [ inl e ↦ b.1 e | inr j ↦ elim j [ inl e ↦ a.1 e | inr l ↦ elim l [ inl e ↦ c.1 e | inr z ↦ z ] ] ]))
        ]
      ]
    ]

    pub swapped : Swapped r n (at ns n).parent one_child.place ns ns'
    swapped = record {
      many = exchanged.others.many;
      used = everywhere (λ nd. nd.used) (ap (λ (nd : Node). nd.used) exchanged.root_is) (ap (λ (nd : Node). nd.used) exchanged.node_is) exchanged.link.used;
      production = everywhere (λ nd. nd.production) (ap (λ (nd : Node). nd.production) exchanged.root_is) (ap (λ (nd : Node). nd.production) exchanged.node_is) exchanged.link.production;
      literal = everywhere (λ nd. nd.literal) (ap (λ (nd : Node). nd.literal) exchanged.root_is) (ap (λ (nd : Node). nd.literal) exchanged.node_is) exchanged.link.literal;
      parent_r = ap (λ (nd : Node). nd.parent) exchanged.root_is;
      parent_n = ap (λ (nd : Node). nd.parent) exchanged.node_is;
      parent_other = parent_other;
      child_k = ap (λ (cs : List ℕ). get_or cs one_child.place 0) children_after ∙ get_or-set_same (at ns (at ns n).parent).children one_child.place r 0 long;
      child_other = child_other;
    }
      where
        parent_other : (x : ℕ) → (x ≡ r → ⊥) → (x ≡ n → ⊥) → (at ns' x).parent ≡ (at ns x).parent
        parent_other x a b = elim (equal_or_not x (at ns n).parent) [
          | inl c ↦ subst (λ (i : ℕ). (at ns' i).parent ≡ (at ns i).parent) (sym c.1) exchanged.link.parent
          | inr c ↦ ap (λ (nd : Node). nd.parent) (exchanged.others.same x (λ i. elim i [ inl e ↦ b e | inr j ↦ elim j [ inl e ↦ a e | inr l ↦ elim l [ inl e ↦ c.1 e | inr z ↦ z ] ] ]))
        ]

        child_other : (x j : ℕ) → ((x ≡ (at ns n).parent) × (j ≡ one_child.place) → ⊥) → child_field (at ns' x) j ≡ child_field (at ns x) j
        child_other x j out = elim (equal_or_not x (at ns n).parent) [
          | inl c ↦
              subst (λ (i : ℕ). child_field (at ns' i) j ≡ child_field (at ns i) j) (sym c.1)
              (ap (λ (cs : List ℕ). get_or cs j 0) children_after ∙ get_or-set_other (at ns (at ns n).parent).children one_child.place j r 0 (λ e. out (c.1, e)))
          | inr c ↦ elim (equal_or_not x r) [
            | inl a ↦ subst (λ (i : ℕ). child_field (at ns' i) j ≡ child_field (at ns i) j) (sym a.1) (ap (λ (nd : Node). child_field nd j) exchanged.root_is)
            | inr a ↦ elim (equal_or_not x n) [
              | inl b ↦ subst (λ (i : ℕ). child_field (at ns' i) j ≡ child_field (at ns i) j) (sym b.1) (ap (λ (nd : Node). child_field nd j) exchanged.node_is)
              | inr b ↦ ap (λ (nd : Node). child_field nd j) (exchanged.others.same x (λ i. elim i [ inl e ↦ b.1 e | inr l ↦ elim l [ inl e ↦ a.1 e | inr m ↦ elim m [ inl e ↦ c.1 e | inr z ↦ z ] ] ]))
            ]
          ]
        ]
