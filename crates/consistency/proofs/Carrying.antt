-- One node is as consistent after a change as before it, where the change leaves its production, its literal and the values at its places.
use Rattle.std.proofs.Common.{◌≡◌, ℕ, zero, suc, ◌<◌, List, [], ◌∷◌, map, ℤ, sym, refl, ap, ◌∙◌, subst, inl, inr, arith}
use Rattle.grammar.specs.declared.language.Occurrence.{Occurrence}
use Rattle.grammar.specs.Grammar.{Grammar, Occurs, Given, Among, arguments}
use Rattle.grammar.specs.Text.{Segment}
use Rattle.grammar.specs.Limits.{Limits}
use Rattle.table.specs.declared.node.Node.{Node}
use Rattle.table.specs.Nodes.{at}
use Rattle.consistency.specs.Consistent.{figure_at, argument_figures, ConsistentAt}

-- what a production gives occurs in it
given_occurs : (g : Grammar) (p i a : ℕ) → Given g p i a → Occurs g p i a
given_occurs g p zero a given = given.1
given_occurs g p (suc k) a given = (given.0, omega (arith, given.1))

-- figures that mean the same one by one mean the same as a list
same_among : {M : Type 0} (stored stored' : ℕ → M) (f f' : Occurrence → ℕ) (os : List Occurrence) → ((o : Occurrence) → Among o os → stored' (f' o) ≡ stored (f o)) → map stored' (map f' os) ≡ map stored (map f os)
same_among stored stored' f f' [] same = refl
same_among stored stored' f f' (o ∷ os) same =
    ap (λ m. m ∷ map stored' (map f' os)) (same o (inl refl)) ∙ ap (λ ms. stored (f o) ∷ ms) (same_among stored stored' f f' os (λ x i. same x (inr i)))

-- What a node keeps: production, literal, and what the figures at its places mean.
pub record SameAt {M : Type 0} (g : Grammar) (before after : List Node) (stored stored' : ℕ → M) (q : ℕ) : Type 0 where
  pub exists : (at before q).production < g.productions
  pub production : (at after q).production ≡ (at before q).production
  pub literal : (at after q).literal ≡ (at before q).literal
  pub figures : (i a : ℕ) → Occurs g (at before q).production i a → stored' (figure_at after q i a) ≡ stored (figure_at before q i a)

module _ {M : Type 0} (g : Grammar) (text : ℕ → List Segment) (limits : Limits g text) (rule : ℕ → ℕ → ℕ → ℤ → List M → M) (before after : List Node) (stored stored' : ℕ → M) (q : ℕ) (same : SameAt g before after stored stored' q) where
  abbrev p : ℕ
  p = (at before q).production

  -- what the arguments of a production's rule mean at node q afterwards
  abbrev taken : ℕ → ℕ → ℕ → List M
  taken r i a = map stored' (map (λ o. figure_at after q o.place o.attribute) (arguments g r i a))

  arguments_same : (i a : ℕ) → taken p i a ≡ map stored (argument_figures g before q i a)
  arguments_same i a =
      same_among stored stored' (λ o. figure_at before q o.place o.attribute) (λ o. figure_at after q o.place o.attribute) (arguments g p i a)
      (λ o among. same.figures o.place o.attribute ((limits.each p same.exists).arguments_occur i a o among))

  pub carried : ConsistentAt g rule before stored q → ConsistentAt g rule after stored' q
  carried was i a given =
      let held : Given g p i a = subst (λ (r : ℕ). Given g r i a) same.production given in
      same.figures i a (given_occurs g p i a held)
      ∙ was i a held
      ∙ ap (λ ms. rule p i a (at before q).literal ms) (sym (arguments_same i a))
      ∙ ap (λ l. rule p i a l (taken p i a)) (sym same.literal)
      ∙ ap (λ r. rule r i a (at after q).literal (taken r i a)) (sym same.production)
