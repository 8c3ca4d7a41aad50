-- What is read off a sheet at one used node: what its record keeps, its children, and that no used node has the number for none.
use Rattle.std.proofs.Common.{◌≡◌, ℕ, ◌<◌, ◌≤◌, ◌⊎◌, List, length, inl, inr, arith}
use Rattle.std.proofs.lemmas.Bool.{cases_lt}
use Rattle.std.proofs.lemmas.List.{get_or_past}
pub use Rattle.std.proofs.lemmas.Bool.{cases_lt as below_or_not}
pub use Rattle.std.proofs.lemmas.List.{get_or_past as past_the_end}
use Rattle.grammar.specs.Grammar.{Grammar, child}
use Rattle.table.specs.declared.node.Node.{Node}
use Rattle.table.specs.Nodes.{none, at, child_field, Used}
use Rattle.table.specs.Sheets.{Sheet, Good, InOrder, ChildAt}

pub in_order : {g : Grammar} {ns : List Node} → Sheet g ns → (n : ℕ) → Used ns n → InOrder g ns n
in_order {g} {ns} sheet n u = rw (u.1, Good) at (sheet.each n u.0)

-- no used node has the number that stands for none
pub never_none : (ns : List Node) → length ns ≤ 1000 → (n : ℕ) → Used ns n → n ≡ none → ⊥
never_none ns few n u e = omega arith

-- at a child place stands a child, or nothing
pub child_or_none : {g : Grammar} {ns : List Node} → Sheet g ns → (n : ℕ) → Used ns n → (k : ℕ) → k < 3 → ((k < length (g.children (at ns n).production)) × ChildAt g ns n k) ⊎ ((child g (at ns n).production k ≡ g.symbols) × (child_field (at ns n) k ≡ none))
child_or_none {g} {ns} sheet n u k h = elim (cases_lt k (length (g.children (at ns n).production))) [ inl l ↦ inl (l, (in_order sheet n u).children k l) | inr l ↦ inr (get_or_past (g.children (at ns n).production) k g.symbols l, (in_order sheet n u).no_further k l h) ]

-- a child field that names a used node names a child
pub used_child : {g : Grammar} {ns : List Node} → Sheet g ns → length ns ≤ 1000 → (n : ℕ) → Used ns n → (k : ℕ) → k < 3 → Used ns (child_field (at ns n) k) → (k < length (g.children (at ns n).production)) × ChildAt g ns n k
used_child {g} {ns} sheet few n u k h c = elim (child_or_none sheet n u k h) [ inl x ↦ x | inr x ↦ absurd (never_none ns few (child_field (at ns n) k) c x.1) ]
