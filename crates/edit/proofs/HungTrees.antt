-- The trees after a root was hung in the place of a node on the sheet: the tree under node 0 has the root's tree there, every clipping keeps its tree.
use Rattle.std.proofs.Common.{◌≡◌, ℕ, ◌<◌, ◌≤◌, List, length, sym, ◌∙◌, subst, inl, inr, arith}
use Rattle.grammar.specs.Grammar.{Grammar}
use Rattle.grammar.specs.Tree.{Tree}
use Rattle.table.specs.declared.node.Node.{Node}
use Rattle.table.specs.Nodes.{at, child_field, Used}
use Rattle.table.specs.Climbing.{Climb}
use Rattle.table.specs.Sheets.{Sheet, ClippingRoot}
use Rattle.table.specs.Represents.{Represents, numbers, In, replace}
use Rattle.table.proofs.Climbs.{climb_used, climb_unique}
use Rattle.table.proofs.Under.{Under, itself, under_used, under_climb, climb_under, depth_of, none_both_ways}
use Rattle.table.proofs.Members.{AtMostThree, member_under, under_member}
use Rattle.table.proofs.Replaced.{equal_or_not}
use Rattle.table.proofs.Frame.{Kept, framed}
use Rattle.table.proofs.Relinking.{LinkChanged, link_replaced}
use Rattle.edit.proofs.Swapping.{Swapped}

module _ (g : Grammar) (ns ns' : List Node) (sheet : Sheet g ns) (few : length ns ≤ 1000) (three : AtMostThree g) (n q k r : ℕ) (on : Climb ns 0 n) (parent : (at ns n).parent ≡ q) (parent_on : Climb ns 0 q) (inside : k < 3) (named : child_field (at ns q) k ≡ n) (kept : (x : ℕ) → Used ns x → (x ≡ q → ⊥) → (x ≡ n → ⊥) → Kept ns ns' x) where
  -- what climbs elsewhere is no node that climbs to node 0
  apart : (c x y : ℕ) → (c ≡ 0 → ⊥) → Climb ns c x → Climb ns 0 y → x ≡ y → ⊥
  apart c x y other d e f = other (climb_unique ns (omega arith) c 0 x d (subst (λ (i : ℕ). Climb ns 0 i) (sym f) e))

  -- a clipping's tree stays
  pub clipping_tree : (c : ℕ) (t : Tree) → ClippingRoot ns c → Represents ns c t → Represents ns' c t
  clipping_tree c t at_c rep = framed ns ns' t c rep (λ x i.
      let d : Climb ns c x = under_climb at_c.2 (member_under g ns sheet few x t c rep i) in
      kept x (climb_used ns c x d) (apart c x q at_c.1 d parent_on) (apart c x n at_c.1 d on))

  -- the node's tree stays, where its record is kept
  pub node_tree : Kept ns ns' n → (t : Tree) → Represents ns n t → Represents ns' n t
  node_tree at_n t rep = framed ns ns' t n rep (λ x i. member x (member_under g ns sheet few x t n rep i))
    where
      not_q : (x : ℕ) → Under ns n x → x ≡ q → ⊥
      not_q x u e = none_both_ways ns few (depth_of on).1 (depth_of on).1 q parent (subst (λ (i : ℕ). Under ns n i) e u)

      member : (x : ℕ) → Under ns n x → Kept ns ns' x
      member x u = elim (equal_or_not x n) [
        | inl e ↦ subst (λ (i : ℕ). Kept ns ns' i) (sym e.1) at_n
        | inr e ↦ kept x (under_used u) (not_q x u) e.1
      ]

  -- the tree under node 0 has the root's tree in the node's place
  pub sheet_tree : LinkChanged ns ns' q k r → (u t : Tree) → Represents ns' r u → Represents ns 0 t → Represents ns' 0 (replace n u t)
  sheet_tree link u t new rep =
      link_replaced g ns sheet few ns' t 0 rep q k n r u in_t inside named (climb_used ns 0 n on) link new
      (λ x i out x-q. kept x (under_used (member_under g ns sheet few x t 0 rep i)) x-q (λ e. out (itself (under_used (member_under g ns sheet few x t 0 rep i)) e)))
    where
      in_t : In q (numbers t)
      in_t = under_member g ns sheet few three t 0 rep (climb_under parent_on)

-- what hanging leaves of the nodes, as the trees see it
module _ (r n q k : ℕ) (ns ns' : List Node) (swapped : Swapped r n q k ns ns') where
  used_after : (x : ℕ) → Used ns x → Used ns' x
  used_after x u = (omega (arith, u.0, swapped.many), swapped.used x ∙ u.1)

  pub swapped_kept : (x : ℕ) → Used ns x → (x ≡ q → ⊥) → Kept ns ns' x
  swapped_kept x u other = record { used = used_after x u; production = swapped.production x; literal = swapped.literal x; children = λ j h. swapped.child_other x j (λ e. other e.0) }

  pub swapped_link : Used ns q → LinkChanged ns ns' q k r
  swapped_link u = record { used = used_after q u; production = swapped.production q; literal = swapped.literal q; changed = swapped.child_k; others = λ j h other. swapped.child_other q j (λ e. other e.1) }
