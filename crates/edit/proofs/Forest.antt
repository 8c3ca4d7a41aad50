-- A forest: the nodes of a table as in a sheet, but a root may be a hole. Edits go through forests.
use Rattle.std.proofs.Common.{◌≡◌, ℕ, zero, suc, ◌<◌, ◌≤◌, Bool, true, false, T, List, length, refl, arith}
use Rattle.grammar.specs.Grammar.{Grammar}
use Rattle.table.specs.declared.node.Node.{Node}
use Rattle.table.specs.Nodes.{none, at, child_field, Used, Blank}
use Rattle.table.specs.Climbing.{Climb}
use Rattle.table.specs.Sheets.{Sheet, Good, InOrder, ChildAt, OneChildOf, Hangs, root, clipping, below as is_child, Hole}

-- How a used node stands: it has no parent, or is exactly one child of its parent, which is not so of node 0.
pub data Stands (g : Grammar) (ns : List Node) (n : ℕ) : Type 0 where
  alone : (at ns n).parent ≡ none → Stands g ns n
  hanging : (n ≡ 0 → ⊥) → Used ns (at ns n).parent → OneChildOf g ns (at ns n).parent n → Stands g ns n

-- what a used node's record keeps in a forest
pub record Tended (g : Grammar) (ns : List Node) (n : ℕ) : Type 0 where
  pub production_exists : (at ns n).production < g.productions
  pub start : (n ≡ 0 → (at ns n).production ≡ 0) × ((at ns n).production ≡ 0 → n ≡ 0)
  pub literal_accepted : T (g.accepts (at ns n).production (at ns n).literal)
  pub children : (k : ℕ) → k < length (g.children (at ns n).production) → ChildAt g ns n k
  pub no_further : (k : ℕ) → length (g.children (at ns n).production) ≤ k → k < 3 → child_field (at ns n) k ≡ none
  pub stands : Stands g ns n
  pub climbs : (r : ℕ) × Climb ns r n

pub record Forest (g : Grammar) (ns : List Node) : Type 0 where
  pub root_used : Used ns 0
  pub tended : (n : ℕ) → Used ns n → Tended g ns n
  pub blank : (n : ℕ) → n < length ns → (at ns n).used ≡ false → Blank (at ns n)

-- no root but node 0 is a hole
abbrev pub NoHoleRoots : Grammar → List Node → Type 0
NoHoleRoots g ns = (n : ℕ) → Used ns n → (n ≡ 0 → ⊥) → (at ns n).parent ≡ none → Hole g (at ns n).production → ⊥

module _ (g : Grammar) (ns : List Node) where
  pub sheet_is_forest : Sheet g ns → Forest g ns
  sheet_is_forest sheet = record {
    root_used = sheet.root_used;
    tended = λ n u. tend n (rw (u.1, Good) at (sheet.each n u.0));
    blank = λ n h e. rw (e, Good) at (sheet.each n h);
  }
    where
      stand : (n : ℕ) → Hangs g ns n → Stands g ns n
      stand n (root z p) = alone p
      stand n (clipping z p h) = alone p
      stand n (is_child z u o) = hanging z u o

      tend : (n : ℕ) → InOrder g ns n → Tended g ns n
      tend n o = record {
        production_exists = o.production_exists;
        start = o.start;
        literal_accepted = o.literal_accepted;
        children = o.children;
        no_further = o.no_further;
        stands = stand n o.hangs;
        climbs = o.climbs;
      }

  pub roots_of_sheet : Sheet g ns → length ns ≤ 1000 → NoHoleRoots g ns
  roots_of_sheet sheet few n u other p hole = go (rw (u.1, Good) at (sheet.each n u.0)).hangs
    where
      go : Hangs g ns n → ⊥
      go (root z q) = other z
      go (clipping z q h) = h hole
      go (is_child z v o) = omega (arith, v.0, p, few)

  pub forest_is_sheet : Forest g ns → NoHoleRoots g ns → Sheet g ns
  forest_is_sheet forest no_holes = record { root_used = forest.root_used; each = λ n h. good n h (at ns n).used refl }
    where
      by_number : (n : ℕ) → Used ns n → (at ns n).parent ≡ none → Hangs g ns n
      by_number zero u p = root refl p
      by_number (suc n) u p = clipping (λ e. omega arith) p (no_holes (suc n) u (λ e. omega arith) p)

      hangs : (n : ℕ) → Used ns n → Stands g ns n → Hangs g ns n
      hangs n u (alone p) = by_number n u p
      hangs n u (hanging z v o) = is_child z v o

      order : (n : ℕ) → Used ns n → Tended g ns n → InOrder g ns n
      order n u o = record {
        production_exists = o.production_exists;
        start = o.start;
        literal_accepted = o.literal_accepted;
        children = o.children;
        no_further = o.no_further;
        hangs = hangs n u o.stands;
        climbs = o.climbs;
      }

      good : (n : ℕ) → n < length ns → (b : Bool) → (at ns n).used ≡ b → Good g ns n
      good n h true e = rw (e, Good) (order n (h, e) (forest.tended n (h, e)))
      good n h false e = rw (e, Good) (forest.blank n h e)
