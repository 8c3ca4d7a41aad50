-- What each edit answers, and what it leaves: refused, all memory as it was; accepted, its work on records, values and trees.
use Rattle.std.specs.Prelude.{◌≡◌, ℕ, ◌*◌, List, [], ◌∷◌, length, ℤ, pos, Ok, Err, Result, ◌≢◌, slice_index_or}
use Rattle.grammar.specs.Grammar.{Grammar}
use Rattle.grammar.specs.Tree.{Tree, node}
use Rattle.table.specs.declared.node.Node.{Node}
use Rattle.table.specs.Nodes.{at}
use Rattle.table.specs.Sheets.{Sheet, ClippingRoot}
use Rattle.table.specs.Represents.{Represents, replace}
use Rattle.table.specs.Refusals.{Check, Met, First}
use Rattle.edit.specs.declared.fault.EditFault.{EditFault}
use Rattle.edit.specs.Memory.{Blanked, BlankedFirst, SameFrom}
use Rattle.edit.specs.Edits.{Inserted, Retyped, CutOut, Pasted, Exchanged, Discarded, highest, Made}
use Rattle.edit.specs.Checks.{insert_checks, cut_checks, paste_checks, exchange_checks, retype_checks, discard_checks, make_checks}

-- the tree of a hole: node n with the hole of symbol s
abbrev pub hole_tree : ℕ → ℕ → Tree
hole_tree n s = node n s (pos 0) Tree.none Tree.none Tree.none

-- the trees of holes at some nodes, one for each symbol
abbrev pub hole_trees : List ℕ → List ℕ → List Tree
hole_trees [] symbols = []
hole_trees (n ∷ ns) [] = []
hole_trees (n ∷ ns) (s ∷ symbols) = hole_tree n s ∷ hole_trees ns symbols

-- the hole for child k of a production, at one of some new nodes, and nothing where there is no such child
abbrev pub hole_at_place : Grammar → ℕ → List ℕ → ℕ → Tree
hole_at_place g p new k = slice_index_or (hole_trees new (g.children p)) k Tree.none

-- The tree under node 0 has another subtree in a node's place, and the trees of the clippings that are kept are as they were.
pub record Regrown (n : ℕ) (new : Tree) (kept : ℕ → Type 0) (before after : List Node) : Type 0 where
  pub sheet_tree : (t : Tree) → Represents before 0 t → Represents after 0 (replace n new t)
  pub clippings : (r : ℕ) (t : Tree) → ClippingRoot before r → kept r → Represents before r t → Represents after r t

module _ {R M : Type 0} (g : Grammar) (meaning : R → M) (nothing : M) (before : List Node) (values : List R) (after : List Node) (values' : List R) where
  -- A refused edit leaves everything as it was; an accepted one met its checks and did its work.
  abbrev pub Edited : {A : Type 0} → List (Check EditFault) → (A → Type 0) → Result A EditFault → Type 0
  Edited checks Work (Err f) = First checks f × (after ≡ before) × (values' ≡ values)
  Edited checks Work (Ok a) = Met checks × Work a

  -- Insert: the hole becomes the production with its literal, over new holes, whose values are blank.
  pub record InsertWork (n p : ℕ) (l : ℤ) : Type 0 where
    pub records : Inserted g n p l before after
    pub blanked : Blanked meaning nothing records.new values values'
    pub sheet : Sheet g after
    pub trees : Regrown n (node n p l (hole_at_place g p records.new 0) (hole_at_place g p records.new 1) (hole_at_place g p records.new 2)) (λ r. Unit {0}) before after

  -- Retype: the literal changes, and nothing else.
  pub record RetypeWork (n : ℕ) (l : ℤ) : Type 0 where
    pub records : Retyped n l before after
    pub same_values : values' ≡ values
    pub sheet : Sheet g after
    pub trees : (p : ℕ) (l' : ℤ) (a b c : Tree) → Represents before n (node n p l' a b c) → Regrown n (node n p l a b c) (λ r. Unit {0}) before after

  -- Cut: a new hole in the node's place; the node is the root of a clipping with the subtree that was there.
  pub record CutWork (n hole : ℕ) : Type 0 where
    pub records : CutOut g n before after hole
    pub blanked : Blanked meaning nothing (hole ∷ []) values values'
    pub sheet : Sheet g after
    pub clipping : ClippingRoot after n
    pub trees : Regrown n (hole_tree hole (g.symbol (at before n).production)) (λ r. Unit {0}) before after
    pub handed_out : (t : Tree) → Represents before n t → Represents after n t

  -- Paste: the clipping's tree in the hole's place; the hole's node is free.
  pub record PasteWork (root n : ℕ) : Type 0 where
    pub records : Pasted root n before after
    pub same_values : values' ≡ values
    pub sheet : Sheet g after
    pub trees : (u : Tree) → Represents before root u → Regrown n u (λ r. r ≢ root) before after

  -- Exchange: the clipping's tree in the subtree's place; the node is the root of a clipping with the subtree that was there.
  pub record ExchangeWork (root n : ℕ) : Type 0 where
    pub records : Exchanged root n before after
    pub same_values : values' ≡ values
    pub sheet : Sheet g after
    pub clipping : ClippingRoot after n
    pub trees : (u : Tree) → Represents before root u → Regrown n u (λ r. r ≢ root) before after
    pub handed_out : (t : Tree) → Represents before n t → Represents after n t

  -- Discard: the clipping's nodes are free. The sheet's tree and every other clipping's are as they were, and so is the waiting list past as many entries as there are nodes.
  pub record DiscardWork (root : ℕ) (waiting waiting' : List ℕ) : Type 0 where
    pub records : Discarded root before after
    pub same_values : values' ≡ values
    pub same_waiting : SameFrom (length before) waiting waiting'
    pub sheet : Sheet g after
    pub sheet_tree : (t : Tree) → Represents before 0 t → Represents after 0 t
    pub clippings : (r : ℕ) (t : Tree) → ClippingRoot before r → (r ≢ root) → Represents before r t → Represents after r t

  -- a refused edit leaves the waiting list as it was, too
  abbrev pub WaitingKept : {A : Type 0} → List ℕ → List ℕ → Result A EditFault → Type 0
  WaitingKept waiting waiting' (Err f) = waiting' ≡ waiting
  WaitingKept waiting waiting' (Ok a) = Unit {0}

  abbrev pub DiscardCall : {A : Type 0} → ℕ → List ℕ → List ℕ → Result A EditFault → Type 0
  DiscardCall root waiting waiting' r =
      Edited (discard_checks g before (length values) root (length waiting)) (λ a. DiscardWork root waiting waiting') r × WaitingKept waiting waiting' r

  -- Make: a sheet with production 0 over holes and nothing else, all of its values blank; what was lent beyond them stays.
  pub record MakeWork : Type 0 where
    pub records : Made g (length before) after
    pub blanked : BlankedFirst meaning nothing (4 * length before) values values'
    pub sheet : Sheet g after
    pub tree : let new = highest (length before) (length (g.children 0)) in Represents after 0 (node 0 0 (pos 0) (hole_at_place g 0 new 0) (hole_at_place g 0 new 1) (hole_at_place g 0 new 2))

  abbrev pub MakeCall : {A : Type 0} → Result A EditFault → Type 0
  MakeCall r = Edited (make_checks g before (length values)) (λ a. MakeWork) r

  -- What cut, paste and exchange answer and leave; cut answers the new hole's number.
  abbrev pub CutCall : ℕ → Result ℕ EditFault → Type 0
  CutCall n = Edited (cut_checks g before (length values) n) (λ hole. CutWork n hole)

  abbrev pub PasteCall : {A : Type 0} → ℕ → ℕ → Result A EditFault → Type 0
  PasteCall root n = Edited (paste_checks g before (length values) root n) (λ a. PasteWork root n)

  abbrev pub ExchangeCall : {A : Type 0} → ℕ → ℕ → Result A EditFault → Type 0
  ExchangeCall root n = Edited (exchange_checks g before (length values) root n) (λ a. ExchangeWork root n)

  -- What insert and retype answer and leave.
  abbrev pub InsertCall : {A : Type 0} → ℕ → ℕ → ℤ → Result A EditFault → Type 0
  InsertCall n p l = Edited (insert_checks g before (length values) n p l) (λ a. InsertWork n p l)

  abbrev pub RetypeCall : {A : Type 0} → ℕ → ℤ → Result A EditFault → Type 0
  RetypeCall n l = Edited (retype_checks g before (length values) n l) (λ a. RetypeWork n l)
