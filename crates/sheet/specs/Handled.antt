-- What each call does to records, values and handles. What it does to records and values is said in the crate `edit`, refusals included;
-- here it is said which handle and which clipping come back.
use Rattle.std.specs.Prelude.{◌≡◌, ℕ, List, ℤ, Ok, Err, Result}
use Rattle.grammar.specs.Grammar.{Grammar}
use Rattle.table.specs.declared.node.Node.{Node}
use Rattle.table.specs.Nodes.{at}
use Rattle.edit.specs.declared.fault.EditFault.{EditFault}
use Rattle.edit.specs.declared.opened.OpenedBy.{OpenedBy}
use Rattle.edit.specs.declared.opened.OpenedBy.TheVariants.{Make, Insert, Cut, Paste, Exchange, Retype}
use Rattle.edit.specs.Calls.{MakeCall, InsertCall, RetypeCall, CutCall, PasteCall, ExchangeCall, DiscardCall}
use Rattle.sheet.specs.declared.handle.Open.{Open}
use Rattle.sheet.specs.declared.handle.Clipping.{Clipping}
use Rattle.sheet.specs.declared.answer.Made.{Made}
use Rattle.sheet.specs.declared.answer.Inserted.{Inserted}
use Rattle.sheet.specs.declared.answer.Retyped.{Retyped}
use Rattle.sheet.specs.declared.answer.CutOut.{CutOut}
use Rattle.sheet.specs.declared.answer.Pasted.{Pasted}
use Rattle.sheet.specs.declared.answer.Exchanged.{Exchanged}
use Rattle.sheet.specs.declared.answer.Discarded.{Discarded}
use Rattle.sheet.specs.declared.answer.Refused.{Refused}
use Rattle.sheet.specs.declared.answer.RefusedWithClipping.{RefusedWithClipping}

-- The handle of a sheet that a call left open: it keeps the call and the first node that the call touched.
pub record Keeps (handle : Open) (opened : OpenedBy) (n : ℕ) : Type 0 where
  pub call : handle.call ≡ opened
  pub node : handle.node ≡ n

-- an answer that is nothing but its acceptance
abbrev pub done : Result (Unit {0}) EditFault
done = Ok tt

-- a refusal as the records and values know it
abbrev pub refusal : EditFault → Result (Unit {0}) EditFault
refusal f = Err f

-- `before` and `values` are records and rows before the call, `after` and `values'` those after it.
-- `meaning` is what a row's value means, and `nothing` is the blank's meaning.
module _ {R M : Type 0} (g : Grammar) (meaning : R → M) (nothing : M) (before : List Node) (values : List R) (after : List Node) (values' : List R) where
  -- Make leaves the sheet open, node 0 touched first.
  abbrev pub MakeHandled : Result Made EditFault → Type 0
  MakeHandled (Ok a) = MakeCall g meaning nothing before values after values' done × Keeps a.sheet Make 0
  MakeHandled (Err f) = MakeCall g meaning nothing before values after values' (refusal f)

  -- Insert and retype leave it open at their node.
  abbrev pub InsertHandled : ℕ → ℕ → ℤ → Result Inserted Refused → Type 0
  InsertHandled n p l (Ok a) = InsertCall g meaning nothing before values after values' n p l done × Keeps a.sheet Insert n
  InsertHandled n p l (Err e) = InsertCall g meaning nothing before values after values' n p l (refusal e.fault)

  abbrev pub RetypeHandled : ℕ → ℤ → Result Retyped Refused → Type 0
  RetypeHandled n l (Ok a) = RetypeCall g meaning nothing before values after values' n l done × Keeps a.sheet Retype n
  RetypeHandled n l (Err e) = RetypeCall g meaning nothing before values after values' n l (refusal e.fault)

  -- Cut leaves it open at the new hole, and hands out the clipping whose root is its node.
  abbrev pub CutHandled : ℕ → Result CutOut Refused → Type 0
  CutHandled n (Ok a) = (hole : ℕ) × CutCall g meaning nothing before values after values' n (Ok hole) × Keeps a.sheet Cut hole × (a.clipping.root ≡ n)
  CutHandled n (Err e) = CutCall g meaning nothing before values after values' n (Err e.fault)

  -- Paste leaves it open at the parent of the place; refused, it hands the clipping back.
  abbrev pub PasteHandled : Clipping → ℕ → Result Pasted RefusedWithClipping → Type 0
  PasteHandled c n (Ok a) = PasteCall g meaning nothing before values after values' c.root n done × Keeps a.sheet Paste (at before n).parent
  PasteHandled c n (Err e) = PasteCall g meaning nothing before values after values' c.root n (refusal e.fault) × (e.clipping ≡ c)

  -- Exchange does so too, and hands out the clipping whose root is its node.
  abbrev pub ExchangeHandled : Clipping → ℕ → Result Exchanged RefusedWithClipping → Type 0
  ExchangeHandled c n (Ok a) =
      ExchangeCall g meaning nothing before values after values' c.root n done × Keeps a.sheet Exchange (at before n).parent × (a.clipping.root ≡ n)
  ExchangeHandled c n (Err e) = ExchangeCall g meaning nothing before values after values' c.root n (refusal e.fault) × (e.clipping ≡ c)

  -- Discard spends its clipping either way.
  abbrev pub DiscardHandled : Clipping → List ℕ → List ℕ → Result Discarded EditFault → Type 0
  DiscardHandled c waiting waiting' r = DiscardCall g meaning nothing before values after values' c.root waiting waiting' r
