-- The names of the calls that leave a sheet open.
use Rattle.std.specs.Prelude.{ℕ, List, codes}
use Rattle.edit.specs.declared.opened.OpenedBy.{OpenedBy}
use Rattle.edit.specs.declared.opened.OpenedBy.TheVariants.{Make, Insert, Cut, Paste, Exchange, Retype}

abbrev pub call_text : OpenedBy → List ℕ
call_text Make = codes "make"
call_text Insert = codes "insert"
call_text Cut = codes "cut"
call_text Paste = codes "paste"
call_text Exchange = codes "exchange"
call_text Retype = codes "retype"
