-- The number, the layer and the name of each fault of the edit layer.
use Rattle.std.specs.Prelude.{ℕ, Option, Some, None}
use Rattle.circularity.specs.declared.fault.Layer.{Layer}
use Rattle.circularity.specs.declared.fault.Layer.TheVariants.{Edit}
use Rattle.circularity.specs.declared.fault.Named.{Named}
use Rattle.circularity.specs.declared.fault.Named.TheVariants.{Node}
use Rattle.table.specs.Faults as table
use Rattle.edit.specs.declared.fault.EditFault.{EditFault}
use Rattle.edit.specs.declared.fault.EditFault.TheVariants.{Table, NoClipping, WrongPlace, WrongSymbol, LiteralRefused, TooFewNodes}

abbrev pub number_of : EditFault → ℕ
number_of (Table e) = table.number_of e
number_of NoClipping = 5
number_of (WrongPlace n) = 7
number_of (WrongSymbol n) = 8
number_of (LiteralRefused n) = 9
number_of (TooFewNodes n) = 10

abbrev pub layer_of : EditFault → Layer
layer_of (Table e) = table.layer_of e
layer_of NoClipping = Edit
layer_of (WrongPlace n) = Edit
layer_of (WrongSymbol n) = Edit
layer_of (LiteralRefused n) = Edit
layer_of (TooFewNodes n) = Edit

abbrev pub named_by : EditFault → Option Named
named_by (Table e) = table.named_by e
named_by NoClipping = None
named_by (WrongPlace n) = Some (Node n)
named_by (WrongSymbol n) = Some (Node n)
named_by (LiteralRefused n) = Some (Node n)
named_by (TooFewNodes n) = Some (Node n)
