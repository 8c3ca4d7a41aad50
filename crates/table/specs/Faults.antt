-- The number, the layer and the name of each fault of the table layer.
use Rattle.std.specs.Prelude.{ℕ, Option, Some, None}
use Rattle.circularity.specs.declared.fault.Layer.{Layer}
use Rattle.circularity.specs.declared.fault.Layer.TheVariants.{Table}
use Rattle.circularity.specs.declared.fault.Named.{Named}
use Rattle.circularity.specs.declared.fault.Named.TheVariants.{Node}
use Rattle.circularity.specs.Faults as language
use Rattle.table.specs.declared.fault.TableFault.{TableFault}
use Rattle.table.specs.declared.fault.TableFault.TheVariants.{Language, Size, NoSheet, Buffer, NotOnSheet}

abbrev pub number_of : TableFault → ℕ
number_of (Language e) = language.number_of e
number_of Size = 2
number_of NoSheet = 3
number_of Buffer = 4
number_of (NotOnSheet n) = 6

abbrev pub layer_of : TableFault → Layer
layer_of (Language e) = language.layer_of e
layer_of Size = Table
layer_of NoSheet = Table
layer_of Buffer = Table
layer_of (NotOnSheet n) = Table

abbrev pub named_by : TableFault → Option Named
named_by (Language e) = language.named_by e
named_by Size = None
named_by NoSheet = None
named_by Buffer = None
named_by (NotOnSheet n) = Some (Node n)
