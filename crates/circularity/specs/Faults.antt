-- The number, the layer and the name of each fault of the language layer, and how a fault of any layer is told.
use Rattle.std.specs.Prelude.{ℕ, List, ◌++◌, Option, Some, None, codes, decimal}
use Rattle.circularity.specs.declared.fault.LanguageFault.{LanguageFault}
use Rattle.circularity.specs.declared.fault.LanguageFault.TheVariants.{Circularity}
use Rattle.circularity.specs.declared.fault.Layer.{Layer}
use Rattle.circularity.specs.declared.fault.Layer.TheVariants.{Language, Table, Edit, Reading}
use Rattle.circularity.specs.declared.fault.Named.{Named}
use Rattle.circularity.specs.declared.fault.Named.TheVariants.{Production, Node}
use Rattle.circularity.specs.declared.fault.Refusal.{Refusal}

abbrev pub number_of : LanguageFault → ℕ
number_of (Circularity p) = 1

abbrev pub layer_of : LanguageFault → Layer
layer_of (Circularity p) = Language

abbrev pub named_by : LanguageFault → Option Named
named_by (Circularity p) = Some (Production p)

abbrev pub layer_text : Layer → List ℕ
layer_text Language = codes "language"
layer_text Table = codes "table"
layer_text Edit = codes "edit"
layer_text Reading = codes "reading"

abbrev pub named_text : Named → List ℕ
named_text (Production p) = codes "production " ++ decimal p
named_text (Node n) = codes "node " ++ decimal n

-- what a refusal names, with a blank in front; nothing where it names nothing
abbrev pub behind : Option Named → List ℕ
behind None = codes ""
behind (Some named) = codes " " ++ named_text named

-- a fault as it is told
abbrev pub refusal_text : Refusal → List ℕ
refusal_text refusal =
    codes "refused " ++ (decimal refusal.number ++ (codes " " ++ (layer_text refusal.layer ++ behind refusal.named)))
