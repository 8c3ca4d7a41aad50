-- The checks of the table layer: those that every call begins with, and those that some calls add.
use Rattle.std.specs.Prelude.{ℕ, ◌*◌, ◌≤◌, List, [], ◌∷◌, ◌++◌, length}
use Rattle.grammar.specs.Grammar.{Grammar}
use Rattle.grammar.specs.Circularity.{Circular, Culprit}
use Rattle.circularity.specs.declared.fault.LanguageFault.{LanguageFault}
use Rattle.circularity.specs.declared.fault.LanguageFault.TheVariants.{Circularity}
use Rattle.table.specs.declared.fault.TableFault.{TableFault}
use Rattle.table.specs.declared.fault.TableFault.TheVariants.{Language, Size, NoSheet, Buffer, NotOnSheet}
use Rattle.table.specs.declared.node.Node.{Node}
use Rattle.table.specs.Climbing.{OnSheet}
use Rattle.table.specs.Sheets.{Sheet}
use Rattle.table.specs.Refusals.{Check, check, want, lifted}

-- the fault names a production that roots a tree with a cycle through one of the root's own rules
abbrev pub NamesCulprit : Grammar → LanguageFault → Type 0
NamesCulprit g (Circularity p) = Culprit g p

-- the language layer's one check: the language is not circular
abbrev pub language_checks : Grammar → List (Check LanguageFault)
language_checks g = check (Circular g → ⊥) (NamesCulprit g) ∷ []

-- There are 1 to 1000 nodes, and four values for each.
pub record Sized (nodes values : ℕ) : Type 0 where
  pub some : 1 ≤ nodes
  pub few : nodes ≤ 1000
  pub room : 4 * nodes ≤ values

-- what every call checks first: the language, and the sizes of the lent memory
abbrev pub memory : Grammar → ℕ → ℕ → List (Check TableFault)
memory g nodes values = lifted Language (language_checks g) ++ (want (Sized nodes values) Size ∷ [])

-- and then, where it works on a sheet, that the nodes form one
abbrev pub beginning : Grammar → List Node → ℕ → List (Check TableFault)
beginning g ns values = memory g (length ns) values ++ (want (Sheet g ns) NoSheet ∷ [])

-- node n is on the sheet
abbrev pub on_sheet : List Node → ℕ → Check TableFault
on_sheet ns n = want (OnSheet ns n) (NotOnSheet n)

-- the output buffer is long enough
abbrev pub long_enough : ℕ → ℕ → Check TableFault
long_enough size needed = want (needed ≤ size) Buffer
