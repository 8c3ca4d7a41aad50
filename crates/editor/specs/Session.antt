-- Which languages the editor works in, and which it goes to.
use Rattle.std.specs.Prelude.{Option, None, Some, Result, Ok, Err}
use Rattle.grammar.specs.Grammar.{Grammar}
use Rattle.script.specs.declared.call.LanguageName.{LanguageName}
use Rattle.script.specs.declared.call.LanguageName.TheVariants.{Formula as formula, Plan as plan, Altered as altered}
use Rattle.script.specs.declared.call.Reason.{Reason}
use Rattle.script.specs.declared.call.Reason.TheVariants.{UnknownLanguage, LanguageChosen}
use Rattle.formula.specs.Table.{formula_grammar}
use Rattle.plan.specs.Table.{plan_grammar}
use Rattle.editor.specs.declared.session.Language.{Language}
use Rattle.editor.specs.declared.session.Language.TheVariants.{Formula, Plan}

-- A language is chosen once. The editor has no altered plan.
abbrev pub choice : Option Language → LanguageName → Result Language Reason
choice chosen altered = Err UnknownLanguage
choice None formula = Ok Formula
choice None plan = Ok Plan
choice (Some language) formula = Err LanguageChosen
choice (Some language) plan = Err LanguageChosen

abbrev pub grammar_of : Language → Grammar
grammar_of Formula = formula_grammar
grammar_of Plan = plan_grammar
