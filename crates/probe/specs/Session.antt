-- Which languages the probe works in, and which it goes to.
use Rattle.std.specs.Prelude.{Option, None, Some, Result, Ok, Err}
use Rattle.grammar.specs.Grammar.{Grammar}
use Rattle.script.specs.declared.call.LanguageName.{LanguageName}
use Rattle.script.specs.declared.call.LanguageName.TheVariants.{Formula, Plan, Altered}
use Rattle.script.specs.declared.call.Reason.{Reason}
use Rattle.script.specs.declared.call.Reason.TheVariants.{LanguageChosen}
use Rattle.formula.specs.Table.{formula_grammar}
use Rattle.plan.specs.Table.{plan_grammar, altered_grammar}

-- A language is chosen once, but that a session goes from the plan to the altered plan and back.
abbrev pub choice : Option LanguageName → LanguageName → Result LanguageName Reason
choice None name = Ok name
choice (Some Formula) name = Err LanguageChosen
choice (Some Plan) Formula = Err LanguageChosen
choice (Some Plan) Plan = Err LanguageChosen
choice (Some Plan) Altered = Ok Altered
choice (Some Altered) Formula = Err LanguageChosen
choice (Some Altered) Plan = Ok Plan
choice (Some Altered) Altered = Err LanguageChosen

abbrev pub grammar_of : LanguageName → Grammar
grammar_of Formula = formula_grammar
grammar_of Plan = plan_grammar
grammar_of Altered = altered_grammar
