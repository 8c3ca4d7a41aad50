use Rattle.consistency.proofs.Calls.{make_keeps, insert_keeps, cut_keeps, paste_keeps, exchange_keeps, retype_keeps, discard_keeps}
use Rattle.consistency.proofs.edits_keep_consistency.Goals as goal

pub returns : goal.returns
returns g c = record {
  make = make_keeps (g.L.Language.grammar c.args.language.now) (g.L.Language.text c.args.language.now) (g.L.Language.limits c.args.language.now) (g.L.Language.rule c.args.language.now) g.L.Value.Figure.means g.L.Value.Figure.reads g.L.Value.Figure.nothing;
  insert = insert_keeps (g.L.Language.grammar c.args.language.now) (g.L.Language.text c.args.language.now) (g.L.Language.limits c.args.language.now) (g.L.Language.rule c.args.language.now) g.L.Value.Figure.means g.L.Value.Figure.reads g.L.Value.Figure.nothing;
  cut = cut_keeps (g.L.Language.grammar c.args.language.now) (g.L.Language.text c.args.language.now) (g.L.Language.limits c.args.language.now) (g.L.Language.rule c.args.language.now) g.L.Value.Figure.means g.L.Value.Figure.reads g.L.Value.Figure.nothing;
  paste = paste_keeps (g.L.Language.grammar c.args.language.now) (g.L.Language.text c.args.language.now) (g.L.Language.limits c.args.language.now) (g.L.Language.rule c.args.language.now) g.L.Value.Figure.means g.L.Value.Figure.reads g.L.Value.Figure.nothing;
  exchange = exchange_keeps (g.L.Language.grammar c.args.language.now) (g.L.Language.text c.args.language.now) (g.L.Language.limits c.args.language.now) (g.L.Language.rule c.args.language.now) g.L.Value.Figure.means g.L.Value.Figure.reads g.L.Value.Figure.nothing;
  retype = retype_keeps (g.L.Language.grammar c.args.language.now) (g.L.Language.text c.args.language.now) (g.L.Language.limits c.args.language.now) (g.L.Language.rule c.args.language.now) g.L.Value.Figure.means g.L.Value.Figure.reads g.L.Value.Figure.nothing;
  discard = discard_keeps (g.L.Language.grammar c.args.language.now) (g.L.Language.text c.args.language.now) (g.L.Language.limits c.args.language.now) (g.L.Language.rule c.args.language.now) g.L.Value.Figure.means g.L.Value.Figure.reads g.L.Value.Figure.nothing;
}
