use Rattle.table.proofs.Beginning.{failed_test}
use Rattle.table.proofs.checks.check_memory.Goals as goal

pub returns-in_err-test : goal.returns-in_err-test
returns-in_err-test g c =
    failed_test (g.L.Language.grammar c.args.language.now) c.args.nodes c.args.values _ c.from_residual.result c.in_err-test.ensures c.from_residual.ensures.1
