-- `run_calls` meets its contract: the words are tested, and all calls are run.
use Rattle.std.proofs.Common.{ap, not}
use Rattle.base.proofs.Prelude.{sym, ◌∙◌}
use borrow.Author.Tests.{not-false}
use Rattle.lists.proofs.RunLaws.{run-whole}
use Rattle.lists.proofs.run_calls.Goals as goal

pub returns : goal.returns
returns c =
    run-whole c.args.calls.now c.args.state.now c.args.grants.now c.args.answers.now
    (sym c.accepted.ensures ∙ not-false _ (ap not c.if-not-accepted.false)) c.run_all.ensures
