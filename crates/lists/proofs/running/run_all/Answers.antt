use Rattle.base.proofs.Prelude.{arith, rules}
use Rattle.lists.proofs.EncodedLaws.{words-at}
use Rattle.lists.proofs.RunLaws.{running_none, running-next, running-asks}
use Rattle.lists.proofs.running.run_all.Goals as goal

pub loop-n-init : goal.loop-n-init
loop-n-init c =
    running_none c.args.calls.now c.args.state.now c.args.grants.now c.args.answers.now

pub run_call-start-requires : goal.run_call-start-requires
run_call-start-requires c =
    let e = c.as_chunks.ensures in
    running-asks c.args.calls.now c.args.state.now c.args.grants.now c.args.answers.now
    c.loop-n.invariant (omega (arith, c.loop-n-test.true, e.front_len)) c.requires (words-at c.args.calls.now _ e.front e.front_len c.loop-n.n c.loop-n-test.true)

pub loop-n-preserved : goal.loop-n-preserved
loop-n-preserved c =
    let e = c.as_chunks.ensures in
    running-next c.args.calls.now c.args.state.now c.args.grants.now c.args.answers.now
    c.loop-n.invariant _ (words-at c.args.calls.now _ e.front e.front_len c.loop-n.n c.loop-n-test.true) c.run_call-start.result _ _ _
    (omega (arith, c.loop-n-test.true, e.front_len)) c.run_call-start.ensures
    (search rules) (search rules) (search rules)
