use Rattle.base.proofs.Prelude.{◌≡◌, arith, rules}
use Rattle.state.specs.Layout.{interties}
use Rattle.carrying.specs.NextRecords.{with_locks_of}
use Rattle.std.proofs.Common.{add-one}
use Rattle.carrying.proofs.draft.Draft.add_holder_locks.Goals as goal

pub loop-intertie-init : goal.loop-intertie-init
unfolding with_locks_of
loop-intertie-init c = (omega arith, λ l of. of)

pub loop-intertie-preserved : goal.loop-intertie-preserved
unfolding with_locks_of
loop-intertie-preserved c =
    (omega arith, λ l of. rw (add-one c.loop-intertie.intertie) (c.add_lock.ensures.1 _ (c.loop-intertie.invariant.1 l of)))

pub returns : goal.returns
returns c =
    let t = c.loop-intertie in
    let end : t.intertie ≡ interties c.args.state.now = search rules in
    (omega (arith, end), rw (← end) t.invariant.1)
