use Rattle.base.proofs.Prelude.{◌≡◌, arith, rules}
use Rattle.state.specs.Layout.{holders}
use Rattle.carrying.specs.NextRecords.{with_locks}
use Rattle.std.proofs.Common.{add-one}
use Rattle.carrying.proofs.draft.Draft.add_locks.Goals as goal

pub loop-holder-init : goal.loop-holder-init
unfolding with_locks
loop-holder-init c = (omega arith, λ l of. of)

pub loop-holder-preserved : goal.loop-holder-preserved
unfolding with_locks
loop-holder-preserved c =
    (c.add_holder_locks.ensures.0, λ l of. rw (add-one c.loop-holder.holder) (c.add_holder_locks.ensures.1 _ (c.loop-holder.invariant.1 l of)))

pub returns : goal.returns
returns c =
    let t = c.loop-holder in
    let end : t.holder ≡ holders c.args.state.now = search rules in
    rw (← end) t.invariant.1
