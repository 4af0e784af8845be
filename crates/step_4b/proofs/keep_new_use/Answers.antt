use Rattle.base.proofs.Prelude.{length}
use Rattle.step_4b.proofs.LoopLaws.{ranked-none, ranked-next, ranked-all, cleared-size, cleared-whole}
use Rattle.step_4b.proofs.keep_new_use.Goals as goal

pub loop-r-init : goal.loop-r-init
loop-r-init c =
    ranked-none _ _ _ _ _ _ _ (cleared-whole (length c.args.kept.now) _ c.clear.ensures)

pub loop-r-preserved : goal.loop-r-preserved
loop-r-preserved c =
    ranked-next _ _ _ _ _ _ _ _ _ _ c.loop-r.invariant
    c.loop-r-test.true
    c.from.ensures
    c.keep_rank-left.ensures

pub returns : goal.returns
returns c =
    rw (← cleared-size (length c.args.kept.now) _ c.clear.ensures)
    (ranked-all _ _ _ _ _ _ _ _ c.loop-r.invariant c.loop-r-test.false (rw c.min-ranks.ensures at c.used_ranks-used.ensures))
