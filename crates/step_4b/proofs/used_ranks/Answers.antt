use Rattle.step_4b.proofs.UsedLaws.{used-less}
use Rattle.step_4b.proofs.used_ranks.Goals as goal

pub loop-used-preserved : goal.loop-used-preserved
loop-used-preserved c =
    used-less _ _ _ c.loop-used.invariant c.requires c.loop-used-test.true (c.all_zeros.ensures c.if-all_zeros.true)
