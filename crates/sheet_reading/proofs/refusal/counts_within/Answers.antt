use Rattle.base.proofs.Prelude.{sym, rules}
use Rattle.base.proofs.SumLaws.{all_to-zero, all_more}
use Rattle.sheet_reading.proofs.refusal.counts_within.Goals as goal

pub loop-count-init : goal.loop-count-init
loop-count-init g c = sym (all_to-zero _)

pub loop-count-preserved : goal.loop-count-preserved
loop-count-preserved g c = all_more _ _ _ _ c.loop-count.invariant (search rules)
