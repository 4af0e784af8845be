use Rattle.base.proofs.Prelude.{sym}
use Rattle.base.proofs.SumLaws.{all_to-zero, all_more}
use Rattle.sheet_reading.proofs.refusal.Filled.limits_hold.Goals as goal

pub loop-i-init : goal.loop-i-init
loop-i-init c = sym (all_to-zero _)

pub loop-i-preserved : goal.loop-i-preserved
loop-i-preserved c = all_more _ _ _ _ c.loop-i.invariant c.limit_holds-hold.ensures
