use Rattle.base.proofs.Prelude.{rules}
use Rattle.intertie_shares.proofs.LoopLaws.{scattered-none, scattered-next}
use Rattle.intertie_shares.proofs.scatter.Goals as goal

pub loop-h-init : goal.loop-h-init
loop-h-init c = search (rules, scattered-none)

pub loop-h-preserved : goal.loop-h-preserved
loop-h-preserved c = search (rules, scattered-next)
