use Rattle.weights.proofs.FillLaws.{filled_none, filled_next}
use Rattle.weights.proofs.Holders.write_weights.Goals as goal

pub loop-holder-init : goal.loop-holder-init
loop-holder-init c = search filled_none

pub loop-holder-preserved : goal.loop-holder-preserved
loop-holder-preserved c = search filled_next
