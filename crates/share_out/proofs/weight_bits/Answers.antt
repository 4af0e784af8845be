use Rattle.base.proofs.Prelude.{rules}
use Rattle.share_out.specs.Workers.Fit.{raised}
use Rattle.share_out.proofs.NumberLaws.{covers}
use Rattle.share_out.proofs.weight_bits.Goals as goal

pub returns : goal.returns
returns c = covers raised _ _ (search rules)
