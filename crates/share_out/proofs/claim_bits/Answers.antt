use Rattle.base.proofs.Prelude.{rules}
use Rattle.share_out.proofs.NumberLaws.{covers}
use Rattle.share_out.proofs.claim_bits.Goals as goal

pub returns : goal.returns
returns c = covers (λ claim. claim) _ _ (search rules)
