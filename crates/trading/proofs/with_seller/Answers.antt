-- `with_seller` meets its contract: the bit is set by a shift and `|`.
use Rattle.base.proofs.Prelude.{ap, ◌∙◌, arith}
use native.Mathlib.Nat.{one-mul}
use lib.Pow.{shl_exact}
use lib.Bits.{bit_or}
use Rattle.trading.proofs.MaskLaws.{or-seller}
use Rattle.trading.proofs.with_seller.Goals as goal

pub returns : goal.returns
returns c =
    ap (bit_or c.args.sellers) (shl_exact 1 c.args.seller 32 (omega arith) (omega arith) ∙ one-mul _) ∙ or-seller c.args.sellers c.args.seller
