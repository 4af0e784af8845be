use Rattle.base.proofs.Prelude.{◌*◌, ◌+◌, arith}
use Rattle.orderly.proofs.BalanceLaws.{added_more, added-same}
use Rattle.orderly.proofs.balance.add_by_two.Goals as goal

pub loop-two-preserved : goal.loop-two-preserved
loop-two-preserved c =
    let l = c.loop-two in
    added-same _ _ (2 * l.two + 2) _ _ (omega arith)
    (added_more _ _ _ (2 * l.two) 2 _ _ (omega arith) l.invariant c.add_kw-bits.ensures.0 c.add_kw-bits.ensures.1)
