-- `add_holders` meets its contract: two after two, and the last of an odd number.
use Rattle.base.proofs.Prelude.{◌-◌, ◌+◌, arith}
use Rattle.orderly.proofs.BalanceLaws.{added-same, added_more}
use Rattle.orderly.proofs.balance.add_holders.Goals as goal

pub returns : goal.returns
returns c =
    let last = c.holders-holders.result - 1 in
    added-same _ _ (last + 1) _ _ (omega arith)
    (added_more _ _ _ last 1 _ _ (omega arith) (added-same _ _ _ last _ (omega arith) c.add_by_two-bits.ensures) c.add_kw.ensures.0 c.add_kw.ensures.1)
