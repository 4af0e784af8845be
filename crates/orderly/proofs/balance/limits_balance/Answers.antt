-- `limits_balance` meets its contract.
use Rattle.base.proofs.Prelude.{ℕ, ◌∙◌, arith}
use lib.ListN.{get_or-replicate, length-replicate}
use Rattle.orderly.proofs.BalanceLaws.{limits-balance-is}
use Rattle.orderly.proofs.RowLaws.{row-within}
use Rattle.orderly.proofs.balance.limits_balance.Goals as goal

pub add_holders-bits-requires : goal.add_holders-bits-requires
add_holders-bits-requires c = record {
  few = omega arith;
  places = length-replicate {A = ℕ} 48 0;
  zeros = λ i l. get_or-replicate 48 i 0 0 (omega (arith, c.interties-interties.ensures));
}

pub returns : goal.returns
returns c =
    limits-balance-is _ _ _ _ c.interties-interties.ensures.0 (c.within.ensures ∙ row-within _ _ _ c.row.ensures _) c.add_holders-bits.ensures.summed c.limits_met.ensures
