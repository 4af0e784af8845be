use Rattle.base.proofs.Prelude.{sym, arith, rules}
use Rattle.base.proofs.SumLaws.{sum_to-zero, sum_more, sum_done}
use Rattle.weights.proofs.Holders.sellers_load.Invariants.{counted}
use Rattle.weights.proofs.Holders.sellers_load.Goals as goal

pub loop-holder-preserved : goal.loop-holder-preserved
loop-holder-preserved c =
    (search rules, sum_more _ (counted c.args.self.now c.args.sellers) _ _ c.loop-holder.invariant.1 (cc (c.load_if_seller-load.ensures.0)))

pub returns : goal.returns
returns c =
    sum_done _ _ (counted c.args.self.now c.args.sellers) _ c.loop-holder.invariant.1 (omega arith) (omega arith)

pub loop-holder-init : goal.loop-holder-init
loop-holder-init c = (search rules, sym (sum_to-zero _))
