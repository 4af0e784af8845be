use Rattle.base.proofs.Prelude.{arith}
use Rattle.intertie_shares.proofs.LoopLaws.{over_none, over-next, over-fits, over-all}
use Rattle.intertie_shares.proofs.Claims.on_each.Goals as goal

pub loop-i-init : goal.loop-i-init
loop-i-init c = over_none _ _ _ _ _ _

pub overflow_add-kw : goal.overflow_add-kw
overflow_add-kw c =
    omega (
      arith,
      over-fits _ _ _ _ _ _ _ _ _ _ _ _ _ _ c.loop-i.invariant c.args.self.few_interties c.share_out_on-granted.ensures,
    )

pub overflow_add-passes : goal.overflow_add-passes
overflow_add-passes c =
    omega (
      arith,
      over-fits _ _ _ _ _ _ _ _ _ _ _ _ _ _ c.loop-i.invariant c.args.self.few_interties c.share_out_on-granted.ensures,
    )

pub loop-i-preserved : goal.loop-i-preserved
loop-i-preserved c =
    over-next _ _ _ _ _ _ _ _ _ _ _ _ c.loop-i.invariant c.loop-i-test.true c.share_out_on-granted.ensures

pub returns : goal.returns
returns c = over-all _ _ _ _ _ _ _ _ _ _ c.loop-i.invariant c.loop-i-test.false
