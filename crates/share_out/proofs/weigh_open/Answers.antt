use Rattle.base.proofs.Prelude.{arith}
use Rattle.share_out.specs.Workers.Fit.{none}
use Rattle.share_out.proofs.PassLaws.{open_weight-most}
use Rattle.share_out.proofs.LoopLaws.{noted-none, noted-next, noted-most, noted-weights, first-is}
use Rattle.share_out.proofs.weigh_open.Goals as goal

pub loop-i-init : goal.loop-i-init
loop-i-init c = noted-none _ _ _

pub overflow_add-all : goal.overflow_add-all
overflow_add-all c = let a = c.args in
    let p = c.requires in
    omega (
      arith,
      p.few,
      noted-most _ _ _ 100000000 _ _ c.loop-i.i _
          (λ j l. open_weight-most a.claims.now a.weights.now 100000000 (none a.claims.now) j (p.ranged j l)) c.loop-i.invariant c.loop-i-test.true
          (first-is a.claims.now a.weights.now c.loop-i.i _ c.loop-i-test.true c.weight_after-weight.ensures),
    )

pub loop-i-preserved : goal.loop-i-preserved
loop-i-preserved c =
    let a = c.args in
    noted-next _ _ _ _ _ c.loop-i.i _ c.loop-i.invariant c.loop-i-test.true
    (first-is a.claims.now a.weights.now c.loop-i.i _ c.loop-i-test.true c.weight_after-weight.ensures)

pub returns : goal.returns
returns c =
    noted-weights _ _ _ _ _ _ _ c.requires.few c.requires.room c.loop-i.invariant c.loop-i-test.false
