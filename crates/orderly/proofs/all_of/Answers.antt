use Rattle.base.proofs.Prelude.{refl, arith, all_to}
use Rattle.base.proofs.SumLaws.{all_more, all_done}
use Rattle.orderly.proofs.all_of.Goals as goal

pub loop-n-init : goal.loop-n-init
unfolding all_to
loop-n-init g c = λ p is. refl

pub loop-n-preserved : goal.loop-n-preserved
loop-n-preserved g c = λ p is. all_more _ p _ _ (c.loop-n.invariant p is) (is _ _ c.loop-n-test.true c.test-all.ensures)

pub returns : goal.returns
returns g c = λ p is. all_done _ _ p _ (c.loop-n.invariant p is) (omega arith) (omega arith)
