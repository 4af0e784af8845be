use Rattle.base.proofs.Prelude.{rules}
use Rattle.base.proofs.VectorLaws.{filling-none, filling-next, filling-all}
use Rattle.opening.proofs.figures.fill_by.Goals as goal

pub loop-c-init : goal.loop-c-init
loop-c-init g c = λ f is. filling-none f _

pub loop-c-preserved : goal.loop-c-preserved
loop-c-preserved g c = λ f is. filling-next f _ _ _ _ (c.loop-c.invariant f is) (search rules) (is _ _ (search rules) c.figure.ensures)

pub returns : goal.returns
returns g c = λ f is. filling-all f _ _ _ (c.loop-c.invariant f is) (search rules)
