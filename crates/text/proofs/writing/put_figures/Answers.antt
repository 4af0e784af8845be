use Rattle.base.proofs.Prelude.{rules}
use Rattle.text.proofs.PutLaws.{figures-none, figures-next}
use Rattle.text.proofs.writing.put_figures.Goals as goal

pub loop-figure-init : goal.loop-figure-init
loop-figure-init c = figures-none _ _

pub loop-figure-preserved : goal.loop-figure-preserved
loop-figure-preserved c = search (rules, figures-next)
