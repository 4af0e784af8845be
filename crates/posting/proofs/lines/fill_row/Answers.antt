use Rattle.base.proofs.Prelude.{rules}
use Rattle.base.proofs.VectorLaws.{filling-none, filling-next}
use Rattle.state_rows.proofs.RowParts.{row_filled}
use Rattle.posting.proofs.lines.fill_row.Goals as goal

pub loop-column-init : goal.loop-column-init
loop-column-init g c = λ f is. filling-none f _

pub loop-column-preserved : goal.loop-column-preserved
loop-column-preserved g c = λ f is. filling-next f _ _ _ _ (c.loop-column.invariant f is) (search rules) (is _ _ (search rules) c.figure.ensures)

pub returns : goal.returns
returns g c = λ f is. row_filled c.args.row _ _ _ f _ _ (search rules) (search rules) (search rules) (c.loop-column.invariant f is)
