use Rattle.base.proofs.Prelude.{◌+◌, ◌*◌, ap, ◌∙◌, arith}
use Rattle.std.proofs.Common.{rules}
use Rattle.base.proofs.VectorLaws.{filling-none, filling-later, filling-next, at_mid}
use Rattle.state_rows.proofs.RowLaws.{fill_row-same}
use Rattle.state_rows.proofs.RowParts.{row_filled}
use Rattle.state_rows.proofs.change_row.Goals as goal

pub loop-column-init : goal.loop-column-init
loop-column-init g c = filling-none _ _

pub loop-column-preserved : goal.loop-column-preserved
loop-column-preserved g c =
    let l = c.loop-column in
    filling-next _ _ _ _ _ l.invariant (search rules)
    (c.change.ensures ∙ ap (λ w. g.C.Change.gives c.args.table.now w (c.args.from + l.column)) (filling-later _ _ _ _ l.invariant))

pub returns : goal.returns
returns g c =
    let a = c.args in
    row_filled a.row _ _ _ _ _ _ (search rules) (search rules) (search rules) c.loop-column.invariant
    ∙ fill_row-same a.row a.count _ _ _
    (λ i b. ap (λ w. g.C.Change.gives a.table.now w (a.from + i)) (at_mid (48 * a.row) _ _ i (omega (arith, b))))
