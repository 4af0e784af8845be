-- `write_stage` meets its contract: the words and rows are stored (`StoreLaws`).
use Rattle.base.proofs.Prelude.{◌≤◌, ap, ◌∙◌, arith, rules, set}
use Rattle.state.specs.Layout.{stage_at, last_day_at}
use Rattle.state_rows.specs.Rows.{fill_row}
use Rattle.opened_state.specs.Write.{row_low}
use Rattle.opened_state.proofs.StoreLaws.{stored_row}
use Rattle.opened_state.proofs.Source.write_stage.Goals as goal

pub returns : goal.returns
returns c =
    let from = c.args.self in
    let left = from.figures.now.unassigned in
    let shares = from.figures.now.shares in
    let I = from.read.interties in
    let H = from.read.holders in
    let narrow : H ≤ 48 = omega (arith, from.small) in
    stored_row _ _ shares 105 H c.store_row-2.ensures (search rules) (omega arith) narrow (omega (arith, from.small))
    ∙ ap (fill_row 105 H (row_low shares))
    (stored_row _ _ left 104 I c.store_row.ensures (search rules) (omega arith) from.few (omega (arith, from.few))
    ∙ ap (fill_row 104 I (row_low left)) (c.store-2.ensures ∙ ap (λ s. set s last_day_at 0) (c.store.ensures ∙ ap (set c.args.state.now stage_at) c.number.ensures)))
