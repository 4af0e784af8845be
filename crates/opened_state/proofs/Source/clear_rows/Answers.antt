-- `clear_rows` meets its contract: each row is stored from zeros (`StoreLaws`).
use Rattle.base.proofs.Prelude.{◌≤◌, ap, ◌∙◌, arith, rules}
use Rattle.state_rows.specs.Rows.{fill_row}
use Rattle.opened_state.proofs.StoreLaws.{cleared-row}
use Rattle.opened_state.proofs.Source.clear_rows.Goals as goal

pub returns : goal.returns
returns c =
    let H = c.args.self.read.holders in
    let narrow : H ≤ 48 = omega (arith, c.args.self.small) in
    cleared-row _ _ 108 H c.store_row-3.ensures (search rules) (omega arith) narrow
    ∙ ap (fill_row 108 H (λ h. 0))
    (cleared-row _ _ 107 H c.store_row-2.ensures (search rules) (omega arith) narrow
    ∙ ap (fill_row 107 H (λ h. 0)) (cleared-row _ _ 106 H c.store_row.ensures (search rules) (omega arith) narrow))
