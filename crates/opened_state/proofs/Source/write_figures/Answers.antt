-- `write_figures` meets its contract: each row is stored whole (`StoreLaws`).
use Rattle.base.proofs.Prelude.{◌≤◌, ◌≡◌, ap, ◌∙◌, arith, length, rules, at}
use Rattle.state_rows.specs.Rows.{fill_row}
use Rattle.sheet_reading.specs.Tables.{outside_slot, load_share_slot}
use Rattle.opened_state.specs.Write.{low, row_low}
use Rattle.opened_state.proofs.StoreLaws.{stored_row}
use Rattle.opened_state.proofs.Source.write_figures.Goals as goal

pub write_slots-requires : goal.write_slots-requires
write_slots-requires c = (omega arith, c.args.self.few, omega (arith, c.args.self.few))

pub write_slots-requires-2 : goal.write_slots-requires-2
write_slots-requires-2 c = (omega arith, omega (arith, c.args.self.small), omega (arith, c.args.self.small))

pub returns : goal.returns
returns c =
    let from = c.args.self in
    let figures = from.figures.now in
    let kw = from.read.tables.now.kw in
    let slots : length kw ≡ 12481 = search rules in
    let I = from.read.interties in
    let H = from.read.holders in
    let narrow : H ≤ 48 = omega (arith, from.small) in
    stored_row _ _ figures.held 6 H c.store_row-4.ensures (search rules) (omega arith) narrow (omega (arith, from.small))
    ∙ ap (fill_row 6 H (row_low figures.held))
    (stored_row _ _ figures.totals 5 H c.store_row-3.ensures (search rules) (omega arith) narrow (omega (arith, from.small))
    ∙ ap (fill_row 5 H (row_low figures.totals))
    (stored_row _ _ figures.shares 4 H c.store_row-2.ensures (search rules) (omega arith) narrow (omega (arith, from.small))
    ∙ ap (fill_row 4 H (row_low figures.shares))
    (c.write_slots-2.ensures
    ∙ ap (fill_row 3 H (λ h. low (at kw (load_share_slot h))))
    (c.write_slots.ensures
    ∙ ap (fill_row 2 I (λ i. low (at kw (outside_slot i))))
    (stored_row _ _ kw 1 I c.store_row.ensures (search rules) (omega arith) from.few (omega (arith, from.few)))))))
