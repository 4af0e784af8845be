use Rattle.base.proofs.Prelude.{refl, ◌∙◌}
use Rattle.sheet_records.proofs.ReadingLaws.{record-read, all-read, one-more}
use Rattle.sheet_table.proofs.RowLaws.{rows_none, rows-turn, rows_all}
use Rattle.sheet_table.proofs.rows.put_rows.Goals as goal

pub loop-record-init : goal.loop-record-init
loop-record-init c = rows_none _ _ _ refl

pub loop-record-preserved : goal.loop-record-preserved
loop-record-preserved c =
    let loop = c.loop-record in
    let read = record-read c.args.sheet.now c.requires.0 _ loop.yielded _ (c.into_iter-record-iterator.ensures.into_iter_gives ∙ c.records-record-items.ensures) loop.yielded_by _ _ c.in-Some.ensures.steps in
    rows-turn _ _ _ _ _ _ _ _ (λ i. (c.type_inv.sheet i).fits) c.requires.0 read.inside read.key-is read.kw-is (one-more _ _) c.requires.1 loop.invariant c.put_row.ensures

pub returns : goal.returns
returns c =
    let loop = c.loop-record in
    rows_all _ _ _ _
    (all-read c.args.sheet.now c.requires.0 _ loop.yielded _ (c.into_iter-record-iterator.ensures.into_iter_gives ∙ c.records-record-items.ensures) loop.yielded_by c.in-None.ensures.steps.0)
    loop.invariant
