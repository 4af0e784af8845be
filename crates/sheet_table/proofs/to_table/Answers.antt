-- `to_table` meets its contract: the sizes, then the records (`TableLaws`).
use Rattle.base.proofs.Prelude.{rules}
use Rattle.sheet_table.proofs.TableLaws.{none-tabled, passes, first-short, all-tabled}
use Rattle.sheet_table.proofs.to_table.Goals as goal

pub returns-then-bad_length : goal.returns-then-bad_length
returns-then-bad_length c = none-tabled _ _ c.bad_length.ensures c.if-bad_length.true

pub put_rows-requires : goal.put_rows-requires
put_rows-requires c = (
  passes _ _ c.bad_length.ensures c.if-bad_length.false,
  first-short _ _ (search rules) (search rules) _ _ c.new-table.ensures c.put_sizes.ensures,
)

pub returns : goal.returns
returns c =
    all-tabled _ _ c.bad_length.ensures c.if-bad_length.false _ _ c.intertie_count-interties.ensures c.holder_count-holders.ensures (search rules) (search rules) _ _ c.new-table.ensures c.put_sizes.ensures
    _ c.put_rows.ensures
