-- `rows::put_rows` meets its contract: the lines of the records read so far stand after the first (`RowLaws`).
use Rattle.base.proofs.Prelude.{◌≡◌, ◌++◌, length}
use Rattle.sheet_table.specs.Table.{rows_of}
use Rattle.sheet_table.proofs.rows.put_rows.Given as goal

abbrev pub invariant-loop-record : goal.invariant-loop-record
invariant-loop-record l = l.table.items ≡ l.initial.table.items ++ rows_of l.sheet (length l.yielded)
