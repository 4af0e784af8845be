-- `rows::put_sizes` meets its contract: the digits of I, then H.
use Rattle.base.proofs.Prelude.{rules}
use Rattle.sheet_table.proofs.RowLaws.{sizes-put}
use Rattle.sheet_table.proofs.rows.put_sizes.Goals as goal

pub returns : goal.returns
returns c = search (rules, sizes-put)
