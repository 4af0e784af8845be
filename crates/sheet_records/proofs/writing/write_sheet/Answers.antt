-- `writing::write_sheet` meets its contract: it is written, or nothing is, as `unwritten` (`BytesLaws`) says.
use Rattle.base.proofs.Prelude.{rules}
use Rattle.sheet_records.proofs.BytesLaws.{sheet-written}
use Rattle.sheet_records.proofs.writing.write_sheet.Goals as goal

pub returns : goal.returns
returns c = search (rules, sheet-written)
