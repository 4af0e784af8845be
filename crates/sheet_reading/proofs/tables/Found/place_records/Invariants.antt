-- `Found::place_records` meets its contract: the table has the interties of the records so far.
use Rattle.base.proofs.Prelude.{◌≡◌, length}
use Rattle.sheet_reading.proofs.PassLaws.{added, tie_at}
use Rattle.sheet_reading.proofs.tables.Found.place_records.Given as goal

abbrev pub invariant-loop-place : goal.invariant-loop-place
invariant-loop-place l = l.interties ≡ added l.self.sheet.now (tie_at l.self.sheet.now) (length l.yielded)
