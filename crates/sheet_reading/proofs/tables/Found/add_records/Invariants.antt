-- `Found::add_records` meets its contract: both tables have the amounts of the records so far.
use Rattle.base.proofs.Prelude.{◌≡◌, length}
use Rattle.sheet_records.specs.Sheet.{kw_at}
use Rattle.sheet_reading.proofs.PassLaws.{added}
use Rattle.sheet_reading.proofs.tables.Found.add_records.Given as goal

abbrev pub invariant-loop-place : goal.invariant-loop-place
invariant-loop-place l =
    (l.counts ≡ added l.self.sheet.now (λ k. 1) (length l.yielded)) × (l.kw ≡ added l.self.sheet.now (kw_at l.self.sheet.now) (length l.yielded))
