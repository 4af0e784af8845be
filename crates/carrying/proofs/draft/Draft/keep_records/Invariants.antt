-- `Draft::keep_records` meets its contract: the draft is what is kept of the records so far.
use Rattle.base.proofs.Prelude.{length}
use Rattle.carrying.specs.NextRecords.{kept}
use Rattle.carrying.specs.Workers.Draft.{DraftOf}
use Rattle.carrying.proofs.draft.Draft.keep_records.Given as goal

abbrev pub invariant-loop-record : goal.invariant-loop-record
invariant-loop-record l = DraftOf (kept l.sheet (length l.yielded)) l.self
