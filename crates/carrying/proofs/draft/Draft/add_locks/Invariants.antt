-- `Draft::add_locks` meets its contract: after h holders the draft has their locks.
use Rattle.base.proofs.Prelude.{◌+◌, ◌*◌, ◌≤◌, length}
use Rattle.carrying.specs.NextRecords.{with_locks}
use Rattle.carrying.specs.Workers.Draft.{Adds}
use Rattle.carrying.proofs.draft.Draft.add_locks.Given as goal

abbrev pub invariant-loop-holder : goal.invariant-loop-holder
invariant-loop-holder l =
    (length l.self.keys ≤ 1024 + 48 * l.holder)
    × Adds (with_locks l.state l.holder) l.initial.self l.self
