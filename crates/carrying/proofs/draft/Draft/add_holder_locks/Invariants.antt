-- `Draft::add_holder_locks` meets its contract: after i interties the draft has the holder's locks on them.
use Rattle.base.proofs.Prelude.{◌+◌, ◌*◌, ◌≤◌, length}
use Rattle.carrying.specs.NextRecords.{with_locks_of}
use Rattle.carrying.specs.Workers.Draft.{Adds}
use Rattle.carrying.proofs.draft.Draft.add_holder_locks.Given as goal

abbrev pub invariant-loop-intertie : goal.invariant-loop-intertie
invariant-loop-intertie l =
    (length l.self.keys ≤ 1024 + 48 * l.holder + l.intertie)
    × Adds (with_locks_of l.state l.holder l.intertie) l.initial.self l.self
