-- `write_existing` meets its contract: after h turns the rows of the first h holders are written.
use Rattle.base.proofs.Prelude.{◌≤◌, ◌≡◌}
use Rattle.opened_state.specs.Write.{existing_written}
use Rattle.opened_state.proofs.Source.write_existing.Given as goal

abbrev pub invariant-loop-holder : goal.invariant-loop-holder
invariant-loop-holder l =
    (l.holder ≤ l.self.read.holders) × (l.state ≡ existing_written l.self.read.tables.now l.self.read.interties l.holder l.initial.state)
