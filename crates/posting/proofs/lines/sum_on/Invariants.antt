-- `sum_on` meets its contract: after h turns the sum is that of the first h holders.
use Rattle.base.proofs.Prelude.{◌*◌, ◌≤◌, ◌≡◌}
use Rattle.posting.specs.Workers.Lines.{field_on}
use Rattle.posting.proofs.lines.sum_on.Given as goal

abbrev pub invariant-loop-holder : goal.invariant-loop-holder
invariant-loop-holder l = (l.sum ≡ field_on l.state l.field l.holder l.intertie) × (l.sum ≤ l.holder * 4294967295)
