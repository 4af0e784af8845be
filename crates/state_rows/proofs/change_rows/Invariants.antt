-- `change_rows` meets its contract: after m turns the rows of the first m holders are changed.
use Rattle.std.proofs.Common.{◌≡◌, ◌+◌}
use Rattle.base.specs.Words.{at}
use Rattle.state.specs.Layout.{place}
use Rattle.state_rows.specs.Rows.{fill_pairs}
use Rattle.state_rows.proofs.change_rows.Given as goal

abbrev pub invariant-loop-holder : goal.invariant-loop-holder
invariant-loop-holder g l =
    let s = l.initial.state in
    l.state ≡ fill_pairs l.field l.holder l.interties (λ h i. g.C.Change.gives l.table (at s (place (l.field + h) i)) (place h i)) s
