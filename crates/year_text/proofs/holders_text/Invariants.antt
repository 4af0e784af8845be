-- `holders_text` meets its contract: after h turns the first h lines are put.
use Rattle.base.proofs.Prelude.{◌≡◌}
use Rattle.text.specs.Lines.{each}
use Rattle.control_room.specs.Trades.{called_count}
use Rattle.year_text.specs.Text.{holder_line}
use Rattle.year_text.proofs.holders_text.Given as goal

abbrev pub invariant-loop-holder : goal.invariant-loop-holder
invariant-loop-holder l =
    let calls = l.called.calls.now in
    let answers = l.called.answers.now in
    l.text.items ≡ each l.holder (holder_line l.state calls answers (called_count calls answers))
