use Rattle.base.proofs.Prelude.{[], min, arith, ◌∙◌}
use Rattle.state.specs.Layout.{holders}
use Rattle.text.proofs.EachLaws.{each-none, each_turn, each-end}
use Rattle.control_room.specs.Trades.{called_count}
use Rattle.year_text.specs.Text.{holder_line, holders_text}
use Rattle.year_text.proofs.TextLaws.{holder-few}
use Rattle.year_text.proofs.holders_text.Goals as goal

pub loop-holder-init : goal.loop-holder-init
loop-holder-init c = c.clear.ensures ∙ each-none _ _

pub loop-holder-preserved : goal.loop-holder-preserved
loop-holder-preserved c =
    let s = c.args.state.now in
    let calls = c.args.called.calls.now in
    let answers = c.args.called.answers.now in
    each_turn 170 (holder_line s calls answers (called_count calls answers)) (holder-few s calls answers (called_count calls answers)) 99840 c.loop-holder.holder [] _ _ (omega arith) c.loop-holder.invariant c.put_holder.ensures

pub returns : goal.returns
unfolding holders_text
returns c =
    each-end _ (min (holders c.args.state.now) 32) _ _ (omega (arith, c.holder_count.ensures, c.min-count.ensures)) (omega (arith, c.holder_count.ensures, c.min-count.ensures)) c.loop-holder.invariant
