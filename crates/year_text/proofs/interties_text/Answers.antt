use Rattle.base.proofs.Prelude.{[], min, arith, ◌∙◌}
use Rattle.state.specs.Layout.{interties}
use Rattle.text.proofs.EachLaws.{each-none, each_turn, each-end}
use Rattle.year_text.specs.Text.{intertie_line, interties_text}
use Rattle.year_text.proofs.TextLaws.{intertie-few}
use Rattle.year_text.proofs.interties_text.Goals as goal

pub loop-intertie-init : goal.loop-intertie-init
loop-intertie-init c = c.clear.ensures ∙ each-none _ _

pub loop-intertie-preserved : goal.loop-intertie-preserved
loop-intertie-preserved c =
    let a = c.args in
    each_turn 149 (intertie_line a.state.now) (intertie-few a.state.now) 99840 c.loop-intertie.intertie [] _ _ (omega arith) c.loop-intertie.invariant c.put_intertie.ensures

pub returns : goal.returns
unfolding interties_text
returns c =
    each-end _ (min (interties c.args.state.now) 48) _ _ (omega (arith, c.intertie_count.ensures, c.min-count.ensures)) (omega (arith, c.intertie_count.ensures, c.min-count.ensures)) c.loop-intertie.invariant
