-- `check_close` meets its contract: a stage is one of three where it is 1 to 3.
use Rattle.base.proofs.Prelude.{ap, ◌∙◌}
use Rattle.std.proofs.Common.{not}
use Rattle.state.specs.Layout.{stage_of}
use Rattle.call.specs.Outcome.{whenever}
use Rattle.call.proofs.LadderLaws.{passes}
use Rattle.call.proofs.TestLaws.{in_three}
use Rattle.closing.specs.Close.{close_refusal}
use Rattle.closing.proofs.check_close.Goals as goal

pub returns : goal.returns
unfolding close_refusal
returns c =
    passes _ _ _ c.in_ok-refuse_if.ensures
    (passes _ _ _ c.in_ok-check_state.ensures
    (c.refuse_if-2.ensures ∙ ap (λ b. whenever (not b) 7) (c.is_in.ensures ∙ in_three (stage_of c.args.state.now))))
