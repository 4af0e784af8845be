use Rattle.base.proofs.Prelude.{◌∙◌}
use Rattle.base.proofs.RefusedLaws.{handed-on}
use Rattle.orderly.proofs.check_state.Goals as goal

pub returns-in_err-rows : goal.returns-in_err-rows
returns-in_err-rows c = handed-on _ _ c.from_residual.ensures.1 ∙ c.in_err-rows.ensures
