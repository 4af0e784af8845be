-- `grant_new_use` meets its contract: the claims that are granted are those of Step 4b.
use Rattle.steps_2_to_4.proofs.Inputs.grant_new_use.Goals as goal

pub returns : goal.returns
returns c = c.grant.ensures _ c.new_use_claims.ensures
