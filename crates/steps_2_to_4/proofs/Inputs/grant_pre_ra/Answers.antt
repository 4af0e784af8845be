-- `grant_pre_ra` meets its contract: the claims that are granted are those of Step 4a.
use Rattle.steps_2_to_4.proofs.Inputs.grant_pre_ra.Goals as goal

pub returns : goal.returns
returns c = c.grant.ensures _ c.pre_ra_claims.ensures
