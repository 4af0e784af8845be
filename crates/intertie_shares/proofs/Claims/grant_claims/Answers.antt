use Rattle.base.proofs.Prelude.{◌<◌, length, rules}
use Rattle.intertie_shares.proofs.LoopLaws.{claim-in_row, scattered-none, scattered-next}
use Rattle.intertie_shares.proofs.Claims.grant_claims.Goals as goal

pub loop-h-init : goal.loop-h-init
loop-h-init c = search (rules, scattered-none)

pub loop-h-preserved : goal.loop-h-preserved
loop-h-preserved c =
    let given = c.args.self in
    let before : c.loop-h.h < (length given.weights.now) = search rules in
    scattered-next _ _ _ _ _ _ _ c.loop-h.invariant before
    (claim-in_row _ _ _ _ _ _ c.rows-row-items.ensures.0 given.claimed given.few_interties given.few_holders c.requires before)
