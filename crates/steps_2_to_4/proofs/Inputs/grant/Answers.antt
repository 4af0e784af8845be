-- `grant` meets its contract: each intertie's pool is shared out over its claims (`ClaimLaws`).
use Rattle.steps_2_to_4.specs.Reserved.{inputs}
use Rattle.steps_2_to_4.proofs.ClaimLaws.{granted-over}
use Rattle.steps_2_to_4.proofs.Inputs.grant.Goals as goal

pub returns : goal.returns
returns c =
    let given = c.args.self in
    granted-over (inputs given.read.tables.now given.read.interties given.read.holders) _ _ _ _ _ given.few given.small c.requires given.sized given.weighed
    c.told-claimed c.told-granted c.share_out_each.ensures.1
