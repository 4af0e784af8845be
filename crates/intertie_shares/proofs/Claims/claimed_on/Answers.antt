use Rattle.base.proofs.Prelude.{◌≡◌, ◌<◌, length, rules}
use Rattle.std.specs.Prelude.{Some, None}
use Rattle.intertie_shares.proofs.LoopLaws.{claim-in_row, claiming-none, claiming-next, claiming-over}
use Rattle.intertie_shares.proofs.Claims.claimed_on.Goals as goal

pub loop-row-init : goal.loop-row-init
loop-row-init c = search (rules, claiming-none)

pub returns-in_err-left : goal.returns-in_err-left
returns-in_err-left c =
    let given = c.args.self in
    let before : c.loop-row.row-index < (length given.weights.now) = search rules in
    let none : c.checked_sub.result ≡ None = search rules in
    claiming-over _ _ _ _ _ _ c.loop-row.invariant c.checked_sub.ensures
    (claim-in_row _ _ _ _ _ _ c.rows-row-items.ensures.0 given.claimed given.few_interties given.few_holders c.requires before) _ _ none before
    (search rules)

pub loop-row-preserved : goal.loop-row-preserved
loop-row-preserved c =
    let given = c.args.self in
    let before : c.loop-row.row-index < (length given.weights.now) = search rules in
    let some : c.checked_sub.result ≡ Some c.in_ok-left.left = search rules in
    claiming-next _ _ _ _ _ _ c.loop-row.invariant c.checked_sub.ensures
    (claim-in_row _ _ _ _ _ _ c.rows-row-items.ensures.0 given.claimed given.few_interties given.few_holders c.requires before) _ some
