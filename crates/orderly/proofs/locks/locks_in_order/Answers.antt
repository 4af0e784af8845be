-- `locks_in_order` meets its contract: the locks of all holders are tested.
use Rattle.base.proofs.Prelude.{◌≡◌, ◌∙◌, rules, all_to}
use Rattle.state.specs.Layout.{interties, holders}
use Rattle.orderly.specs.Workers.Check.{pair_lock_fits}
use Rattle.orderly.proofs.CheckLaws.{locks_are}
use Rattle.orderly.proofs.locks.locks_in_order.Goals as goal

pub returns : goal.returns
returns c =
    let s = c.args.rows.now in
    let tested : c.all_of.result ≡ all_to (holders s) (λ h. all_to (interties s) (λ i. pair_lock_fits s h i)) = search rules in
    tested ∙ locks_are s
