-- `pending_in_order` meets its contract: the pending kW of all holders are tested.
use Rattle.base.proofs.Prelude.{◌≡◌, ◌∙◌, rules, leb, all_to}
use Rattle.state.specs.Layout.{holders, pending_of, of_holder}
use Rattle.orderly.specs.Workers.Check.{most_pending}
use Rattle.orderly.proofs.CheckLaws.{pending_is}
use Rattle.orderly.proofs.pending.pending_in_order.Goals as goal

pub returns : goal.returns
returns c =
    let s = c.args.rows.now in
    let tested : c.all_of.result ≡ all_to (holders s) (λ h. leb (of_holder pending_of s h) (most_pending s h)) = search rules in
    tested ∙ pending_is s
