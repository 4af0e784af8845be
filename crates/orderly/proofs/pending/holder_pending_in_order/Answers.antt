-- `holder_pending_in_order` meets its contract: the words of the row are the holder's pending kW.
use Rattle.base.proofs.Prelude.{◌≡◌, ap, ◌∙◌, leb, sum_to, all_to}
use Rattle.state.specs.Layout.{pending_of, of_holder}
use Rattle.orderly.proofs.CheckLaws.{none_pending}
use Rattle.orderly.proofs.RowLaws.{row-within, row-sum}
use Rattle.orderly.proofs.pending.holder_pending_in_order.Goals as goal

pub returns-then-most-eq0 : goal.returns-then-most-eq0
returns-then-most-eq0 c =
    let s = c.args.rows.now in
    let h = c.args.holder in
    none_pending s h c.most_pending-most.ensures c.if-most-eq0.true
    (c.is_clear.ensures ∙ row-within _ _ _ c.row-pending.ensures 0 ∙ ap (λ n. all_to n (λ i. leb (pending_of s h i) 0)) c.interties.ensures.0)

pub returns : goal.returns
returns c =
    let s = c.args.rows.now in
    let h = c.args.holder in
    let kw : c.sum.result ≡ of_holder pending_of s h =
    c.sum.ensures ∙ row-sum _ _ _ c.row-pending.ensures ∙ ap (λ n. sum_to n (λ i. pending_of s h i)) c.interties.ensures.0 in
    cc (kw, c.most_pending-most.ensures)
