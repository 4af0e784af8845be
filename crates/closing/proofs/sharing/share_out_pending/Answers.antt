-- `share_out_pending` meets its contract: pools, claims and weights are the state's, and the share-outs are those of the closing.
use Rattle.base.proofs.Prelude.{arith, ◌∙◌}
use Rattle.state.proofs.OrderlyLaws.{refusal-none}
use Rattle.weights.proofs.WeightLaws.{weighed-is}
use Rattle.closing.proofs.SharingLaws.{pending-shared}
use Rattle.closing.proofs.sharing.share_out_pending.Goals as goal

pub returns : goal.returns
returns c =
    let s = c.args.state.now in
    let p = c.requires in
    pending-shared s (refusal-none s p.fit).1 p.stage-most _ _ _ _ _ c.args.table.now _ _ c.intertie_count-interties.ensures c.holder_count-holders.ensures
    c.read_rows.ensures c.read_rows-2.ensures
    (c.weigh.ensures ∙ weighed-is s _ p.long p.low) (omega arith)
    c.share_out_each.ensures.0 c.share_out_each.ensures.1
