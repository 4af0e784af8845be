use Rattle.base.proofs.Prelude.{◌-◌, ◌%◌, ◌^◌, ◌≡◌, ap, ◌∙◌, arith, rules, sum_to, at}
use Rattle.base.proofs.VectorLaws.{filling-none, filling-later, filling-next, filling-all}
use Rattle.intertie_shares.specs.Pairs.{at_pair}
use Rattle.state.proofs.OrderlyLaws.{refusal-none}
use Rattle.closing.proofs.BufferLaws.{row-sum}
use Rattle.closing.proofs.ClosedLaws.{unplaced-left}
use Rattle.closing.proofs.grants.Closing.leave_unplaced.Goals as goal

pub loop-holder-init : goal.loop-holder-init
loop-holder-init c = search (rules, filling-none)

pub loop-holder-preserved : goal.loop-holder-preserved
loop-holder-preserved c =
    let l = c.loop-holder in
    let n = c.intertie_count-interties.result in
    let table = c.args.self.table.now in
    let granted : c.sum_of-granted.result ≡ sum_to n (λ i. at_pair table l.holder i) % 2 ^ 64 =
    c.sum_of-granted.ensures ∙ ap (λ x. x % 2 ^ 64) (row-sum table n l.holder c.args.self.granted.size c.as_chunks.ensures.front (omega arith) (omega arith)) in
    filling-next _ _ _ _ _ l.invariant (omega arith)
    (c.saturating_sub.ensures ∙ ap (λ x. x - c.sum_of-granted.result) (filling-later _ _ _ _ l.invariant) ∙ ap (λ x. at c.read_rows.new.numbers l.holder - x) granted)

pub returns : goal.returns
returns c =
    unplaced-left _ _ c.args.self.granted (refusal-none _ c.args.self.closable.fit).1 _ _ _ _ (omega arith) c.intertie_count-interties.ensures c.read_rows.ensures (filling-all _ _ _ _ c.loop-holder.invariant (omega arith))
