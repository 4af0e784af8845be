use Rattle.base.proofs.Prelude.{[], ◌∷◌, ◌/◌, ◌∙◌, ap, arith, length, rules, sum_to, take}
use lib.ListN.{get_or, length-append}
use lib.Seq.{length-take-le}
use Rattle.std.proofs.lemmas.List.{get_or-take}
use Rattle.std.proofs.lemmas.Slice.Zip.{zip_turn}
use Rattle.base.proofs.SumLaws.{sum_more}
use Rattle.control_room.proofs.TradeLaws.{traded-chunk}
use Rattle.control_room.proofs.trades.Called.traded.Goals as goal

pub loop-call-init : goal.loop-call-init
unfolding sum_to
loop-call-init c = search rules

pub loop-call-preserved : goal.loop-call-preserved
loop-call-preserved c =
    let a = c.args.self in
    let n = length c.loop-call.yielded in
    let turn = zip_turn (take c.min.result c.as_chunks.result.0.now) c.as_chunks-2.result.0.now c.loop-call.yielded c.into_iter-call-iterator.result c.loop-call.call-iterator c.next.new.self c.next.result (search rules) (search rules) c.loop-call.yielded_by _ c.in-Some.is c.next.ensures.steps in
    let few = length-take-le c.min.result c.as_chunks.result.0.now (omega (arith, c.min.ensures)) in
    let call = turn.2 [] ∙ get_or-take c.min.result c.as_chunks.result.0.now n [] (omega (arith, turn.0, few)) ∙ ap (λ l. get_or l n []) c.as_chunks.ensures.front in
    let answer = turn.3 [] ∙ ap (λ l. get_or l n []) c.as_chunks-2.ensures.front in
    let is = rw (call, answer) at c.traded_in.ensures in
    let kw = traded-chunk a.calls.now a.answers.now (length a.calls.now / 6) (length a.answers.now / 3) n c.args.party c.args.holder (omega (arith, turn.0, few, c.min.ensures, c.as_chunks.ensures.front_len)) (omega (arith, turn.1, c.as_chunks-2.ensures.front_len)) in
    let one = length-append c.loop-call.yielded ((c.in-Some.call, c.in-Some.answer) ∷ []) in
    (omega (arith, one), rw one (sum_more _ _ _ _ c.loop-call.invariant.1 (c.from-sum.ensures ∙ is ∙ kw)))
