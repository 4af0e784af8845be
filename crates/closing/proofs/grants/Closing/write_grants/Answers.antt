use Rattle.base.proofs.Prelude.{arith}
use Rattle.std.proofs.Common.{[], get_or, take}
use Rattle.std.proofs.lemmas.List.{length-take}
use Rattle.closing.proofs.BufferLaws.{writing-none, writing-row, writing-next, writing-rows, writing-all, row_word}
use Rattle.closing.proofs.grants.Closing.write_grants.Goals as goal

pub loop-holder-init : goal.loop-holder-init
loop-holder-init c = writing-none _ _ _

pub loop-intertie-init : goal.loop-intertie-init
loop-intertie-init c = writing-row _ _ _ _ c.loop-holder.invariant

pub overflow_cast-grants : goal.overflow_cast-grants
overflow_cast-grants c =
    let granted = c.args.self.granted in
    let word = row_word c.args.self.table.now _ _ _ _ granted.size c.as_chunks.ensures.front (omega arith) c.loop-holder-test.true c.loop-intertie-test.true in
    omega (arith, word, granted.small c.loop-holder.holder c.loop-intertie.intertie (omega (arith, word)) (omega (arith, word)))

pub loop-intertie-preserved : goal.loop-intertie-preserved
loop-intertie-preserved c =
    let granted = c.args.self.granted in
    let word = row_word c.args.self.table.now _ _ _ _ granted.size c.as_chunks.ensures.front (omega arith) c.loop-holder-test.true c.loop-intertie-test.true in
    writing-next _ _ _ c.args.self.table.now _ _ _ _ c.loop-intertie.invariant granted c.intertie_count-interties.ensures (omega (arith, word)) word.1 word.2

pub loop-holder-preserved : goal.loop-holder-preserved
loop-holder-preserved c =
    let ends = length-take c.intertie_count-interties.result (get_or (take c.holder_count-holders.result c.as_chunks.result.0.now) c.loop-holder.holder []) in
    writing-rows _ _ _ _ _ _ c.loop-intertie.invariant (omega (arith, ends)) (omega (arith, ends))

pub returns : goal.returns
returns c =
    let ends = length-take c.holder_count-holders.result c.as_chunks.result.0.now in
    writing-all _ _ _ _ _ _ c.loop-holder.invariant c.intertie_count-interties.ensures c.holder_count-holders.ensures (omega (arith, ends)) (omega (arith, ends))
