-- `carry_on` meets its contract: refused with 14, or written (`CarryLaws`).
use Rattle.base.proofs.Prelude.{arith}
use Rattle.carrying.proofs.CarryLaws.{state-stands, few-records, refused_unfit, draft-fits, draft-written}
use Rattle.carrying.proofs.DraftLaws.{kept-room}
use Rattle.carrying.proofs.carry_on.Goals as goal

pub add_locks-requires : goal.add_locks-requires
add_locks-requires c =
    let o = state-stands _ _ c.requires.0 in
    (o.interties-most, o.holders-most, kept-room _ _ _ c.keep_records.ensures (few-records _ _ c.requires.0))

pub does_not_fit-requires : goal.does_not_fit-requires
does_not_fit-requires c =
    let o = state-stands _ _ c.requires.0 in
    omega (arith, o.holders-most)

pub returns-then-does_not_fit : goal.returns-then-does_not_fit
returns-then-does_not_fit c = let a = c.args in
    refused_unfit a.sheet.now a.state.now a.output.now c.requires.0 c.requires.1 _ _ c.keep_records.ensures c.add_locks.ensures _ c.holder_count-holders.ensures _ c.does_not_fit.ensures c.if-does_not_fit.true

pub write-requires : goal.write-requires
write-requires c = let a = c.args in
    draft-fits a.sheet.now a.state.now a.output.now c.requires.0 c.requires.1 _ _ c.keep_records.ensures c.add_locks.ensures _ c.holder_count-holders.ensures _ c.does_not_fit.ensures c.if-does_not_fit.false

pub returns : goal.returns
returns c = let a = c.args in
    draft-written a.sheet.now a.state.now a.output.now c.requires.0 c.requires.1 _ _ c.keep_records.ensures c.add_locks.ensures _ c.holder_count-holders.ensures _ c.does_not_fit.ensures _ _ c.if-does_not_fit.false
    (λ i. (c.shared_slice_known-1.given i).fits) c.intertie_count-interties.ensures c.write.ensures
