use Rattle.base.proofs.Prelude.{rules, arith}
use Rattle.sheet_reading.proofs.PassLaws.{places-counted, place-below, slotted-none, slotted-next, all-walked, slotted-all}
use Rattle.sheet_reading.proofs.tables.find_slots.Goals as goal

pub loop-place-init-derived : goal.loop-place-init-derived
loop-place-init-derived c = search (rules, places-counted)

pub loop-place-init : goal.loop-place-init
loop-place-init c = slotted-none _ _

pub bounds-room-place : goal.bounds-room-place
bounds-room-place c =
    place-below _ _ _ _ _ _ _ _ _ c.in-Some.ensures.steps c.loop-place.yielded_by c.enumerate-place-items.ensures.source c.records.ensures c.enumerate-place-items.ensures.count c.into_iter-place-iterator.ensures.into_iter_gives c.headed.invariant.0

pub offset_bounds-room-place : goal.offset_bounds-room-place
offset_bounds-room-place c =
    omega (arith, place-below _ _ _ _ _ _ _ _ _ c.in-Some.ensures.steps c.loop-place.yielded_by c.enumerate-place-items.ensures.source c.records.ensures c.enumerate-place-items.ensures.count c.into_iter-place-iterator.ensures.into_iter_gives c.headed.invariant.0)

pub loop-place-preserved : goal.loop-place-preserved
loop-place-preserved c = search (rules, slotted-next, c.in-Some.ensures.steps)

pub invariant_of-result-clause-passed : goal.invariant_of-result-clause-passed
invariant_of-result-clause-passed c = c.headed.invariant.0

pub invariant_of-result-clause-bytes : goal.invariant_of-result-clause-bytes
invariant_of-result-clause-bytes c = c.headed.invariant.1

pub invariant_of-result-clause-known : goal.invariant_of-result-clause-known
invariant_of-result-clause-known c =
    slotted-all _ _ _ _ c.loop-place.invariant
    (all-walked _ _ _ _ c.enumerate-place-items.ensures.source c.records.ensures c.enumerate-place-items.ensures.count c.into_iter-place-iterator.ensures.into_iter_gives c.headed.invariant.0 _ _ _ c.loop-place.yielded_by c.in-None.ensures.steps)
    c.headed.invariant.0 (search rules)
