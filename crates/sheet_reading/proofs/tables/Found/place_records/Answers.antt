use Rattle.base.proofs.Prelude.{rules, arith}
use Rattle.sheet_reading.proofs.PassLaws.{places-counted, place-below, slot-below, added-none, tie-room, placed_more, all-walked, added-all}
use Rattle.sheet_reading.proofs.tables.Found.place_records.Goals as goal

pub loop-place-init-derived : goal.loop-place-init-derived
loop-place-init-derived c = search (rules, places-counted)

pub bounds-self-place : goal.bounds-self-place
bounds-self-place c =
    place-below _ _ _ _ _ _ _ _ _ c.in-Some.ensures.steps c.loop-place.yielded_by c.enumerate-place-items.ensures.source c.records.ensures c.enumerate-place-items.ensures.count c.into_iter-place-iterator.ensures.into_iter_gives c.args.self.passed

pub offset_bounds-self-place : goal.offset_bounds-self-place
offset_bounds-self-place c =
    omega (arith, place-below _ _ _ _ _ _ _ _ _ c.in-Some.ensures.steps c.loop-place.yielded_by c.enumerate-place-items.ensures.source c.records.ensures c.enumerate-place-items.ensures.count c.into_iter-place-iterator.ensures.into_iter_gives c.args.self.passed)

pub loop-place-init : goal.loop-place-init
loop-place-init c = search (rules, added-none)

pub bounds-interties-self : goal.bounds-interties-self
bounds-interties-self c =
    slot-below _ _ _ _ _ _ _ _ _ c.in-Some.ensures.steps c.loop-place.yielded_by c.enumerate-place-items.ensures.source c.records.ensures c.enumerate-place-items.ensures.count c.into_iter-place-iterator.ensures.into_iter_gives c.args.self.passed _ c.args.self.known

pub overflow_add-interties : goal.overflow_add-interties
overflow_add-interties c = search (rules, tie-room, c.in-Some.ensures.steps)

pub bounds-interties-self-in-loop-place : goal.bounds-interties-self-in-loop-place
bounds-interties-self-in-loop-place c =
    slot-below _ _ _ _ _ _ _ _ _ c.in-Some.ensures.steps c.loop-place.yielded_by c.enumerate-place-items.ensures.source c.records.ensures c.enumerate-place-items.ensures.count c.into_iter-place-iterator.ensures.into_iter_gives c.args.self.passed _ c.args.self.known

pub loop-place-preserved : goal.loop-place-preserved
loop-place-preserved c = search (rules, placed_more, c.in-Some.ensures.steps)

pub returns : goal.returns
returns c = search (rules, all-walked, added-all, c.in-None.ensures.steps)
