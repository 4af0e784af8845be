use Rattle.base.proofs.Prelude.{rules, arith}
use Rattle.sheet_reading.proofs.PassLaws.{places-counted, place-below, slot-below, added-none, count_room, counted_more, kw-room, summed_more, all-walked, added-all}
use Rattle.sheet_reading.proofs.tables.Found.add_records.Goals as goal

pub loop-place-init-derived : goal.loop-place-init-derived
loop-place-init-derived c = search (rules, places-counted)

pub bounds-self-place : goal.bounds-self-place
bounds-self-place c =
    place-below _ _ _ _ _ _ _ _ _ c.in-Some.ensures.steps c.loop-place.yielded_by c.enumerate-place-items.ensures.source c.records.ensures c.enumerate-place-items.ensures.count c.into_iter-place-iterator.ensures.into_iter_gives c.args.self.passed

pub offset_bounds-self-place : goal.offset_bounds-self-place
offset_bounds-self-place c =
    omega (arith, place-below _ _ _ _ _ _ _ _ _ c.in-Some.ensures.steps c.loop-place.yielded_by c.enumerate-place-items.ensures.source c.records.ensures c.enumerate-place-items.ensures.count c.into_iter-place-iterator.ensures.into_iter_gives c.args.self.passed)

pub loop-place-init : goal.loop-place-init
loop-place-init c = search (rules, added-none)

pub bounds-counts-slot : goal.bounds-counts-slot
bounds-counts-slot c =
    slot-below _ _ _ _ _ _ _ _ _ c.in-Some.ensures.steps c.loop-place.yielded_by c.enumerate-place-items.ensures.source c.records.ensures c.enumerate-place-items.ensures.count c.into_iter-place-iterator.ensures.into_iter_gives c.args.self.passed _ c.args.self.known

pub overflow_add-counts : goal.overflow_add-counts
overflow_add-counts c = search (rules, count_room, c.in-Some.ensures.steps)

pub bounds-counts-slot-in-loop-place : goal.bounds-counts-slot-in-loop-place
bounds-counts-slot-in-loop-place c =
    slot-below _ _ _ _ _ _ _ _ _ c.in-Some.ensures.steps c.loop-place.yielded_by c.enumerate-place-items.ensures.source c.records.ensures c.enumerate-place-items.ensures.count c.into_iter-place-iterator.ensures.into_iter_gives c.args.self.passed _ c.args.self.known

pub bounds-kw-slot : goal.bounds-kw-slot
bounds-kw-slot c =
    slot-below _ _ _ _ _ _ _ _ _ c.in-Some.ensures.steps c.loop-place.yielded_by c.enumerate-place-items.ensures.source c.records.ensures c.enumerate-place-items.ensures.count c.into_iter-place-iterator.ensures.into_iter_gives c.args.self.passed _ c.args.self.known

pub overflow_add-kw : goal.overflow_add-kw
overflow_add-kw c =
    omega (arith, kw-room _ _ _ _ _ _ _ _ _ c.in-Some.ensures.steps c.loop-place.yielded_by c.enumerate-place-items.ensures.source c.records.ensures c.enumerate-place-items.ensures.count c.into_iter-place-iterator.ensures.into_iter_gives c.args.self.passed _ c.args.self.known _ c.loop-place.invariant.1 c.args.self.bytes)

pub bounds-kw-slot-in-loop-place : goal.bounds-kw-slot-in-loop-place
bounds-kw-slot-in-loop-place c =
    slot-below _ _ _ _ _ _ _ _ _ c.in-Some.ensures.steps c.loop-place.yielded_by c.enumerate-place-items.ensures.source c.records.ensures c.enumerate-place-items.ensures.count c.into_iter-place-iterator.ensures.into_iter_gives c.args.self.passed _ c.args.self.known

pub loop-place-preserved : goal.loop-place-preserved
loop-place-preserved c = search (rules, counted_more, summed_more, c.in-Some.ensures.steps)

pub returns : goal.returns
returns c = search (rules, all-walked, added-all, c.in-None.ensures.steps)
