use Rattle.base.proofs.Prelude.{◌≡◌, ◌+◌, ◌<◌, ap, sym, ◌∙◌, length, arith, refl}
use Rattle.std.specs.Iterator.Adapters.{enumerate_source, enumerate_count}
use mathlib.Core.Logic.{inl}
use Rattle.std.specs.Prelude.{Ok}
use Rattle.text.specs.Left.{pieces_left}
use Rattle.sheet_table.proofs.ReadingLaws.{lines_begin, lines-stop, lines-skip, lines-take, lines-end, line-room, lines-stopped}
use Rattle.sheet_table.proofs.lines.read_lines.Goals as goal

pub loop-place-init-derived : goal.loop-place-init-derived
loop-place-init-derived c =
    let e = c.into_iter-place-iterator.ensures.into_iter_gives in
    let left : pieces_left (enumerate_source c.into_iter-place-iterator.result) ≡ pieces_left c.args.lines = ap pieces_left (ap enumerate_source e ∙ c.enumerate-place-items.ensures.source) in
    let none : enumerate_count c.into_iter-place-iterator.result ≡ 0 = ap enumerate_count e ∙ c.enumerate-place-items.ensures.count in
    ((tt, tt, inl (omega (arith, none, c.requires, ap length left))), tt)

pub loop-place-init : goal.loop-place-init
loop-place-init c =
    let e = c.into_iter-place-iterator.ensures.into_iter_gives in
    let left : pieces_left (enumerate_source c.into_iter-place-iterator.result) ≡ pieces_left c.args.lines = ap pieces_left (ap enumerate_source e ∙ c.enumerate-place-items.ensures.source) in
    let none : enumerate_count c.into_iter-place-iterator.result ≡ 0 = ap enumerate_count e ∙ c.enumerate-place-items.ensures.count in (
      ap length (c.new-kws.ensures ∙ sym c.new-keys.ensures),
      omega (arith, none, c.requires, ap length left),
      rw (c.new-keys.ensures, c.new-kws.ensures) (lines_begin (pieces_left c.args.lines) _ _ none left),
    )

pub returns-in_err-record : goal.returns-in_err-record
returns-in_err-record c =
    let step = rw c.in-Some.is at c.next.ensures.steps in
    lines-stopped _ _ _ c.from_residual.ensures.1
    (lines-stop _ _ c.loop-place.keys.items c.loop-place.kws.items _ _ c.loop-place.invariant.2 _ _ step.0 c.read_line.result (rw (step.1, c.len.ensures.value) at c.read_line.ensures) _ c.in_err-record.was)

pub push-requires : goal.push-requires
push-requires c =
    let said = c.in_ok-record.was ∙ ap Ok c.in-Some-2.is in
    let room : length c.loop-place.keys.items < 1024 = omega (arith, c.len.ensures.value, line-room (c.in-Some.place + 2) c.len.result _ c.in-Some-2.record (sym said ∙ c.read_line.ensures)) in
    (omega arith, room)

pub push-requires-in-Some-2 : goal.push-requires-in-Some-2
push-requires-in-Some-2 c =
    let said = c.in_ok-record.was ∙ ap Ok c.in-Some-2.is in
    let room : length c.loop-place.kws.items < 1024 =
    omega (arith, c.loop-place.invariant.0, c.len.ensures.value, line-room (c.in-Some.place + 2) c.len.result _ c.in-Some-2.record (sym said ∙ c.read_line.ensures)) in
    (omega arith, room)

pub loop-place-preserved-in-Some-2 : goal.loop-place-preserved-in-Some-2
loop-place-preserved-in-Some-2 c =
    let t = c.loop-place.invariant in
    let step = rw c.in-Some.is at c.next.ensures.steps in
    let said = c.in_ok-record.was ∙ ap Ok c.in-Some-2.is in (
      omega (arith, t.0, c.push.ensures.len, c.push-in-Some-2.ensures.len),
      omega (arith, t.1, step.2, ap length step.0),
      rw step.2 (lines-take _ _ c.loop-place.keys.items c.loop-place.kws.items _ _ t.2 _ _ step.0 c.read_line.result (rw (step.1, c.len.ensures.value) at c.read_line.ensures) c.in-Some-2.record said refl t.0 _ _ c.push.ensures.items c.push-in-Some-2.ensures.items),
    )

pub loop-place-preserved : goal.loop-place-preserved
loop-place-preserved c =
    let t = c.loop-place.invariant in
    let step = rw c.in-Some.is at c.next.ensures.steps in
    let said = c.in_ok-record.was ∙ ap Ok c.in_default.is in (
      t.0,
      omega (arith, t.1, step.2, ap length step.0),
      rw step.2 (lines-skip _ _ c.loop-place.keys.items c.loop-place.kws.items _ _ t.2 _ _ step.0 c.read_line.result (rw (step.1, c.len.ensures.value) at c.read_line.ensures) said),
    )

pub returns : goal.returns
returns c =
    let step = rw c.in-None.is at c.next.ensures.steps in
    (lines-end _ _ _ _ _ _ c.loop-place.invariant.2 step.0.0, c.loop-place.invariant.0)
