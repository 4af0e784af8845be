use Rattle.base.proofs.Prelude.{◌≡◌, ◌+◌, ◌^◌, ◌<◌, sym, ap, ◌∙◌, length, arith, rules, zero-le}
use Rattle.std.specs.Iterator.Adapters.{enumerate_source, enumerate_count}
use Rattle.text.specs.Pieces.{fields}
use Rattle.text.specs.Left.{pieces_left}
use Rattle.text.proofs.PieceLaws.{length-fields}
use mathlib.Core.Logic.{inl}
use Rattle.std.specs.Prelude.{Ok}
use Rattle.journal.specs.Calls.{line_of}
use Rattle.journal.specs.Journals.{answer_from, past_line}
use Rattle.journal.proofs.JournalLaws.{check-fails, same-count, handed-fault, check-turn, check-ends, counted-most}
use Rattle.journal.proofs.lines.check.Goals as goal

pub loop-place-init-derived : goal.loop-place-init-derived
loop-place-init-derived c =
    let e = c.into_iter-place-iterator.ensures.into_iter_gives in
    let source : enumerate_source c.into_iter-place-iterator.result ≡ c.split.result = ap enumerate_source e ∙ c.enumerate-place-items.ensures.source in
    let left : pieces_left (enumerate_source c.into_iter-place-iterator.result) ≡ fields 10 c.args.text.now = ap pieces_left source ∙ c.split.ensures in
    let none : enumerate_count c.into_iter-place-iterator.result ≡ 0 = ap enumerate_count e ∙ c.enumerate-place-items.ensures.count in
    let small : length c.args.text.now < 2 ^ 63 = search rules in
    ((tt, tt, inl (omega (arith, none, small, ap length left, length-fields 10 c.args.text.now))), tt)

pub loop-place-init : goal.loop-place-init
loop-place-init c =
    let e = c.into_iter-place-iterator.ensures.into_iter_gives in
    let source : enumerate_source c.into_iter-place-iterator.result ≡ c.split.result = ap enumerate_source e ∙ c.enumerate-place-items.ensures.source in
    let left : pieces_left (enumerate_source c.into_iter-place-iterator.result) ≡ fields 10 c.args.text.now = ap pieces_left source ∙ c.split.ensures in
    let none : enumerate_count c.into_iter-place-iterator.result ≡ 0 = ap enumerate_count e ∙ c.enumerate-place-items.ensures.count in
    (zero-le, omega (arith, none, ap length left, length-fields 10 c.args.text.now), sym (ap (λ n. answer_from c.args.room (n + 1) 0 (pieces_left (enumerate_source c.into_iter-place-iterator.result))) none ∙ ap (answer_from c.args.room 1 0) left))

pub loop-place-preserved : goal.loop-place-preserved
loop-place-preserved c =
    let t = c.loop-place.invariant in
    let step = rw c.in-Some.is at c.next.ensures.steps in
    let marked : c.map_err.result ≡ past_line (c.in-Some.place + 1) c.count_call.result (λ n. Ok n) = search rules in
    let more = same-count _ _ _ (sym c.in_ok-count.was ∙ marked) ∙ c.count_call.ensures in (
      omega (arith, t.0, step.2, counted-most c.args.room c.loop-place.count c.in_ok-count.count (line_of c.in-Some.line.now) more),
      omega (arith, t.1, step.2, ap length step.0),
      rw step.2 (check-turn c.args.room _ c.loop-place.count _ _ t.2 _ _ step.0 _ more),
    )

pub returns-in_err-count : goal.returns-in_err-count
returns-in_err-count c =
    let step = rw c.in-Some.is at c.next.ensures.steps in
    let marked : c.map_err.result ≡ past_line (c.in-Some.place + 1) c.count_call.result (λ n. Ok n) = search rules in
    handed-fault _ _ c.from_residual.ensures.1
    ∙ check-fails c.args.room _ c.loop-place.count _ _ c.loop-place.invariant.2 _ _ step.0 _ _ c.count_call.ensures (sym c.in_err-count.was ∙ rw step.1 at marked)

pub returns : goal.returns
returns c =
    let step = rw c.in-None.is at c.next.ensures.steps in
    check-ends c.args.room _ c.loop-place.count _ _ c.loop-place.invariant.2 step.0.0
