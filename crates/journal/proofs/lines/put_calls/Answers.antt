use Rattle.base.proofs.Prelude.{arith, rules}
use Rattle.journal.proofs.JournalLaws.{words-fit, put-room, put-turn, put-ends}
use Rattle.journal.proofs.lines.put_calls.Goals as goal

pub put_line-place-requires : goal.put_line-place-requires
put_line-place-requires c =
    let t = c.loop-line.invariant in
    omega (arith, t.0, words-fit _ c.loop-line.place _ _ c.loop-line.calls t.1 t.2 _ _ (rw c.in-Some.is at c.next.ensures.steps))

pub loop-line-preserved : goal.loop-line-preserved
loop-line-preserved c =
    let t = c.loop-line.invariant in
    let left = rw c.in-Some.is at c.next.ensures.steps in
    let put = c.put_line-place.ensures in (
      search rules,
      put-room _ c.loop-line.place _ _ c.loop-line.calls t.1 t.2 _ _ left _ _ put.0 put.1,
      put-turn _ c.loop-line.place _ _ c.loop-line.calls t.1 t.2 _ _ left _ _ put.0 put.1,
    )

pub returns : goal.returns
returns c = search (rules, put-ends)
