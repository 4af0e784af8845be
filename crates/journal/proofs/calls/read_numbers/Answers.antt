use Rattle.base.proofs.Prelude.{◌≡◌, sym, ◌∙◌, length, rules}
use Rattle.std.specs.Prelude.{Err}
use Rattle.journal.specs.Faults.{fault_of}
use Rattle.journal.proofs.NumberLaws.{reading-turn, reading-stops, reading-over}
use Rattle.journal.proofs.calls.read_numbers.Goals as goal

pub loop-number-preserved : goal.loop-number-preserved
loop-number-preserved c = search (rules, reading-turn)

pub returns-in_err-number : goal.returns-in_err-number
returns-in_err-number c =
    let e : c.from_residual.result ≡ Err (fault_of c.in_err-number.field-0.0) = search rules in
    let size : length c.args.numbers.now ≡ length c.loop-number.numbers = search rules in
    rw (e, size) (reading-stops c.loop-number.number-index _ c.loop-number.numbers _ c.loop-number.invariant _ _ (rw c.in-Some.is at c.next.ensures.steps) (search rules) c.in_err-number.field-0.0 (sym c.in_err-number.was ∙ c.read_number.ensures))

pub returns-in-Some-next : goal.returns-in-Some-next
returns-in-Some-next c =
    let size : length c.args.numbers.now ≡ length c.loop-number.numbers = search rules in
    rw size (reading-over c.loop-number.number-index _ c.loop-number.numbers _ c.loop-number.invariant _ _ (rw c.in-Some-next.is at c.next-2.ensures.steps) (search rules))
