use Rattle.base.proofs.Prelude.{◌+◌, sym, ap, ◌∙◌, arith, rules}
use lib.Seq.{take_all}
use Rattle.text.specs.Decimal.{value as value_of}
use Rattle.text.proofs.ReadLaws.{value_none, value-turn, value-front, digit-range, number-over, number-value}
use Rattle.text.proofs.reading.digits_value.Goals as goal

pub loop-digit-init : goal.loop-digit-init
loop-digit-init c = (sym value_none, omega arith)

pub overflow_sub-digit : goal.overflow_sub-digit
overflow_sub-digit c = (digit-range _ c.requires.1 _ c.loop-digit-test.true).0

pub returns-then-value-gt-MOST : goal.returns-then-value-gt-MOST
returns-then-value-gt-MOST c =
    let digits = c.args.digits.now in
    let t = c.loop-digit in
    let more = value-turn digits t.digit-index c.loop-digit-test.true in
    number-over digits c.requires.0 c.requires.1
    (λ small. omega (arith, c.if-value-gt-MOST.true, c.from.ensures, t.invariant.0, more, value-front (t.digit-index + 1) digits, small))

pub loop-digit-preserved : goal.loop-digit-preserved
loop-digit-preserved c =
    let t = c.loop-digit in (
      omega (arith, t.invariant.0, c.from.ensures, value-turn c.args.digits.now t.digit-index c.loop-digit-test.true),
      omega (arith, c.if-value-gt-MOST.false),
    )

pub returns : goal.returns
returns c =
    let digits = c.args.digits.now in
    let t = c.loop-digit in
    number-value digits c.requires.0 c.requires.1 t.value (t.invariant.0 ∙ ap value_of (take_all t.digit-index digits (search rules))) t.invariant.1
