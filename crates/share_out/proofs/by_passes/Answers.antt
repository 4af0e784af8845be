use Rattle.base.proofs.Prelude.{arith}
use Rattle.share_out.proofs.LoopLaws.{between-first, between-next, turns-none, turns-unmet, turns-rated, turns-given, turns-still, turns-next, turned-serving, turned-within, turned-some, passing-last}
use Rattle.share_out.proofs.by_passes.Goals as goal

pub passes-init : goal.passes-init
passes-init c = between-first c.requires c.weigh_open-all.ensures

pub loop-i-init : goal.loop-i-init
loop-i-init c = turns-none

pub overflow_sub-unmet : goal.overflow_sub-unmet
overflow_sub-unmet c = turns-unmet c.passes.invariant (omega arith) c.loop-i.invariant c.loop-i-test.true

pub portion-part-requires : goal.portion-part-requires
portion-part-requires c =
    turns-rated c.passes.invariant (omega arith) c.loop-i.invariant c.requires c.loop-i-test.true c.rate_of-rate.ensures

pub overflow_add-given : goal.overflow_add-given
overflow_add-given c =
    omega (
      arith,
      turns-given c.passes.invariant (omega arith) c.loop-i.invariant c.loop-i-test.true c.portion-part.ensures c.min-kw.ensures,
      c.passes.invariant.passing.running.counted,
      c.requires.pooled,
    )

pub overflow_add-still_open : goal.overflow_add-still_open
overflow_add-still_open c =
    omega (
      arith,
      c.requires.sized.few,
      turns-still c.passes.invariant (omega arith) c.loop-i.invariant c.requires c.loop-i-test.true c.portion-part.ensures c.min-kw.ensures c.weight_after-weight.ensures,
    )

pub loop-i-preserved : goal.loop-i-preserved
loop-i-preserved c =
    turns-next c.passes.invariant (omega arith) c.loop-i.invariant c.loop-i-test.true c.portion-part.ensures c.min-kw.ensures c.weight_after-weight.ensures

pub complete-left-requires : goal.complete-left-requires
complete-left-requires c = turned-serving c.passes.invariant (omega arith) c.loop-i.invariant c.requires c.loop-i-test.false

pub overflow_sub-left : goal.overflow_sub-left
overflow_sub-left c = turned-within c.passes.invariant (omega arith) c.loop-i.invariant c.requires c.loop-i-test.false c.complete-left.ensures

pub passes-smaller : goal.passes-smaller
passes-smaller c =
    omega (
      arith,
      turned-some c.passes.invariant (omega arith) c.loop-i.invariant c.requires c.loop-i-test.false c.complete-left.ensures,
    )

pub passes-preserved : goal.passes-preserved
passes-preserved c = between-next c.passes.invariant (omega arith) c.loop-i.invariant c.requires c.loop-i-test.false c.complete-left.ensures

pub returns : goal.returns
returns c = passing-last _ _ _ _ _ _ c.passes.invariant.passing c.if-left-eq0.true
