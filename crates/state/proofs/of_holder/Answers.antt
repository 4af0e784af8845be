use Rattle.base.proofs.Prelude.{sym, arith, rules}
use Rattle.base.proofs.SumLaws.{sum_to-zero, sum_to-more}
use Rattle.state.proofs.of_holder.Invariants.{pairs}
use Rattle.state.proofs.of_holder.Goals as goal

pub loop-intertie-init : goal.loop-intertie-init
loop-intertie-init c =
    let a = c.args in
    (sym (sum_to-zero (pairs a.state.now a.field a.holder)), search rules)

pub loop-intertie-preserved : goal.loop-intertie-preserved
loop-intertie-preserved c =
    let a = c.args in (
      omega (arith, c.loop-intertie.invariant.0, c.pair_word.ensures, sum_to-more c.loop-intertie.intertie (pairs a.state.now a.field a.holder)),
      search rules,
    )
