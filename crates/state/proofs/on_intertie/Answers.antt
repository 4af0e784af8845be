use Rattle.base.proofs.Prelude.{sym, ◌∙◌, rules}
use Rattle.base.proofs.SumLaws.{sum_to-zero, sum_more}
use Rattle.state.proofs.on_intertie.Goals as goal

pub loop-holder-init : goal.loop-holder-init
loop-holder-init c = (sym (sum_to-zero _), search rules)

pub loop-holder-preserved : goal.loop-holder-preserved
loop-holder-preserved c = (sum_more _ _ _ _ c.loop-holder.invariant.0 (c.from-sum.ensures ∙ c.pair_word-word.ensures), search rules)
