-- `run_call` meets its contract: the call that the words say is run on the words of the grants buffer that a closing is lent.
use Rattle.base.proofs.Prelude.{refl, sym, ◌∙◌}
use Rattle.base.proofs.ChoiceLaws.{pick-false}
use Rattle.lists.proofs.EncodedLaws.{ran_said, other-kind}
use Rattle.lists.proofs.running.run_call.Goals as goal

pub returns-in-Close : goal.returns-in-Close
returns-in-Close c = let a = c.args in
    let ran = c.run_one-outcome.ensures in
    ran_said a.words.now a.grants.now a.state.now a.start a.n c.of-call.result c.lent_end-end.result _ c.from.result _ _ a.answers.now _
    c.of-call.ensures c.requires.2 c.lent_end-end.ensures (rw c.in-Close.is refl) (c.from.ensures ∙ ran.0, ran.1, ran.2) c.store_answer.ensures

pub returns-in_default : goal.returns-in_default
returns-in_default c = let a = c.args in
    let ran = c.run_one-outcome.ensures in
    ran_said a.words.now a.grants.now a.state.now a.start a.n c.of-call.result c.lent_end-end.result _ c.from.result _ _ a.answers.now _
    c.of-call.ensures c.requires.2 c.lent_end-end.ensures (sym (pick-false _ _ _ (other-kind c.of-call.result.kind c.in_default.not-Close))) (c.from.ensures ∙ ran.0, ran.1, ran.2) c.store_answer.ensures
