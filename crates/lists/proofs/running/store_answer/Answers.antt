-- `store_answer` meets its contract: the three words are stored.
use Rattle.base.proofs.Prelude.{◌*◌, arith, ap, ◌∷◌, [], ◌∙◌}
use Rattle.lists.proofs.AnswerLaws.{three-stored}
use Rattle.lists.proofs.running.store_answer.Goals as goal

pub returns : goal.returns
returns c =
    three-stored (3 * c.args.n) _ _ _ _ _ _ (c.copy_from_slice.ensures.after ∙ ap (λ n. n ∷ c.args.answer.kw ∷ c.args.answer.passes ∷ []) c.from.ensures)
    (omega arith) (omega (arith, c.requires))
