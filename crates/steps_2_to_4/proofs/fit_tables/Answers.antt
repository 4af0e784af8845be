-- `fit_tables` meets its contract: the sizes are tested first, since the numbers are read by them.
use Rattle.base.proofs.Prelude.{sym, rules}
use Rattle.base.proofs.ChoiceLaws.{pick_true}
use Rattle.steps_2_to_4.proofs.StepLaws.{fit-by-parts}
use Rattle.steps_2_to_4.proofs.fit_tables.Goals as goal

pub returns-then-read : goal.returns-then-read
returns-then-read c = sym (pick_true _ _ _ c.if-read.true)

pub returns : goal.returns
returns c = fit-by-parts _ _ _ _ _ (search rules) c.if-read.false c.all_within.ensures c.all_within-2.ensures
