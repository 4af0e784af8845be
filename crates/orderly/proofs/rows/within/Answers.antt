use Rattle.std.proofs.Common.{◌∙◌, ◌&&◌, nat_le, rules}
use Rattle.std.proofs.lemmas.Iterator.{YieldsList-from_slice}
use Rattle.std.proofs.lemmas.Iterator.Consumers.{fold_from_yields_List}
use Rattle.base.proofs.Rules.{tests}
use Rattle.orderly.proofs.RowLaws.{all_within}
use Rattle.orderly.proofs.rows.within.Goals as goal

pub returns : goal.returns
returns c =
    fold_from_yields_List _ (λ within word. within && nat_le word c.args.most) _ _ c.fold.ensures.ran (YieldsList-from_slice c.args.words.now cc)
    (λ a x b q k. search (rules, tests))
    ∙ all_within _ _
