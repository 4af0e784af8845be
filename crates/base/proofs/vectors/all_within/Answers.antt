use Rattle.std.proofs.Common.{◌∙◌, nat_le, rules}
use Rattle.std.proofs.lemmas.Iterator.{YieldsList-from_slice}
use Rattle.std.proofs.lemmas.Iterator.Search.{all_from_yields_List}
use Rattle.base.proofs.Rules.{tests}
use Rattle.base.proofs.ListLaws.{all_places}
use Rattle.base.proofs.vectors.all_within.Goals as goal

pub returns : goal.returns
returns c =
    all_from_yields_List (λ number. nat_le number c.args.most) _ _ c.all.result c.all.ensures.ran (YieldsList-from_slice c.args.list.now cc) (λ x b q k. search (rules, tests))
    ∙ all_places _ _
