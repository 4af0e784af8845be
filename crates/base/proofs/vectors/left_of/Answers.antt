use Rattle.std.proofs.Common.{◌≡◌, ◌∙◌, ◌-◌, rules}
use Rattle.std.specs.List.{fold}
use Rattle.base.proofs.ListLaws.{fold_less}
use Rattle.base.proofs.vectors.left_of.Goals as goal

pub returns : goal.returns
returns c =
    let chain : c.fold.result ≡ fold (λ left number. left - number) c.args.start c.args.list.now = search rules in
    chain ∙ fold_less _ _
