use Rattle.std.proofs.Common.{◌≡◌, ◌∙◌, ◌+◌, ◌%◌, ◌^◌, rules}
use Rattle.std.specs.List.{fold}
use Rattle.base.proofs.ListLaws.{fold_wraps}
use Rattle.base.proofs.vectors.sum_of.Goals as goal

pub returns : goal.returns
returns c =
    let chain : c.fold.result ≡ fold (λ sum number. (sum + number) % 2 ^ 64) 0 c.args.list.now = search rules in
    chain ∙ fold_wraps _
