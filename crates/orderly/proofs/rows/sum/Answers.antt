use Rattle.std.proofs.Common.{◌≡◌, ◌∙◌, rules}
use Rattle.std.specs.List.{sum}
use Rattle.orderly.proofs.RowLaws.{summed}
use Rattle.orderly.proofs.rows.sum.Goals as goal

pub returns : goal.returns
returns c =
    let chain : c.sum.result ≡ sum c.args.words.now = search rules in
    chain ∙ summed _
