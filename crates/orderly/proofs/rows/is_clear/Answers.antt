use Rattle.std.proofs.Common.{◌≡◌, ap, ◌∙◌, eqb, bit_or, rules}
use Rattle.std.specs.List.{fold}
use Rattle.orderly.proofs.RowLaws.{all-clear}
use Rattle.orderly.proofs.rows.is_clear.Goals as goal

pub returns : goal.returns
returns c =
    let chain : c.fold.result ≡ fold (λ bits word. bit_or bits word) 0 c.args.words.now = search rules in
    ap (λ bits. eqb bits 0) chain ∙ all-clear _
