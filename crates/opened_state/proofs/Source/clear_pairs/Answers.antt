-- `clear_pairs` meets its contract: field by field it is the definition (`StoreLaws`).
use Rattle.base.proofs.Prelude.{ap, ◌∙◌, arith, rules}
use Rattle.state_rows.specs.Rows.{fill_pairs}
use Rattle.opened_state.proofs.StoreLaws.{zeros}
use Rattle.opened_state.proofs.Source.clear_pairs.Goals as goal

pub returns : goal.returns
returns c =
    let from = c.args.self in
    let I = from.read.interties in
    let H = from.read.holders in
    zeros _ _ 237 H I c.clear_pairs-5.ensures (search rules) (omega arith) from.small from.few
    ∙ ap (fill_pairs 237 H I (λ h i. 0))
    (zeros _ _ 205 H I c.clear_pairs-4.ensures (search rules) (omega arith) from.small from.few
    ∙ ap (fill_pairs 205 H I (λ h i. 0))
    (zeros _ _ 173 H I c.clear_pairs-3.ensures (search rules) (omega arith) from.small from.few
    ∙ ap (fill_pairs 173 H I (λ h i. 0))
    (zeros _ _ 141 H I c.clear_pairs-2.ensures (search rules) (omega arith) from.small from.few
    ∙ ap (fill_pairs 141 H I (λ h i. 0)) (zeros _ _ 109 H I c.clear_pairs.ensures (search rules) (omega arith) from.small from.few))))
