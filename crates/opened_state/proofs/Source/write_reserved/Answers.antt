-- `write_reserved` meets its contract: each table is stored whole (`StoreLaws`).
use Rattle.base.proofs.Prelude.{ap, ◌∙◌, arith, rules}
use Rattle.state_rows.specs.Rows.{fill_pairs}
use Rattle.opened_state.specs.Write.{pair_low}
use Rattle.opened_state.proofs.StoreLaws.{stored-pairs}
use Rattle.opened_state.proofs.Source.write_reserved.Goals as goal

pub returns : goal.returns
returns c =
    let from = c.args.self in
    let pre-ra = from.figures.now.pre_ra in
    let new-use = from.figures.now.new_use in
    let I = from.read.interties in
    let H = from.read.holders in
    stored-pairs _ _ new-use 71 H I c.store_pairs-2.ensures (search rules) (omega arith) from.small from.few (omega arith)
    ∙ ap (fill_pairs 71 H I (pair_low new-use))
    (stored-pairs _ _ pre-ra 39 H I c.store_pairs.ensures (search rules) (omega arith) from.small from.few (omega arith)
    ∙ ap (fill_pairs 39 H I (pair_low pre-ra)) c.write_existing.ensures)
