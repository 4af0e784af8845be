use Rattle.base.proofs.Prelude.{◌*◌, ◌+◌, ap, ◌∙◌, arith, at}
use lib.ListN.{length}
use Rattle.base.specs.Words.{tab}
use Rattle.base.proofs.WordLaws.{length-tab}
use Rattle.state.specs.Layout.{place}
use Rattle.orderly.proofs.RowLaws.{row_is}
use Rattle.orderly.proofs.rows.Rows.row.Goals as goal

pub returns : goal.returns
returns c =
    let row = c.args.row in
    let count = c.args.count in
    let is = row_is c.self.inside.words.now (48 * row) (48 * row + count) count (omega arith) (omega (arith, c.self.invariant.long)) in
    (ap length is ∙ length-tab count _, is ∙ ap (λ s. tab count (λ i. at s (place row i))) c.self.view_is)
