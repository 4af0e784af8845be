use Rattle.base.proofs.Prelude.{arith}
use Rattle.text.proofs.EachLaws.{each-none, each_turn}
use Rattle.posting_text.specs.Workers.Columns.{line_by}
use Rattle.posting_text.proofs.TextLaws.{rows-few}
use Rattle.posting_text.proofs.put_lines.Goals as goal

pub loop-number-init : goal.loop-number-init
loop-number-init c = each-none _ _

pub loop-number-preserved : goal.loop-number-preserved
loop-number-preserved c =
    let a = c.args in
    each_turn 149 (line_by a.letter a.rows.now) (rows-few a.rows.now a.letter (omega arith)) _ _ _ _ _ (omega arith) c.loop-number.invariant c.put_one.ensures
