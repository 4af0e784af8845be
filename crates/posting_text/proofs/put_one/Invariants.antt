-- `put_one` meets its contract: after so many turns the figures of the first rows stand after the number.
use Rattle.base.proofs.Prelude.{◌≡◌}
use Rattle.posting_text.proofs.TextLaws.{figures}
use Rattle.posting_text.proofs.put_one.Given as goal

abbrev pub invariant-loop-row : goal.invariant-loop-row
invariant-loop-row l = l.figures.items ≡ figures l.rows l.row-index l.number
