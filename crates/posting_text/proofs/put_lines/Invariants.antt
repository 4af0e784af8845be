-- `put_lines` meets its contract: after n turns the first n lines stand after the text.
use Rattle.base.proofs.Prelude.{◌≡◌, ◌++◌}
use Rattle.text.specs.Lines.{each}
use Rattle.posting_text.specs.Workers.Columns.{line_by}
use Rattle.posting_text.proofs.put_lines.Given as goal

abbrev pub invariant-loop-number : goal.invariant-loop-number
invariant-loop-number l = l.text.items ≡ l.initial.text.items ++ each l.number (line_by l.letter l.rows)
