-- `put_calls` meets its contract: the words of the lines that are left are still to be written.
use Rattle.base.proofs.Prelude.{◌+◌, ◌≤◌, ◌≡◌, length}
use Rattle.text.specs.Left.{pieces_left}
use Rattle.text.specs.Written.{written}
use Rattle.journal.specs.Journals.{lines_of, encoded_calls}
use Rattle.journal.proofs.lines.put_calls.Given as goal

abbrev pub invariant-loop-line : goal.invariant-loop-line
invariant-loop-line l =
    (length l.calls ≡ length l.initial.calls)
    × (l.place + length (encoded_calls (pieces_left l.line-iterator)) ≤ length l.initial.calls)
    × (written 0 (encoded_calls (lines_of l.text)) l.initial.calls ≡ written l.place (encoded_calls (pieces_left l.line-iterator)) l.calls)
