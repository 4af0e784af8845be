-- `check` meets its contract: the lines that are left decide the answer.
use Rattle.base.proofs.Prelude.{◌+◌, ◌≤◌, ◌≡◌, length}
use Rattle.std.specs.Iterator.Adapters.{enumerate_source, enumerate_count}
use Rattle.text.specs.Left.{pieces_left}
use Rattle.journal.specs.Journals.{lines_of, answer_from}
use Rattle.journal.proofs.lines.check.Given as goal

abbrev pub invariant-loop-place : goal.invariant-loop-place
invariant-loop-place l =
    let place = enumerate_count l.place-iterator in
    let left = pieces_left (enumerate_source l.place-iterator) in
    (l.count ≤ place) × (place + length left ≤ length l.text + 1) × (answer_from l.room 1 0 (lines_of l.text) ≡ answer_from l.room (place + 1) l.count left)
