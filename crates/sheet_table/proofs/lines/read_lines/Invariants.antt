-- `read_lines` meets its contract: what is left of the lines decides, and the records read so far stand.
use Rattle.base.proofs.Prelude.{◌+◌, ◌^◌, ◌≤◌, ◌≡◌, length}
use Rattle.std.specs.Prelude.{map}
use Rattle.std.specs.Iterator.Adapters.{enumerate_source, enumerate_count}
use Rattle.text.specs.Left.{pieces_left}
use Rattle.sheet_table.specs.Lines.{bare, entries_of}
use Rattle.sheet_table.specs.Workers.Steps.{records}
use Rattle.sheet_table.proofs.ReadingLaws.{before}
use Rattle.sheet_table.proofs.lines.read_lines.Given as goal

abbrev pub invariant-loop-place : goal.invariant-loop-place
invariant-loop-place l =
    let place = enumerate_count l.place-iterator in
    let left = pieces_left (enumerate_source l.place-iterator) in
    (length l.kws.items ≡ length l.keys.items)
    × (place + length left ≤ 2 ^ 63)
    × (entries_of 2 0 (map bare (pieces_left l.fn.lines)) ≡ before (records l.keys.items l.kws.items) (entries_of (place + 2) (length l.keys.items) (map bare left)))
