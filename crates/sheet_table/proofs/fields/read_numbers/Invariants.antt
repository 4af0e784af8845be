-- `read_numbers` meets its contract: what is left of the fields decides what is left of the numbers.
use Rattle.base.proofs.Prelude.{◌+◌, ◌≡◌, length, take, drop}
use Rattle.text.specs.Left.{pieces_left}
use Rattle.sheet_table.specs.Fields.{numbers_in}
use Rattle.sheet_table.proofs.FieldLaws.{after}
use Rattle.sheet_table.proofs.fields.read_numbers.Given as goal

abbrev pub invariant-loop-i : goal.invariant-loop-i
invariant-loop-i g l =
    (length l.limits ≡ g.row.N)
    × (length l.numbers ≡ g.row.N)
    × (numbers_in l.column l.limits (pieces_left l.initial.fields) ≡ after (take l.i l.numbers) (numbers_in (l.column + l.i) (drop l.i l.limits) (pieces_left l.fields)))
