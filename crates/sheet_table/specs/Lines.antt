-- The lines of a text: the bytes of the sheet that they say, or the first fault.
use Rattle.std.specs.Prelude.{ℕ, suc, ◌-◌, List, [], ◌∷◌, map, eqb, leb, length, take, drop, get_or, Option, Some, None, Result, Ok, Err}
use Rattle.base.specs.Choice.{pick}
use Rattle.base.specs.Words.{at}
use Rattle.text.specs.Pieces.{fields}
use Rattle.text.specs.Lines.{line_end}
use Rattle.base.specs.Limits.{most_records}
use Rattle.sheet_records.specs.Bytes.{sheet_bytes}
use Rattle.sheet_table.specs.Fields.{comma, sizes_in, entry_in}
use Rattle.sheet_table.specs.declared.faults.Fault.TheVariants.{TooManyRecords}
use Rattle.sheet_table.specs.declared.faults.Unreadable.{Unreadable}
use Rattle.sheet_table.specs.declared.fields.Flaw.{Flaw}
use Rattle.sheet_table.specs.declared.fields.Sizes.{Sizes}
use Rattle.sheet_records.specs.declared.reader.Record.{Record}

abbrev pub carriage_return : ℕ
carriage_return = 13

-- a line without one carriage return at its end
abbrev pub bare : List ℕ → List ℕ
bare line = pick (eqb (at line (length line - 1)) carriage_return) (take (length line - 1) line) line

-- the lines of a text
unfoldable pub lines_of : List ℕ → List (List ℕ)
lines_of text = map bare (fields line_end text)

-- a line's flaw by the number of the line
abbrev pub in_line : ℕ → Flaw → Unreadable
in_line number flaw = record { line = number; column = flaw.column; fault = flaw.fault }

-- the record of a line that is not empty
abbrev pub entry_on : ℕ → Result Record Flaw → Result (Option Record) Unreadable
entry_on number (Ok entry) = Ok (Some entry)
entry_on number (Err flaw) = Err (in_line number flaw)

-- what the line of a number says after so many records: an empty line says nothing
unfoldable pub entry_of : (number count : ℕ) → List ℕ → Result (Option Record) Unreadable
entry_of number count line =
    pick (eqb (length line) 0) (Ok None)
    (pick (leb most_records count) (Err (record { line = number; column = 1; fault = TooManyRecords }))
    (entry_on number (entry_in (fields comma line))))

-- a record before those of the lines after it; or the first fault
abbrev pub with_entry : Record → Result (List Record) Unreadable → Result (List Record) Unreadable
with_entry entry (Ok entries) = Ok (entry ∷ entries)
with_entry entry (Err unreadable) = Err unreadable

-- the records of a line and of those after it, which are `rest` past a line that says nothing and `more` past a record
abbrev pub past_line : Result (Option Record) Unreadable → (rest more : Result (List Record) Unreadable) → Result (List Record) Unreadable
past_line (Ok None) rest more = rest
past_line (Ok (Some entry)) rest more = with_entry entry more
past_line (Err unreadable) rest more = Err unreadable

-- the records of lines from a number on, after so many records
unfoldable pub entries_of : (number count : ℕ) → List (List ℕ) → Result (List Record) Unreadable
entries_of number count [] = Ok []
entries_of number count (line ∷ lines) =
    past_line (entry_of number count line) (entries_of (suc number) count lines) (entries_of (suc number) (suc count) lines)

-- the sizes of a first line
abbrev pub sizes_on : Result Sizes Flaw → Result Sizes Unreadable
sizes_on (Ok sizes) = Ok sizes
sizes_on (Err flaw) = Err (in_line 1 flaw)

-- the fields of the first line, and the lines after it
abbrev pub first_fields : List ℕ → List (List ℕ)
first_fields text = fields comma (get_or (lines_of text) 0 [])

abbrev pub later_lines : List ℕ → List (List ℕ)
later_lines text = drop 1 (lines_of text)

-- the bytes of a sheet of these sizes and records
abbrev pub sheet_with : Result Sizes Unreadable → Result (List Record) Unreadable → Result (List ℕ) Unreadable
sheet_with (Ok sizes) (Ok entries) = Ok (sheet_bytes sizes.interties sizes.holders (map (λ e. e.key) entries) (map (λ e. e.kw) entries))
sheet_with (Ok sizes) (Err unreadable) = Err unreadable
sheet_with (Err unreadable) later = Err unreadable

-- the sheet that a text says: its first line, then the others
unfoldable pub sheet_of : List ℕ → Result (List ℕ) Unreadable
sheet_of text = sheet_with (sizes_on (sizes_in (first_fields text))) (entries_of 2 0 (later_lines text))
