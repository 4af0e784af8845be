-- What reading and writing a line leave, step by step.
use Rattle.std.specs.Prelude.{ℕ, ◌+◌, ◌-◌, ◌*◌, ◌≡◌, List, [], ◌∷◌, length, Result, Ok, Err}
use Rattle.sheet_keys.specs.Key.{key_holders, key_interties, key_ranks, key_years}
use Rattle.sheet_records.specs.Sheet.{most_word}
use Rattle.sheet_table.specs.Fields.{with_number, numbers_in, entry_as}
use Rattle.sheet_table.specs.declared.fields.Flaw.{Flaw}
use Rattle.base.specs.Limits.{most_records}
use Rattle.text.specs.Written.{written}
use Rattle.sheet_records.specs.declared.reader.Record.{Record}
use Rattle.sheet_table.specs.declared.faults.Unreadable.{Unreadable}
use Rattle.sheet_table.specs.declared.lines.Records.{Records}

-- the fields of a record after its kind
abbrev pub fields_past_kind : ℕ
fields_past_kind = 5

-- the most bytes of the line of the sizes, of a record's line, and of a whole table
abbrev pub sizes_bytes : ℕ
sizes_bytes = 22

abbrev pub row_bytes : ℕ
row_bytes = 34

abbrev pub table_bytes : ℕ
table_bytes = sizes_bytes + row_bytes * most_records

-- a text from a place on, and the place after it
abbrev pub Put : ℕ → List ℕ → ℕ → List ℕ → List ℕ → Type 0
Put place text next l m = (next ≡ place + length text) × (m ≡ written place text l)

-- the record of a kind, with the fields after it
unfoldable pub entry_of : ℕ → List (List ℕ) → Result Record Flaw
entry_of kind fields =
    entry_as
    (with_number 1 (Ok kind)
    (numbers_in 2 ((key_holders - 1) ∷ (key_interties - 1) ∷ (key_ranks - 1) ∷ (key_years - 1) ∷ most_word ∷ []) fields))

-- the records of a list of keys and one of quantities
unfoldable pub records : List ℕ → List ℕ → List Record
records [] kws = []
records (key ∷ keys) [] = []
records (key ∷ keys) (kw ∷ kws) = record { key = key; kw = kw } ∷ records keys kws

-- records that were read
abbrev pub records_read : Result Records Unreadable → Result (List Record) Unreadable
records_read (Ok read) = Ok (records read.keys.items read.kws.items)
records_read (Err unreadable) = Err unreadable
