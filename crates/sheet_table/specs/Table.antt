-- The text of a sheet: its sizes, then a line for each record.
use Rattle.std.specs.Prelude.{ℕ, zero, suc, List, [], ◌∷◌, ◌++◌, eqb, length}
use Rattle.base.specs.Choice.{pick}
use Rattle.text.specs.Decimal.{decimal}
use Rattle.text.specs.Lines.{line_of}
use Rattle.sheet_keys.specs.Key.{kind_of, holder_of, intertie_of, rank_of, years_of}
use Rattle.sheet_records.specs.Sheet.{interties, holders, count, key_at, kw_at}
use Rattle.sheet_records.specs.Refusal.{bad_length}
use Rattle.sheet_table.specs.Kinds.{name_of}
use Rattle.sheet_table.specs.Fields.{comma}

-- the name of a kind, or its number where it has none
unfoldable pub label_of : ℕ → List ℕ
label_of kind = pick (eqb (length (name_of kind)) 0) (decimal kind) (name_of kind)

-- kind, holder, intertie, rank, years, kilowatts
unfoldable pub row_of : ℕ → ℕ → List ℕ
row_of key kw = line_of (label_of (kind_of key)) comma (holder_of key ∷ intertie_of key ∷ rank_of key ∷ years_of key ∷ kw ∷ [])

-- the lines of the first k records
unfoldable pub rows_of : List ℕ → ℕ → List ℕ
rows_of sheet zero = []
rows_of sheet (suc k) = rows_of sheet k ++ row_of (key_at sheet k) (kw_at sheet k)

-- I and H
unfoldable pub sizes_line : List ℕ → List ℕ
sizes_line sheet = line_of (decimal (interties sheet)) comma (holders sheet ∷ [])

-- the whole text; none for bytes that refusal 1 refuses
unfoldable pub table_of : List ℕ → List ℕ
table_of sheet = pick (bad_length sheet) [] (sizes_line sheet ++ rows_of sheet (count sheet))
