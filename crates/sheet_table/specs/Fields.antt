-- The fields of a line: what they say, or what is at fault with them.
use Rattle.std.specs.Prelude.{ℕ, suc, ◌-◌, List, [], ◌∷◌, ltb, get_or, drop, Option, Some, None, Result, Ok, Err}
use Prim.Native.Char.{code}
use Rattle.base.specs.Choice.{pick}
use Rattle.base.specs.Kind.{number_of as kind_number}
use Rattle.base.specs.Words.{at}
use Rattle.base.specs.declared.kinds.Kind.{Kind}
use Rattle.text.specs.Decimal.{number_of}
use Rattle.text.specs.declared.reading.NumberError.{NumberError}
use Rattle.text.specs.declared.reading.NumberError.TheVariants.{Over, Bad}
use Rattle.sheet_keys.specs.Key.{key_kinds, key_holders, key_interties, key_ranks, key_years, key_from}
use Rattle.sheet_records.specs.Sheet.{most_word}
use Rattle.sheet_table.specs.Kinds.{named}
use Rattle.sheet_table.specs.declared.faults.Fault.{Fault}
use Rattle.sheet_table.specs.declared.faults.Fault.TheVariants.{NotNumber, TooLarge, WrongFields}
use Rattle.sheet_table.specs.declared.fields.Flaw.{Flaw}
use Rattle.sheet_table.specs.declared.fields.Sizes.{Sizes}
use Rattle.sheet_records.specs.declared.reader.Record.{Record}

-- what stands between fields
abbrev pub comma : ℕ
comma = code ","

-- what is wrong with a field that is no number
abbrev pub fault_of : NumberError → Fault
fault_of Over = TooLarge
fault_of Bad = NotNumber

-- a number where at most so much may stand
abbrev pub within : ℕ → Result ℕ NumberError → Result ℕ Fault
within most (Ok n) = pick (ltb most n) (Err TooLarge) (Ok n)
within most (Err error) = Err (fault_of error)

-- a kind, by its name or by its number
abbrev pub kind_or : Option Kind → Result ℕ NumberError → Result ℕ NumberError
kind_or (Some kind) number = Ok (kind_number kind)
kind_or None number = number

unfoldable pub kind_in : List ℕ → Result ℕ NumberError
kind_in field = kind_or (named field) (number_of field)

-- a fault in a column
abbrev pub flaw : ℕ → Fault → Flaw
flaw column fault = record { column = column; fault = fault }

-- the number of a column, before those of the columns after it; or the first fault
abbrev pub with_number : ℕ → Result ℕ Fault → Result (List ℕ) Flaw → Result (List ℕ) Flaw
with_number column (Err fault) later = Err (flaw column fault)
with_number column (Ok n) (Ok numbers) = Ok (n ∷ numbers)
with_number column (Ok n) (Err later) = Err later

-- the numbers of fields from a column on, each at most so much
unfoldable pub numbers_in : ℕ → List ℕ → List (List ℕ) → Result (List ℕ) Flaw
numbers_in column [] [] = Ok []
numbers_in column [] (field ∷ fields) = Err (flaw column WrongFields)
numbers_in column (most ∷ mosts) [] = Err (flaw column WrongFields)
numbers_in column (most ∷ mosts) (field ∷ fields) =
    with_number column (within most (number_of field)) (numbers_in (suc column) mosts fields)

-- the first line: I and H
abbrev pub sizes_as : Result (List ℕ) Flaw → Result Sizes Flaw
sizes_as (Ok n) = Ok (record { interties = at n 0; holders = at n 1 })
sizes_as (Err first) = Err first

unfoldable pub sizes_in : List (List ℕ) → Result Sizes Flaw
sizes_in fields = sizes_as (numbers_in 1 (most_word ∷ most_word ∷ []) fields)

-- a record: kind, holder, intertie, rank and years within their widths, kilowatts
abbrev pub entry_as : Result (List ℕ) Flaw → Result Record Flaw
entry_as (Ok n) = Ok (record { key = key_from (at n 0) (at n 1) (at n 2) (at n 3) (at n 4); kw = at n 5 })
entry_as (Err first) = Err first

unfoldable pub entry_in : List (List ℕ) → Result Record Flaw
entry_in fields =
    entry_as
    (with_number 1 (within (key_kinds - 1) (kind_in (get_or fields 0 [])))
    (numbers_in 2 ((key_holders - 1) ∷ (key_interties - 1) ∷ (key_ranks - 1) ∷ (key_years - 1) ∷ most_word ∷ []) (drop 1 fields)))
