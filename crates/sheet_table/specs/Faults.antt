-- The sentence that says what is wrong with a table.
use Rattle.std.specs.Prelude.{ℕ, not, ◌&&◌, List, ◌++◌, eqb, decimal, Option, Some, None}
use Rattle.base.specs.Choice.{pick}
use Rattle.text.specs.Ascii.{ascii}
use Rattle.sheet_table.specs.declared.faults.Fault.{Fault}
use Rattle.sheet_table.specs.declared.faults.Fault.TheVariants.{NotNumber, TooLarge, WrongFields, TooManyRecords}
use Rattle.sheet_table.specs.declared.faults.Unreadable.{Unreadable}

-- the name of a column of the first line, and of one of a record; none past the last
unfoldable pub size_name : ℕ → Option (List ℕ)
size_name column = pick (eqb column 1) (Some (ascii "interties")) (pick (eqb column 2) (Some (ascii "holders")) None)

unfoldable pub field_name : ℕ → Option (List ℕ)
field_name column =
    pick (eqb column 1) (Some (ascii "kind"))
    (pick (eqb column 2) (Some (ascii "holder"))
    (pick (eqb column 3) (Some (ascii "intertie"))
    (pick (eqb column 4) (Some (ascii "rank"))
    (pick (eqb column 5) (Some (ascii "years"))
    (pick (eqb column 6) (Some (ascii "kw")) None)))))

-- the name of a column of a line
abbrev pub column_name : ℕ → ℕ → Option (List ℕ)
column_name line column = pick (eqb line 1) (size_name column) (field_name column)

-- what a fault means in a column of a line
abbrev pub fault_text : ℕ → ℕ → Fault → List ℕ
fault_text line column NotNumber = pick (not (eqb line 1) && eqb column 1) (ascii "not a kind") (ascii "not a number")
fault_text line column TooLarge = ascii "too large"
fault_text line column WrongFields = ascii "missing"
fault_text line column TooManyRecords = ascii "over 1,024 records"

-- what is said after a column's number: its name and the fault, or that there is no such column
abbrev pub named_fault : Option (List ℕ) → List ℕ → List ℕ
named_fault (Some name) fault = ascii " (" ++ (name ++ (ascii "): " ++ fault))
named_fault None fault = ascii ": too many fields"

-- where the first fault of a text is, the numbers in the library's decimal digits, and what it is
abbrev pub unreadable_text : Unreadable → List ℕ
unreadable_text unreadable =
    let line = unreadable.line in
    let column = unreadable.column in
    let column_said = named_fault (column_name line column) (fault_text line column unreadable.fault) in
    ascii "line " ++ (decimal line ++ (ascii ", column " ++ (decimal column ++ column_said)))
