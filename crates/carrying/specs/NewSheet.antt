-- A sheet of I interties and H holders with given records.
use Rattle.std.specs.Prelude.{ℕ, List, map}
use Rattle.sheet_records.specs.Bytes.{sheet_bytes}
use Rattle.carrying.specs.NextRecord.{NextRecord, key_of, quantity_of}

-- its bytes
unfoldable pub new_sheet : ℕ → ℕ → List NextRecord → List ℕ
new_sheet I H records = sheet_bytes I H (map key_of records) (map quantity_of records)
