-- The sheet read record by record, key and quantity together.
use Rattle.std.specs.Prelude.{ℕ, ◌+◌, ◌-◌, ◌*◌, ◌||◌, not, List, [], ltb, leb, eqb, length, map, Option, Some, None}
use Rattle.std.specs.List.{range_with_len}
use Rattle.base.specs.Choice.{pick}
use Rattle.base.specs.Limits.{sheet_header_bytes, most_records}
use Rattle.sheet_records.specs.Sheet.{word_size, size_of, word_at, count, key_at, kw_at}
use Rattle.sheet_records.specs.Refusal.{bad_length}
use Rattle.sheet_records.specs.declared.reader.Record.{Record}

-- record k of a sheet
abbrev pub record_at : List ℕ → ℕ → Record
record_at s k = record { key = key_at s k; kw = kw_at s k }

-- record k, or none past the last; a sheet that refusal 1 refuses has no records
unfoldable pub read_at : List ℕ → ℕ → Option Record
read_at s k = pick (bad_length s || leb (count s) k) None (Some (record_at s k))

-- all records, in their order
unfoldable pub records_of : List ℕ → List Record
records_of s = pick (bad_length s) [] (map (record_at s) (range_with_len 0 (count s)))

-- record k of the bytes of a sheet of n records
abbrev pub record_of : List ℕ → (n k : ℕ) → Record
record_of s n k =
    record {
      key = word_at s (sheet_header_bytes + word_size * k);
      kw = word_at s (sheet_header_bytes + word_size * n + word_size * k);
    }

-- the same, or none past the last; bytes of another length have none
unfoldable pub read_of : List ℕ → (n k : ℕ) → Option Record
read_of s n k = pick (ltb most_records n || not (eqb (length s) (size_of n)) || leb n k) None (Some (record_of s n k))

-- those from record k on
unfoldable pub records_from : List ℕ → (n k : ℕ) → List Record
records_from s n k = pick (ltb most_records n || not (eqb (length s) (size_of n))) [] (map (record_of s n) (range_with_len k (n - k)))
