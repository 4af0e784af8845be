-- How many bytes were read.
use Rattle.std.specs.Prelude.{ℕ, Result, Ok, Err}
use Rattle.input.specs.declared.ReadError.{ReadError}

-- all, or those before a read that failed
abbrev pub read_count : Result ℕ ReadError → ℕ
read_count (Ok count) = count
read_count (Err failed) = failed.count
