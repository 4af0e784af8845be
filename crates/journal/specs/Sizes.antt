-- How long a journal is at most; src/sizes.rt has the same.
use Rattle.std.specs.Prelude.{ℕ}

-- its calls
abbrev pub most_calls : ℕ
most_calls = 16384
