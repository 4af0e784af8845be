-- The stages of the year, each named here once; src/stages.rt has the same.
use Rattle.std.specs.Prelude.{ℕ}

-- trading (Step 8)
abbrev pub trading_stage : ℕ
trading_stage = 1

-- first requests (Step 9)
abbrev pub first_requests_stage : ℕ
first_requests_stage = 2

-- second requests (Step 11)
abbrev pub second_requests_stage : ℕ
second_requests_stage = 3

-- open (Step 13)
abbrev pub open_stage : ℕ
open_stage = 4
