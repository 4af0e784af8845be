-- The numbers of the refusals, each named here once; src/refusals.rt has the same. A call is refused
-- with the lowest that applies, and 0 is no refusal.
use Rattle.std.specs.Prelude.{ℕ}

-- a sheet under 12 bytes, K over 1,024, or a length that is not 12 + 8·K
abbrev pub sheet_length_refused : ℕ
sheet_length_refused = 1

-- I or H out of range
abbrev pub sizes_refused : ℕ
sizes_refused = 2

-- the records break a rule of the sheet
abbrev pub records_refused : ℕ
records_refused = 3

-- outside rights and existing contracts above a limit
abbrev pub above_limit_refused : ℕ
above_limit_refused = 4

-- lent memory too short, or lists of a share-out that do not match
abbrev pub room_refused : ℕ
room_refused = 5

-- the state is not orderly
abbrev pub not_orderly_refused : ℕ
not_orderly_refused = 6

-- the call is not of this stage
abbrev pub stage_refused : ℕ
stage_refused = 7

-- no such holder or intertie, or both parties one
abbrev pub no_such_refused : ℕ
no_such_refused = 8

-- kW, term, or a number of a share-out out of range
abbrev pub range_refused : ℕ
range_refused = 9

-- more than unplaced, placed, or placed above locked
abbrev pub too_much_refused : ℕ
too_much_refused = 10

-- a day before the last taking's, or a third taking in the week
abbrev pub day_refused : ℕ
day_refused = 11

-- a taking with nothing unassigned
abbrev pub none_left_refused : ℕ
none_left_refused = 12

-- the pair has a lock, or three quarters are passed
abbrev pub lock_refused : ℕ
lock_refused = 13

-- carry: other sizes than the state's, too many records, a rank over 255, or too short an output
abbrev pub carry_refused : ℕ
carry_refused = 14
