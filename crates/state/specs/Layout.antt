-- Where each word of the year's state stands (docs/RULES.md, "The year's state"): the number of its row or column, `..Row` and
-- `..Column`, its place, `..At`, and what it is in a state, `..Of`. The words stand in rows of 48. A row has a field of the
-- interties or of the holders; a field of the pairs has a row for each holder, 32 in all, and is named by its first.
-- Each number is named here once; src/layout.rt has the same for the code.
use Rattle.std.specs.Prelude.{ℕ, ◌+◌, ◌*◌, List}
use Rattle.base.specs.Words.{at}
use Rattle.base.specs.Sums.{sum_to}

-- the words of a row
abbrev pub row_words : ℕ
row_words = 48

-- the place of a row's word
abbrev pub place : ℕ → ℕ → ℕ
place row column = row_words * row + column

-- What opening writes and no other call: rows 0 to 102.

-- the row of the sizes
abbrev pub sizes_row : ℕ
sizes_row = 0

-- I, the interties, and H, the holders
abbrev pub interties_column : ℕ
interties_column = 0

abbrev pub interties_at : ℕ
interties_at = place sizes_row interties_column

abbrev pub interties : List ℕ → ℕ
interties s = at s interties_at

abbrev pub holders_column : ℕ
holders_column = 1

abbrev pub holders_at : ℕ
holders_at = place sizes_row holders_column

abbrev pub holders : List ℕ → ℕ
holders s = at s holders_at

-- per intertie: its limit
abbrev pub limit_row : ℕ
limit_row = 1

abbrev pub limit_at : ℕ → ℕ
limit_at i = place limit_row i

abbrev pub limit_of : List ℕ → ℕ → ℕ
limit_of s i = at s (limit_at i)

-- per intertie: the outside rights on it
abbrev pub outside_row : ℕ
outside_row = 2

abbrev pub outside_at : ℕ → ℕ
outside_at i = place outside_row i

abbrev pub outside_of : List ℕ → ℕ → ℕ
outside_of s i = at s (outside_at i)

-- per holder: its load share
abbrev pub load_share_row : ℕ
load_share_row = 3

abbrev pub load_share_at : ℕ → ℕ
load_share_at h = place load_share_row h

abbrev pub load_share_of : List ℕ → ℕ → ℕ
load_share_of s h = at s (load_share_at h)

-- per holder: its Step 5 share
abbrev pub step5_share_row : ℕ
step5_share_row = 4

abbrev pub step5_share_at : ℕ → ℕ
step5_share_at h = place step5_share_row h

abbrev pub step5_share_of : List ℕ → ℕ → ℕ
step5_share_of s h = at s (step5_share_at h)

-- per holder: its Step 7 total
abbrev pub step7_total_row : ℕ
step7_total_row = 5

abbrev pub step7_total_at : ℕ → ℕ
step7_total_at h = place step7_total_row h

abbrev pub step7_total_of : List ℕ → ℕ → ℕ
step7_total_of s h = at s (step7_total_at h)

-- per holder: its reserved kW
abbrev pub reserved_row : ℕ
reserved_row = 6

abbrev pub reserved_at : ℕ → ℕ
reserved_at h = place reserved_row h

abbrev pub reserved_of : List ℕ → ℕ → ℕ
reserved_of s h = at s (reserved_at h)

-- per pair of holder h and intertie i: E, existing contracts
abbrev pub existing_row : ℕ
existing_row = 7

abbrev pub existing_at : ℕ → ℕ → ℕ
existing_at h i = place (existing_row + h) i

abbrev pub existing_of : List ℕ → ℕ → ℕ → ℕ
existing_of s h i = at s (existing_at h i)

-- per pair: P, Pre-RA commitments
abbrev pub pre_ra_row : ℕ
pre_ra_row = 39

abbrev pub pre_ra_at : ℕ → ℕ → ℕ
pre_ra_at h i = place (pre_ra_row + h) i

abbrev pub pre_ra_of : List ℕ → ℕ → ℕ → ℕ
pre_ra_of s h i = at s (pre_ra_at h i)

-- per pair: N, New Use commitments
abbrev pub new_use_row : ℕ
new_use_row = 71

abbrev pub new_use_at : ℕ → ℕ → ℕ
new_use_at h i = place (new_use_row + h) i

abbrev pub new_use_of : List ℕ → ℕ → ℕ → ℕ
new_use_of s h i = at s (new_use_at h i)

-- What calls write: the rows from 103 on.

-- the row of the year, the first of them
abbrev pub year_row : ℕ
year_row = 103

abbrev pub first_written : ℕ
first_written = year_row

-- the stage
abbrev pub stage_column : ℕ
stage_column = 0

abbrev pub stage_at : ℕ
stage_at = place year_row stage_column

abbrev pub stage_of : List ℕ → ℕ
stage_of s = at s stage_at

-- the last taking's day
abbrev pub last_day_column : ℕ
last_day_column = 1

abbrev pub last_day_at : ℕ
last_day_at = place year_row last_day_column

abbrev pub last_day_of : List ℕ → ℕ
last_day_of s = at s last_day_at

-- per intertie: its unassigned kW
abbrev pub unassigned_row : ℕ
unassigned_row = 104

abbrev pub unassigned_at : ℕ → ℕ
unassigned_at i = place unassigned_row i

abbrev pub unassigned_of : List ℕ → ℕ → ℕ
unassigned_of s i = at s (unassigned_at i)

-- per holder: its unplaced kW
abbrev pub unplaced_row : ℕ
unplaced_row = 105

abbrev pub unplaced_at : ℕ → ℕ
unplaced_at h = place unplaced_row h

abbrev pub unplaced_of : List ℕ → ℕ → ℕ
unplaced_of s h = at s (unplaced_at h)

-- per holder: its sellers, bit j for holder j
abbrev pub sellers_row : ℕ
sellers_row = 106

abbrev pub sellers_at : ℕ → ℕ
sellers_at h = place sellers_row h

abbrev pub sellers_of : List ℕ → ℕ → ℕ
sellers_of s h = at s (sellers_at h)

-- per holder: the week of its last taking
abbrev pub last_week_row : ℕ
last_week_row = 107

abbrev pub last_week_at : ℕ → ℕ
last_week_at h = place last_week_row h

abbrev pub last_week_of : List ℕ → ℕ → ℕ
last_week_of s h = at s (last_week_at h)

-- per holder: its takings in that week
abbrev pub takings_row : ℕ
takings_row = 108

abbrev pub takings_at : ℕ → ℕ
takings_at h = place takings_row h

abbrev pub takings_of : List ℕ → ℕ → ℕ
takings_of s h = at s (takings_at h)

-- per pair: placed kW
abbrev pub placed_row : ℕ
placed_row = 109

abbrev pub placed_at : ℕ → ℕ → ℕ
placed_at h i = place (placed_row + h) i

abbrev pub placed_of : List ℕ → ℕ → ℕ → ℕ
placed_of s h i = at s (placed_at h i)

-- per pair: taken kW
abbrev pub taken_row : ℕ
taken_row = 141

abbrev pub taken_at : ℕ → ℕ → ℕ
taken_at h i = place (taken_row + h) i

abbrev pub taken_of : List ℕ → ℕ → ℕ → ℕ
taken_of s h i = at s (taken_at h i)

-- per pair: locked kW
abbrev pub locked_row : ℕ
locked_row = 173

abbrev pub locked_at : ℕ → ℕ → ℕ
locked_at h i = place (locked_row + h) i

abbrev pub locked_of : List ℕ → ℕ → ℕ → ℕ
locked_of s h i = at s (locked_at h i)

-- per pair: the lock term
abbrev pub term_row : ℕ
term_row = 205

abbrev pub term_at : ℕ → ℕ → ℕ
term_at h i = place (term_row + h) i

abbrev pub term_of : List ℕ → ℕ → ℕ → ℕ
term_of s h i = at s (term_at h i)

-- per pair: pending kW
abbrev pub pending_row : ℕ
pending_row = 237

abbrev pub pending_at : ℕ → ℕ → ℕ
pending_at h i = place (pending_row + h) i

abbrev pub pending_of : List ℕ → ℕ → ℕ → ℕ
pending_of s h i = at s (pending_at h i)

-- a field of the pairs that is kept free, and the last row of it
abbrev pub free_row : ℕ
free_row = 269

abbrev pub last_row : ℕ
last_row = 300

-- the rows that a state of 16,000 words has whole
abbrev pub whole_rows : ℕ
whole_rows = 333

-- Sums of a field of the pairs.

-- over the holders, on intertie i
abbrev pub on_intertie : (List ℕ → ℕ → ℕ → ℕ) → List ℕ → ℕ → ℕ
on_intertie field s i = sum_to (holders s) (λ h. field s h i)

-- over the interties, of holder h
abbrev pub of_holder : (List ℕ → ℕ → ℕ → ℕ) → List ℕ → ℕ → ℕ
of_holder field s h = sum_to (interties s) (λ i. field s h i)
