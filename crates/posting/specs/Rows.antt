-- The rows of a posting, one for each figure of its lines, as include/zankurbe.h has them. A row has 48 numbers: the columns of the
-- first six are the interties, those of the others the holders. Each number is named here once; src/rows.rt has the same for the code.
use Rattle.std.specs.Prelude.{ℕ}

-- of an intertie: limit, outside, E, P, N, unassigned
abbrev pub limit_line : ℕ
limit_line = 0

abbrev pub outside_line : ℕ
outside_line = 1

abbrev pub existing_line : ℕ
existing_line = 2

abbrev pub pre_ra_line : ℕ
pre_ra_line = 3

abbrev pub new_use_line : ℕ
new_use_line = 4

abbrev pub unassigned_line : ℕ
unassigned_line = 5

-- of a holder: load share, Load Share Quantity, reserved, Step 5 share
abbrev pub load_share_line : ℕ
load_share_line = 6

abbrev pub quantity_line : ℕ
quantity_line = 7

abbrev pub reserved_line : ℕ
reserved_line = 8

abbrev pub step5_share_line : ℕ
step5_share_line = 9

-- how many rows there are, and how many numbers in them
abbrev pub posting_rows : ℕ
posting_rows = 10

abbrev pub posting_numbers : ℕ
posting_numbers = 480
