-- The limits of the rules, each named here once; src/limits.rt has the same numbers for the code.
use Rattle.std.specs.Prelude.{ℕ}

-- the interties of a sheet, at least 1
abbrev pub most_interties : ℕ
most_interties = 48

-- the holders of a sheet, at least 1
abbrev pub most_holders : ℕ
most_holders = 32

-- the records of a sheet
abbrev pub most_records : ℕ
most_records = 1024

-- the pairs of a holder and an intertie
abbrev pub most_pairs : ℕ
most_pairs = 1536

-- the kW of a record, but for a load share, of a call and of a share-out's pool
abbrev pub most_kw : ℕ
most_kw = 20000000

-- a load share, and the weight of a share-out
abbrev pub most_load_share : ℕ
most_load_share = 100000000

-- the claim of a share-out: what as many records as a sheet has can come to
abbrev pub most_claim_kw : ℕ
most_claim_kw = 20480000000

-- the kW of all interties together, which a holder's figures and all unplaced kW stay within
abbrev pub most_total_kw : ℕ
most_total_kw = 960000000

-- what a holder holds when Step 5 begins, and the T of Step 5: existing contracts, Pre-RA and New Use of all interties
abbrev pub most_held_kw : ℕ
most_held_kw = 2880000000

-- the rank of a New Use commitment, at least 1
abbrev pub most_rank : ℕ
most_rank = 255

-- the years of a contract or a commitment, this year counted, and of a lock's term; at least 1
abbrev pub most_years : ℕ
most_years = 30

-- the granted takings of a holder in a week
abbrev pub most_takings : ℕ
most_takings = 2

-- the days of a week
abbrev pub week_days : ℕ
week_days = 7

-- the words that a state has at least
abbrev pub state_words : ℕ
state_words = 16000

-- the words that a grants buffer has at least
abbrev pub grants_words : ℕ
grants_words = 1536

-- the bytes of I, H and K, with which a sheet starts
abbrev pub sheet_header_bytes : ℕ
sheet_header_bytes = 12

-- the bytes of a record
abbrev pub record_bytes : ℕ
record_bytes = 8

-- the bytes of the longest sheet
abbrev pub most_sheet_bytes : ℕ
most_sheet_bytes = 8204
