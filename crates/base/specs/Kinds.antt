-- The kinds of record, each named here once; src/kinds.rt has the same.
use Rattle.std.specs.Prelude.{ℕ}

-- limit (Maximum Import Capability) of an intertie
abbrev pub limit_kind : ℕ
limit_kind = 1

-- outside right on an intertie
abbrev pub outside_right_kind : ℕ
outside_right_kind = 2

-- load share of a holder
abbrev pub load_share_kind : ℕ
load_share_kind = 3

-- existing contract: holder, intertie, years
abbrev pub existing_contract_kind : ℕ
existing_contract_kind = 4

-- Pre-RA commitment: holder, intertie, years
abbrev pub pre_ra_kind : ℕ
pre_ra_kind = 5

-- New Use commitment: holder, intertie, years, rank
abbrev pub new_use_kind : ℕ
new_use_kind = 6
