-- Refusals 1 to 4, those of a sheet (docs/RULES.md, "The sheet").
use Rattle.std.specs.Prelude.{ℕ, ◌+◌, ◌≤◌, ◌≡◌, Bool, false, ◌&&◌, ◌||◌, not, List, ltb, leb, eqb, length}
use Rattle.base.specs.Choice.{pick}
use Rattle.base.specs.Kinds.{limit_kind, outside_right_kind, load_share_kind, existing_contract_kind, pre_ra_kind, new_use_kind}
use Rattle.base.specs.Limits.{sheet_header_bytes, most_records, most_interties, most_holders, most_years, most_kw, most_load_share}
use Rattle.base.specs.Refusals.{sheet_length_refused, sizes_refused, records_refused, above_limit_refused}
use Rattle.base.specs.Sums.{all_to}
use Rattle.sheet_keys.specs.Key.{key_ranks, kind_of, holder_of, intertie_of, rank_of, years_of}
use Rattle.sheet_records.specs.Sheet.{size_of, interties, holders, count, key_at, kw_at, how_many}
use Rattle.sheet_records.specs.Sheet.{is_limit, is_load_share, is_new_use, limit, outside, existing_on}

-- whether x is one of a to b
abbrev pub within : ℕ → ℕ → ℕ → Bool
within a b x = leb a x && leb x b

-- refusal 1: under 12 bytes, K over 1,024, or a length that is not 12 + 8·K
unfoldable pub bad_length : List ℕ → Bool
bad_length s = ltb (length s) sheet_header_bytes || ltb most_records (count s) || not (eqb (length s) (size_of (count s)))

-- a sheet of n records that refusal 1 lets pass
pub record Whole (s : List ℕ) (n : ℕ) : Type 0 where
  pub passes : bad_length s ≡ false
  pub records : n ≡ count s
  pub few : n ≤ most_records
  pub exact : length s ≡ size_of n

-- refusal 2: I not 1 to 48, or H not 1 to 32
unfoldable pub bad_sizes : List ℕ → Bool
bad_sizes s = not (within 1 most_interties (interties s) && within 1 most_holders (holders s))

-- a field that a kind names says some holder or intertie of a sheet of I interties and H holders, some rank, some years;
-- one that it does not name is 0
abbrev pub some_holder : ℕ → ℕ → Bool
some_holder H key = ltb (holder_of key) H

abbrev pub no_holder : ℕ → Bool
no_holder key = eqb (holder_of key) 0

abbrev pub some_intertie : ℕ → ℕ → Bool
some_intertie I key = ltb (intertie_of key) I

abbrev pub no_intertie : ℕ → Bool
no_intertie key = eqb (intertie_of key) 0

abbrev pub some_rank : ℕ → Bool
some_rank key = leb 1 (rank_of key)

abbrev pub no_rank : ℕ → Bool
no_rank key = eqb (rank_of key) 0

abbrev pub some_years : ℕ → Bool
some_years key = within 1 most_years (years_of key)

abbrev pub no_years : ℕ → Bool
no_years key = eqb (years_of key) 0

-- the quantity of a kind that may repeat
abbrev pub repeatable : ℕ → Bool
repeatable kw = within 1 most_kw kw

-- 1, limit: intertie; 0 to 20,000,000
abbrev pub limit_stands : ℕ → ℕ → ℕ → Bool
limit_stands I key kw = no_holder key && some_intertie I key && no_rank key && no_years key && leb kw most_kw

-- 2, outside right: intertie
abbrev pub outside_stands : ℕ → ℕ → ℕ → Bool
outside_stands I key kw = no_holder key && some_intertie I key && no_rank key && no_years key && repeatable kw

-- 3, load share: holder; 0 to 100,000,000
abbrev pub load_share_stands : ℕ → ℕ → ℕ → Bool
load_share_stands H key kw = some_holder H key && no_intertie key && no_rank key && no_years key && leb kw most_load_share

-- 4 and 5, existing contract and Pre-RA commitment: holder, intertie, years
abbrev pub contract_stands : ℕ → ℕ → ℕ → ℕ → Bool
contract_stands I H key kw = some_holder H key && some_intertie I key && no_rank key && some_years key && repeatable kw

-- 6, New Use commitment: holder, intertie, years, rank
abbrev pub new_use_stands : ℕ → ℕ → ℕ → ℕ → Bool
new_use_stands I H key kw = some_holder H key && some_intertie I key && some_rank key && some_years key && repeatable kw

-- whether a record keeps the rule of its kind; kinds 0 and 7 to 15 have none
unfoldable pub record_stands : ℕ → ℕ → ℕ → ℕ → Bool
record_stands I H key kw =
    pick (eqb (kind_of key) limit_kind) (limit_stands I key kw)
    (pick (eqb (kind_of key) outside_right_kind) (outside_stands I key kw)
    (pick (eqb (kind_of key) load_share_kind) (load_share_stands H key kw)
    (pick (within existing_contract_kind pre_ra_kind (kind_of key)) (contract_stands I H key kw)
    (pick (eqb (kind_of key) new_use_kind) (new_use_stands I H key kw)
    false))))

-- whether each record keeps its rule
unfoldable pub records_stand : List ℕ → Bool
records_stand s = all_to (count s) (λ k. record_stands (interties s) (holders s) (key_at s k) (kw_at s k))

-- exactly one limit for each intertie
unfoldable pub one_limit_each : List ℕ → Bool
one_limit_each s = all_to (interties s) (λ i. eqb (how_many s (is_limit i)) 1)

-- at most one load share for each holder
unfoldable pub one_load_share_each : List ℕ → Bool
one_load_share_each s = all_to (holders s) (λ h. leb (how_many s (is_load_share h)) 1)

-- no rank twice for a holder
unfoldable pub no_rank_twice : List ℕ → Bool
no_rank_twice s = all_to (holders s) (λ h. all_to key_ranks (λ r. leb (how_many s (is_new_use h r)) 1))

-- whether the records keep the rules of the sheet; where not, refusal 3
unfoldable pub rules_hold : List ℕ → Bool
rules_hold s = records_stand s && one_limit_each s && one_load_share_each s && no_rank_twice s

-- whether outside rights and existing contracts fit into each intertie's limit; where not, refusal 4
unfoldable pub limits_hold : List ℕ → Bool
limits_hold s = all_to (interties s) (λ i. leb (outside s i + existing_on s i) (limit s i))

-- the lowest number that applies, 0 where the sheet stands
unfoldable pub sheet_refusal : List ℕ → ℕ
sheet_refusal s =
    pick (bad_length s) sheet_length_refused
    (pick (bad_sizes s) sizes_refused
    (pick (not (rules_hold s)) records_refused
    (pick (not (limits_hold s)) above_limit_refused
    0)))
