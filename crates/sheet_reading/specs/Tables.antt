-- The tables that the records fill: a slot for each limit, outside right, load share, contract and rank, and one more for the rest.
use Rattle.std.specs.Prelude.{ℕ, ◌+◌, ◌*◌, ◌≡◌, ◌||◌, List, eqb, leb}
use Rattle.base.specs.Choice.{pick}
use Rattle.base.specs.Limits.{most_holders}
use Rattle.base.specs.Kinds.{limit_kind, outside_right_kind, load_share_kind, existing_contract_kind, pre_ra_kind, new_use_kind}
use Rattle.base.specs.Words.{tab}
use Rattle.sheet_keys.specs.Key.{key_interties, key_ranks, kind_of, holder_of, intertie_of, rank_of}
use Rattle.sheet_records.specs.Sheet.{sum_over, key_at, kw_at}
use Rattle.sheet_records.specs.Refusal.{bad_length, bad_sizes, sheet_refusal}
use Rattle.sheet_reading.specs.declared.tables.Tables.{Tables}

-- a holder's row has a slot for each intertie that a key can name, or for each rank
abbrev pub holder_interties : ℕ
holder_interties = key_interties

abbrev pub holder_ranks : ℕ
holder_ranks = key_ranks

-- where the slots of a kind start, limits at 0: those of interties, of holders, or of 32 holders' rows
abbrev pub outside_slots : ℕ
outside_slots = 64

abbrev pub load_share_slots : ℕ
load_share_slots = 128

abbrev pub existing_slots : ℕ
existing_slots = 192

abbrev pub pre_ra_slots : ℕ
pre_ra_slots = 2240

abbrev pub new_use_slots : ℕ
new_use_slots = 4288

-- the slot of the rest: records of no kind, and those of kinds 4 to 6 with a holder from 32 up
abbrev pub other_slot : ℕ
other_slot = 12480

-- how many slots a table has
abbrev pub slots : ℕ
slots = 12481

-- the slot of intertie i's limit, and of its outside rights
abbrev pub limit_slot : ℕ → ℕ
limit_slot i = i

abbrev pub outside_slot : ℕ → ℕ
outside_slot i = outside_slots + i

-- of holder h's load share
abbrev pub load_share_slot : ℕ → ℕ
load_share_slot h = load_share_slots + h

-- of holder h's existing contracts and Pre-RA commitments on intertie i
abbrev pub existing_slot : ℕ → ℕ → ℕ
existing_slot h i = existing_slots + holder_interties * h + i

abbrev pub pre_ra_slot : ℕ → ℕ → ℕ
pre_ra_slot h i = pre_ra_slots + holder_interties * h + i

-- of holder h's New Use commitment with rank r
abbrev pub new_use_slot : ℕ → ℕ → ℕ
new_use_slot h r = new_use_slots + holder_ranks * h + r

-- the slot by kind, holder, intertie and rank
unfoldable pub slot : ℕ → ℕ → ℕ → ℕ → ℕ
slot k h i r =
    pick (eqb k limit_kind) (limit_slot i)
    (pick (eqb k outside_right_kind) (outside_slot i)
    (pick (eqb k load_share_kind) (load_share_slot h)
    (pick (leb most_holders h) other_slot
    (pick (eqb k existing_contract_kind) (existing_slot h i)
    (pick (eqb k pre_ra_kind) (pre_ra_slot h i)
    (pick (eqb k new_use_kind) (new_use_slot h r)
    other_slot))))))

-- the slot of a key
abbrev pub slot_of : ℕ → ℕ
slot_of key = slot (kind_of key) (holder_of key) (intertie_of key) (rank_of key)

-- at each slot the sum of an amount over its records
unfoldable pub table : List ℕ → (ℕ → ℕ) → List ℕ
table s amount = tab slots (λ j. sum_over s (λ key. eqb (slot_of key) j) amount)

-- the records of each slot counted
abbrev pub count_table : List ℕ → List ℕ
count_table s = table s (λ k. 1)

-- their kilowatts
abbrev pub kw_table : List ℕ → List ℕ
kw_table s = table s (kw_at s)

-- their interties; a slot of New Use has one record at most, so the sum is its intertie
abbrev pub intertie_table : List ℕ → List ℕ
intertie_table s = table s (λ k. intertie_of (key_at s k))

-- a lent table after a reading: filled, or as it was where refusal 1 or 2 refuses the sheet
abbrev pub after : List ℕ → List ℕ → List ℕ → List ℕ
after s before filled = pick (bad_length s || bad_sizes s) before filled

-- a reading of a sheet: its refusal, and lent tables, as they were before and as they are now
pub record ReadSheet (s : List ℕ) (before : Tables) (refusal : ℕ) (now : Tables) : Type 0 where
  pub answer : refusal ≡ sheet_refusal s
  pub counted : now.counts ≡ after s before.counts (count_table s)
  pub summed : now.kw ≡ after s before.kw (kw_table s)
  pub placed : now.interties ≡ after s before.interties (intertie_table s)
