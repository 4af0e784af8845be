-- The tables while records are added to them.
use Rattle.std.specs.Prelude.{ℕ, ◌+◌, ◌<◌, ◌≡◌, List, set}
use Rattle.base.specs.Words.{at}
use Rattle.sheet_records.specs.Sheet.{count, key_at}
use Rattle.sheet_reading.specs.declared.tables.Tables.{Tables}
use Rattle.sheet_reading.specs.Tables.{slot_of, count_table, kw_table, intertie_table}

-- a list that has the slot of each record of a sheet
abbrev pub SlotsOf : List ℕ → List ℕ → Type 0
SlotsOf s l = (k : ℕ) → k < count s → at l k ≡ slot_of (key_at s k)

-- a table with an amount added at a slot
abbrev pub add : List ℕ → ℕ → ℕ → List ℕ
add l j a = set l j (at l j + a)

-- tables that were filled from a sheet
pub record Filled (s : List ℕ) (tables : Tables) : Type 0 where
  pub counted : tables.counts ≡ count_table s
  pub summed : tables.kw ≡ kw_table s
  pub placed : tables.interties ≡ intertie_table s
