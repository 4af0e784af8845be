-- Refusals 3 and 4 as they are decided from tables: of a sheet's own tables these are the rules of the sheet.
use Rattle.std.specs.Prelude.{ℕ, ◌+◌, ◌*◌, ◌≤◌, Bool, ◌&&◌, List, eqb, leb}
use Rattle.base.specs.Sums.{sum_to, all_to}
use Rattle.base.specs.Words.{at}
use Rattle.base.specs.Limits.{most_records}
use Rattle.sheet_keys.specs.Key.{key_ranks}
use Rattle.sheet_records.specs.Sheet.{most_word}
use Rattle.sheet_reading.specs.Tables.{limit_slot, outside_slot, load_share_slot, existing_slot, new_use_slot}

-- the rules that count records, by a table of counts; stand says whether each record keeps its own
abbrev pub table_rules_hold : Bool → List ℕ → ℕ → ℕ → Bool
table_rules_hold stand counts H I =
    stand
    && all_to I (λ i. eqb (at counts (limit_slot i)) 1)
    && all_to H (λ h. leb (at counts (load_share_slot h)) 1)
    && all_to H (λ h. all_to key_ranks (λ r. leb (at counts (new_use_slot h r)) 1))

-- E of all holders on intertie i, by a table of kilowatts
abbrev pub table_existing_on : List ℕ → ℕ → ℕ → ℕ
table_existing_on kw H i = sum_to H (λ h. at kw (existing_slot h i))

-- whether it and the outside rights fit into the limit
abbrev pub table_limit_holds : List ℕ → ℕ → ℕ → Bool
table_limit_holds kw H i = leb (at kw (outside_slot i) + table_existing_on kw H i) (at kw (limit_slot i))

-- a table of kilowatts that at most 1,024 records of 32 bits went into, so that sums of it fit 64 bits
abbrev pub Modest : List ℕ → Type 0
Modest kw = (j : ℕ) → at kw j ≤ most_records * most_word
