-- Rows and tables of the pairs as the steps work on them: a row of the interties for each holder.
use Rattle.std.specs.Prelude.{ℕ, ◌+◌, ◌-◌, ◌<◌, ◌≡◌, List}
use Rattle.base.specs.Limits.{most_interties}
use Rattle.base.specs.Sums.{sum_to}
use Rattle.base.specs.Words.{at, tab}
use Rattle.intertie_shares.specs.Pairs.{pair_at, fill_table}
use Rattle.intertie_shares.specs.Rule.{grant_on}
use Rattle.sheet_reading.specs.Tables.{holder_ranks, existing_slot, pre_ra_slot, new_use_slot}
use Rattle.sheet_reading.specs.declared.tables.Tables.{Tables}
use Rattle.step_4b.specs.NewUse.{NewUse, new_use}
use Rattle.steps.specs.Inputs.{Inputs}

-- the first n words of a row are those of f
abbrev pub Row : ℕ → List ℕ → (ℕ → ℕ) → Type 0
Row n l f = (c : ℕ) → c < n → at l c ≡ f c

-- a table has f h i for the holders below m and the interties below n
abbrev pub Pairs : ℕ → ℕ → List ℕ → (ℕ → ℕ → ℕ) → Type 0
Pairs m n l f = (h i : ℕ) → h < m → i < n → at l (pair_at h i) ≡ f h i

-- Step 4b for one holder, from the sheet's tables, its Load Share Quantity and the table of P
abbrev pub kept_from : Tables → ℕ → ℕ → List ℕ → ℕ → NewUse
kept_from tables I quantity granted h =
    new_use (tab holder_ranks (λ r. at tables.kw (new_use_slot h r))) (tab holder_ranks (λ r. at tables.interties (new_use_slot h r)))
    (quantity - sum_to I (λ i. at tables.kw (existing_slot h i) + at granted (pair_at h i)))
    (tab most_interties (λ i. at tables.kw (existing_slot h i) - at tables.kw (pre_ra_slot h i)))
    most_interties

-- a table of grants: on each intertie its pool is shared out over the claims there, with the holders' load shares; the other words stay
abbrev pub SharedOver : Inputs → List ℕ → (ℕ → ℕ → ℕ) → List ℕ → List ℕ → Type 0
SharedOver y pools claim first granted =
    granted ≡ fill_table y.interties y.holders (grant_on y.holders (at pools) claim y.load_share) first
