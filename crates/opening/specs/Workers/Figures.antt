-- What Steps 5 to 7 are handed, and what they leave, as rows and tables.
use Rattle.std.specs.Prelude.{ℕ, ◌+◌, ◌≤◌, ◌<◌, List}
use Rattle.base.specs.Limits.{most_interties, most_holders, most_kw, most_load_share, most_total_kw}
use Rattle.base.specs.Sums.{sum_to}
use Rattle.base.specs.Words.{at, tab}
use Rattle.sheet_reading.specs.Tables.{load_share_slot, existing_slot}
use Rattle.step_5.specs.Shares.{step5_shares}
use Rattle.intertie_shares.specs.Pairs.{pair_at}
use Rattle.steps_2_to_4.specs.Workers.Vectors.{Row}

-- what a holder holds, by the sheet's table of kW and the tables of P and N
abbrev pub held_from : ℕ → List ℕ → List ℕ → List ℕ → ℕ → ℕ
held_from I kw pre_ra new_use h =
    sum_to I (λ i. at kw (existing_slot h i)) + sum_to I (λ i. at pre_ra (pair_at h i)) + sum_to I (λ i. at new_use (pair_at h i))

-- T, and tables of which E, P and N of a pair are each at most what a record may have, and by which the holders together hold at most T
pub record HeldGiven (total : ℕ) (kw : List ℕ) (I H : ℕ) (pre_ra new_use : List ℕ) : Type 0 where
  pub few : I ≤ most_interties
  pub small : H ≤ most_holders
  pub existing-most : (h i : ℕ) → h < H → i < I → at kw (existing_slot h i) ≤ most_kw
  pub pre-ra-most : (h i : ℕ) → h < H → i < I → at pre_ra (pair_at h i) ≤ most_kw
  pub new-use-most : (h i : ℕ) → h < H → i < I → at new_use (pair_at h i) ≤ most_kw
  pub total-most : total ≤ most_total_kw
  pub load-shares : (h : ℕ) → h < H → at kw (load_share_slot h) ≤ most_load_share
  pub within : sum_to H (held_from I kw pre_ra new_use) ≤ total

-- held, Step 5 shares and Step 7 totals, in front of rows
pub record HeldTaken (total : ℕ) (kw : List ℕ) (I H : ℕ) (pre_ra new_use held shares totals : List ℕ) : Type 0 where
  pub hold : Row H held (held_from I kw pre_ra new_use)
  pub share : Row H shares (at (step5_shares total (tab H (held_from I kw pre_ra new_use)) (tab H (λ h. at kw (load_share_slot h)))))
  pub step7 : Row H totals (λ h. at held h + at shares h)
