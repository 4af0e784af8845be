-- What Steps 1 to 7 read of a sheet: the sizes, and the kilowatts of its records, summed for each thing they speak of.
use Rattle.std.specs.Prelude.{ℕ, List}
use Rattle.sheet_records.specs.Sheet.{interties, holders, limit, outside, load_share, existing, pre_ra, new_use_kw, new_use_intertie}

pub record Inputs : Type 0 where
  -- I and H
  pub interties : ℕ
  pub holders : ℕ
  -- per intertie: limit (Maximum Import Capability) and outside rights
  pub limit : ℕ → ℕ
  pub outside : ℕ → ℕ
  -- per holder
  pub load_share : ℕ → ℕ
  -- per holder and intertie: E (existing contracts) and Pre-RA kW
  pub existing : ℕ → ℕ → ℕ
  pub pre_ra : ℕ → ℕ → ℕ
  -- per holder and rank: kW and intertie of the New Use commitment
  pub new_use_kw : ℕ → ℕ → ℕ
  pub new_use_intertie : ℕ → ℕ → ℕ

-- the inputs that a sheet has
abbrev pub of_sheet : List ℕ → Inputs
of_sheet s =
    record {
      interties = interties s;
      holders = holders s;
      limit = limit s;
      outside = outside s;
      load_share = load_share s;
      existing = existing s;
      pre_ra = pre_ra s;
      new_use_kw = new_use_kw s;
      new_use_intertie = new_use_intertie s;
    }
