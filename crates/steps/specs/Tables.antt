-- The inputs as a reading of the sheet leaves them, in its tables of kilowatts and of interties.
use Rattle.std.specs.Prelude.{ℕ, List}
use Rattle.base.specs.Words.{at}
use Rattle.sheet_reading.specs.Tables.{limit_slot, outside_slot, load_share_slot, existing_slot, pre_ra_slot, new_use_slot}
use Rattle.steps.specs.Inputs.{Inputs}

abbrev pub of_tables : ℕ → ℕ → List ℕ → List ℕ → Inputs
of_tables I H kw ties =
    record {
      interties = I;
      holders = H;
      limit = λ i. at kw (limit_slot i);
      outside = λ i. at kw (outside_slot i);
      load_share = λ h. at kw (load_share_slot h);
      existing = λ h i. at kw (existing_slot h i);
      pre_ra = λ h i. at kw (pre_ra_slot h i);
      new_use_kw = λ h r. at kw (new_use_slot h r);
      new_use_intertie = λ h r. at ties (new_use_slot h r);
    }
