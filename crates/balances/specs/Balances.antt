-- The balances of the year (docs/RULES.md, "Balances of whole lists"): the four things that hold after every list of calls on
-- a state that a sheet opened to. Bought, sold, locked, and what closings and takings granted are summed in Amounts.
use Rattle.std.specs.Prelude.{ℕ, ◌+◌, ◌*◌, ◌≤◌, ◌<◌, ◌≡◌, List}
use Rattle.base.specs.Sums.{sum_to}
use Rattle.steps.specs.Inputs.{Inputs, of_sheet}
use Rattle.steps.specs.Step4a.{pre_ra_granted}
use Rattle.steps.specs.Step4b.{new_use_granted}
use Rattle.steps.specs.Step5to7.{held, reserved_on, step5_share, step7_total}
use Rattle.state.specs.Layout.{interties, holders, limit_of, outside_of, load_share_of, step5_share_of, step7_total_of, reserved_of}
use Rattle.state.specs.Layout.{existing_of, pre_ra_of, new_use_of, unassigned_of, unplaced_of, locked_of, of_holder}
use Rattle.opening.specs.Open.{open_refusal, opened}
use Rattle.balances.specs.Calls.{Call, after}
use Rattle.balances.specs.Amounts.{bought, sold, locked, closed, taken}

-- what closings granted on intertie i over all holders, and holder h over all interties
abbrev pub closed_on : Inputs → List Call → List ℕ → ℕ → ℕ
closed_on y calls s i = sum_to y.holders (λ h. closed y.interties calls s h i)

abbrev pub closed_to : Inputs → List Call → List ℕ → ℕ → ℕ
closed_to y calls s h = sum_to y.interties (λ i. closed y.interties calls s h i)

-- the four things: y is what the steps read of the sheet, s the state that opening left, t the state after the calls
pub record Balances (y : Inputs) (calls : List Call) (s t : List ℕ) : Type 0 where
  -- Maximum Import Capability = outside rights + reserved at opening + granted by closings and takings + unassigned
  pub intertie : (i : ℕ) → i < y.interties →
      y.limit i ≡ y.outside i + reserved_on y i + (closed_on y calls s i + taken calls s i) + unassigned_of t i
  -- existing contracts stand at the sheet's kW
  pub existing : (h i : ℕ) → h < y.holders → i < y.interties → existing_of t h i ≡ y.existing h i
  -- Step 5 share + bought = sold + granted by closings + unplaced
  pub holder : (h : ℕ) → h < y.holders →
      step5_share y h + bought calls s h ≡ sold calls s h + closed_to y calls s h + unplaced_of t h
  -- a holder with a lock: 4 × (reserved at opening + locked) ≤ 3 × Step 7 total
  pub three_quarters : (h : ℕ) → h < y.holders → 0 < locked calls s h → 4 * (held y h + locked calls s h) ≤ 3 * step7_total y h

-- the state's words still say what the steps give from the sheet, and its locked words add up to what was locked
pub record StillSays (y : Inputs) (calls : List Call) (s t : List ℕ) : Type 0 where
  pub interties-are : interties t ≡ y.interties
  pub holders-are : holders t ≡ y.holders
  pub limit : (i : ℕ) → i < y.interties → limit_of t i ≡ y.limit i
  pub outside : (i : ℕ) → i < y.interties → outside_of t i ≡ y.outside i
  pub load-share : (h : ℕ) → h < y.holders → load_share_of t h ≡ y.load_share h
  pub step5-share : (h : ℕ) → h < y.holders → step5_share_of t h ≡ step5_share y h
  pub step7-total : (h : ℕ) → h < y.holders → step7_total_of t h ≡ step7_total y h
  pub reserved : (h : ℕ) → h < y.holders → reserved_of t h ≡ held y h
  pub pre-ra : (h i : ℕ) → h < y.holders → i < y.interties → pre_ra_of t h i ≡ pre_ra_granted y h i
  pub new-use : (h i : ℕ) → h < y.holders → i < y.interties → new_use_of t h i ≡ new_use_granted y h i
  pub locked-words : (h : ℕ) → h < y.holders → of_holder locked_of t h ≡ locked calls s h

-- the same of a sheet, of the words of the state before opening, and of the calls made after it
pub record AfterCalls (sheet words : List ℕ) (calls : List Call) : Type 0 where
  pub balances : Balances (of_sheet sheet) calls (opened sheet words).state (after calls (opened sheet words).state)
  pub words-say : StillSays (of_sheet sheet) calls (opened sheet words).state (after calls (opened sheet words).state)

-- every sheet that opens and every list of calls, the empty one and refused calls too
abbrev pub YearBalances : Type 0
YearBalances = (sheet words : List ℕ) (calls : List Call) → open_refusal sheet words ≡ 0 → AfterCalls sheet words calls
