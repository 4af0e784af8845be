-- The words of a state that no rule names (docs/STATE.md), for I interties and H holders: opening leaves them as they were, whether it
-- is granted or refused.
use Rattle.std.specs.Prelude.{ℕ, ◌<◌, ◌≡◌, List, ◌≢◌}
use Rattle.base.specs.Words.{at}
use Rattle.sheet_records.specs.Sheet.{interties, holders}
use Rattle.state.specs.Layout.{interties_at, holders_at, stage_at, last_day_at, limit_at, outside_at, unassigned_at}
use Rattle.state.specs.Layout.{load_share_at, step5_share_at, step7_total_at, reserved_at, unplaced_at, sellers_at, last_week_at}
use Rattle.state.specs.Layout.{takings_at}
use Rattle.state.specs.Layout.{existing_at, pre_ra_at, new_use_at, placed_at, taken_at, locked_at, term_at, pending_at}
use Rattle.opening.specs.Open.{opened}

-- place p is none of n places, and none of the places of H holders on I interties
abbrev pub NoneOf : ℕ → (ℕ → ℕ) → ℕ → Type 0
NoneOf n place_of p = (k : ℕ) → k < n → p ≢ place_of k

abbrev pub NoPair : ℕ → ℕ → (ℕ → ℕ → ℕ) → ℕ → Type 0
NoPair I H place_of p = (h i : ℕ) → h < H → i < I → p ≢ place_of h i

-- place p is that of no word which the rules name
pub record Unnamed (I H p : ℕ) : Type 0 where
  pub no-interties : p ≢ interties_at
  pub no-holders : p ≢ holders_at
  pub no-stage : p ≢ stage_at
  pub no-last-day : p ≢ last_day_at
  pub no-limit : NoneOf I limit_at p
  pub no-outside : NoneOf I outside_at p
  pub no-unassigned : NoneOf I unassigned_at p
  pub no-load-share : NoneOf H load_share_at p
  pub no-step5-share : NoneOf H step5_share_at p
  pub no-step7-total : NoneOf H step7_total_at p
  pub no-reserved : NoneOf H reserved_at p
  pub no-unplaced : NoneOf H unplaced_at p
  pub no-sellers : NoneOf H sellers_at p
  pub no-last-week : NoneOf H last_week_at p
  pub no-takings : NoneOf H takings_at p
  pub no-existing : NoPair I H existing_at p
  pub no-pre-ra : NoPair I H pre_ra_at p
  pub no-new-use : NoPair I H new_use_at p
  pub no-placed : NoPair I H placed_at p
  pub no-taken : NoPair I H taken_at p
  pub no-locked : NoPair I H locked_at p
  pub no-term : NoPair I H term_at p
  pub no-pending : NoPair I H pending_at p

-- every sheet and all words, opened or refused
abbrev pub UnnamedStay : Type 0
UnnamedStay = (sheet s : List ℕ) (p : ℕ) → Unnamed (interties sheet) (holders sheet) p → at (opened sheet s).state p ≡ at s p
