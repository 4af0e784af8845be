-- Case h of the table of examples: reserved 30, Step 7 total 100, placed 46, no lock: lock 45 stands, 46 is refused 13.
use Prim.Native.Nat.{ℕ}
use mathlib.Core.Path.{◌≡◌, refl}
use mathlib.Core.List.{List, [], ◌∷◌}
use lib.ListN.{set, replicate}
use Rattle.base.specs.Sums.{sum_to, all_to}
use Rattle.base.specs.Answers.{refused, granted}
use Rattle.base.specs.Limits.{state_words}
use Rattle.state.specs.Layout.{interties_at, holders_at, limit_at, load_share_at, step5_share_at, step7_total_at, reserved_at, existing_at, stage_at, unassigned_at, unplaced_at, placed_at, locked_at, term_at}
use Rattle.state.specs.Orderly.{state_refusal, orderly, sizes_in_range, stage_in_range, limits_in_range, load_shares_in_range, balanced, locked_within_placed, pending_within_unplaced, kw_in_range, takings_in_range, sellers_are_holders, terms_fit}
use Rattle.holding.specs.Lock.{lock_refusal, lock_state, lock}

-- a state with words at places, and 0 at all others
unfoldable pub written : List (ℕ × ℕ) → List ℕ
written [] = replicate state_words 0
written (w ∷ ws) = set (written ws) w.0 w.1

-- one intertie of 100 kW and one holder, with 30 kW of existing contracts and a Step 5 share of 70 kW of which 46 are placed, in stage 4
unfoldable pub year_h : List ℕ
year_h =
    written
    ((interties_at, 1)
    ∷ (holders_at, 1)
    ∷ (stage_at, 4)
    ∷ (limit_at 0, 100)
    ∷ (unassigned_at 0, 24)
    ∷ (load_share_at 0, 100)
    ∷ (step5_share_at 0, 70)
    ∷ (step7_total_at 0, 100)
    ∷ (reserved_at 0, 30)
    ∷ (unplaced_at 0, 24)
    ∷ (existing_at 0 0, 30)
    ∷ (placed_at 0 0, 46)
    ∷ [])

-- answer and state; the refusal leaves the state
pub record CaseH : Type 0 where
  pub stands : lock year_h 0 0 45 1 ≡ record { answer = granted 45 0; state = set (set year_h (locked_at 0 0) 45) (term_at 0 0) 1 }
  pub refused-13 : lock year_h 0 0 46 1 ≡ record { answer = refused 13; state = year_h }

pub case-h : CaseH
unfolding written year_h lock lock_refusal lock_state state_refusal orderly sizes_in_range stage_in_range limits_in_range load_shares_in_range balanced locked_within_placed pending_within_unplaced kw_in_range takings_in_range sellers_are_holders terms_fit sum_to all_to
case-h = record { stands = refl; refused-13 = refl }
