-- Orderly (docs/RULES.md, "The year's state"), clause by clause, and the refusals that every call of the year begins with.
use Rattle.std.specs.Prelude.{ℕ, ◌+◌, ◌^◌, List, Bool, true, ◌&&◌, ◌||◌, leb, ltb, eqb, length}
use Rattle.base.specs.Choice.{pick}
use Rattle.base.specs.Sums.{sum_to, all_to}
use Rattle.base.specs.Limits.{most_interties, most_holders, most_kw, most_load_share, most_total_kw, most_years, most_takings, state_words}
use Rattle.base.specs.Refusals.{room_refused, not_orderly_refused}
use Rattle.base.specs.Stages.{trading_stage, open_stage}
use Rattle.state.specs.Layout.{interties, holders, limit_of, outside_of, load_share_of, step5_share_of, step7_total_of, reserved_of}
use Rattle.state.specs.Layout.{existing_of, pre_ra_of, new_use_of, stage_of, unassigned_of, unplaced_of, sellers_of, takings_of}
use Rattle.state.specs.Layout.{placed_of, taken_of, locked_of, term_of, pending_of, on_intertie, of_holder}

-- a test of every intertie, of every holder, of every pair
abbrev pub every_intertie : List ℕ → (ℕ → Bool) → Bool
every_intertie s test = all_to (interties s) test

abbrev pub every_holder : List ℕ → (ℕ → Bool) → Bool
every_holder s test = all_to (holders s) test

abbrev pub every_pair : List ℕ → (ℕ → ℕ → Bool) → Bool
every_pair s test = all_to (holders s) (λ h. all_to (interties s) (λ i. test h i))

-- sizes and stage in range
unfoldable pub sizes_in_range : List ℕ → Bool
sizes_in_range s = leb 1 (interties s) && leb (interties s) most_interties && leb 1 (holders s) && leb (holders s) most_holders

unfoldable pub stage_in_range : List ℕ → Bool
stage_in_range s = leb trading_stage (stage_of s) && leb (stage_of s) open_stage

-- limits and load shares within the sheet's ranges
unfoldable pub limits_in_range : List ℕ → Bool
limits_in_range s = every_intertie s (λ i. leb (limit_of s i) most_kw)

unfoldable pub load_shares_in_range : List ℕ → Bool
load_shares_in_range s = every_holder s (λ h. leb (load_share_of s h) most_load_share)

-- on each intertie limit = outside + E + P + N + placed + taken + unassigned
abbrev pub intertie_kw : List ℕ → ℕ → ℕ
intertie_kw s i =
    outside_of s i
    + on_intertie existing_of s i
    + on_intertie pre_ra_of s i
    + on_intertie new_use_of s i
    + on_intertie placed_of s i
    + on_intertie taken_of s i
    + unassigned_of s i

unfoldable pub balanced : List ℕ → Bool
balanced s = every_intertie s (λ i. eqb (limit_of s i) (intertie_kw s i))

-- locked at most placed
unfoldable pub locked_within_placed : List ℕ → Bool
locked_within_placed s = every_pair s (λ h i. leb (locked_of s h i) (placed_of s h i))

-- stages 1 and 4
abbrev pub no_requests : List ℕ → Bool
no_requests s = eqb (stage_of s) trading_stage || eqb (stage_of s) open_stage

-- each holder's pending at most its unplaced, and 0 in stages 1 and 4
unfoldable pub pending_within_unplaced : List ℕ → Bool
pending_within_unplaced s =
    every_holder s (λ h. leb (of_holder pending_of s h) (unplaced_of s h))
    && pick (no_requests s) (every_holder s (λ h. eqb (of_holder pending_of s h) 0)) true

-- unplaced summed over holders, and each Step 5 share, Step 7 total and reserved, at most 960,000,000
unfoldable pub kw_in_range : List ℕ → Bool
kw_in_range s =
    leb (sum_to (holders s) (λ h. unplaced_of s h)) most_total_kw
    && every_holder s (λ h. leb (step5_share_of s h) most_total_kw)
    && every_holder s (λ h. leb (step7_total_of s h) most_total_kw)
    && every_holder s (λ h. leb (reserved_of s h) most_total_kw)

-- takings at most 2
unfoldable pub takings_in_range : List ℕ → Bool
takings_in_range s = every_holder s (λ h. leb (takings_of s h) most_takings)

-- sellers are holders below H
unfoldable pub sellers_are_holders : List ℕ → Bool
sellers_are_holders s = every_holder s (λ h. ltb (sellers_of s h) (2 ^ holders s))

-- a lock term is 1 to 30 where locked is above 0, else 0
abbrev pub term_fits : ℕ → ℕ → Bool
term_fits locked term = pick (ltb 0 locked) (leb 1 term && leb term most_years) (eqb term 0)

unfoldable pub terms_fit : List ℕ → Bool
terms_fit s = every_pair s (λ h i. term_fits (locked_of s h i) (term_of s h i))

-- Orderly
unfoldable pub orderly : List ℕ → Bool
orderly s =
    sizes_in_range s
    && stage_in_range s
    && limits_in_range s
    && load_shares_in_range s
    && balanced s
    && locked_within_placed s
    && pending_within_unplaced s
    && kw_in_range s
    && takings_in_range s
    && sellers_are_holders s
    && terms_fit s

-- refusal 5 for a state under 16,000 words, refusal 6 for one that is not orderly, else 0
unfoldable pub state_refusal : List ℕ → ℕ
state_refusal s = pick (ltb (length s) state_words) room_refused (pick (orderly s) 0 not_orderly_refused)
