-- What the parts of the check of an orderly state ask, and the parts of "Orderly" that each of them tests.
use Rattle.std.specs.Prelude.{◌≡◌, ℕ, ◌+◌, ◌%◌, ◌^◌, ◌<◌, ◌≤◌, Bool, ◌&&◌, ltb, List, length, ◌==◌, nat_le, nat_lt, Result}
use Rattle.std.specs.Prelude.{MatchResult, true}
use Rattle.base.specs.Choice.{pick}
use Rattle.base.specs.Sums.{sum_to, all_to}
use Rattle.base.specs.Words.{at}
use Rattle.base.specs.Limits.{most_interties, most_holders, state_words}
use Rattle.base.specs.declared.refusals.Refusal.{Refusal}
use Rattle.base.specs.declared.stages.Stage.{Stage}
use Rattle.base.specs.Stage.{number_of}
use Rattle.base.specs.Refused.{number_of as refusal_number}
use Rattle.state.specs.Layout.{interties, holders, limit_of, outside_of, existing_of, pre_ra_of, new_use_of, unassigned_of}
use Rattle.state.specs.Layout.{unplaced_of, stage_of}
use Rattle.state.specs.Layout.{placed_of, taken_of, locked_of, term_of}
use Rattle.state.specs.Orderly.{sizes_in_range, stage_in_range, state_refusal, no_requests, term_fits, limits_in_range}
use Rattle.state.specs.Orderly.{load_shares_in_range, balanced, locked_within_placed}
use Rattle.state.specs.Orderly.{pending_within_unplaced, kw_in_range, takings_in_range, sellers_are_holders, terms_fit}

-- a state that has its words, and sizes and a stage in range
pub record Fit (s : List ℕ) : Type 0 where
  pub long : state_words ≤ length s
  pub ranged : (sizes_in_range s && stage_in_range s) ≡ true

-- such a state as its rows, or the number of the refusal
abbrev pub Told : List ℕ → Result (List ℕ) Refusal → Type 0
Told s outcome = MatchResult outcome (λ rows. (rows ≡ s) × Fit s) (λ refusal. refusal_number refusal ≡ state_refusal s)

-- what is read of such a state
pub record Sized (s : List ℕ) (I H : ℕ) (stage : Stage) : Type 0 where
  pub long : state_words ≤ length s
  pub interties-are : I ≡ interties s
  pub interties-most : I ≤ most_interties
  pub holders-are : H ≡ holders s
  pub holders-least : 1 ≤ H
  pub holders-most : H ≤ most_holders
  pub stage-is : number_of stage ≡ stage_of s

-- the fields of the holders
abbrev pub fields_in_range : List ℕ → Bool
fields_in_range s = load_shares_in_range s && kw_in_range s && takings_in_range s && sellers_are_holders s

-- more kW than a limit may be, and than any pair has under one
abbrev pub too_many_kw : ℕ
too_many_kw = 2 ^ 25

-- the kW of a pair that stand against its intertie's limit
abbrev pub pair_kw : List ℕ → ℕ → ℕ → ℕ
pair_kw s h i = existing_of s h i + pre_ra_of s h i + new_use_of s h i + placed_of s h i + taken_of s h i

-- whether the kW of a pair are below 2 ^ 25, as they are under any limit
abbrev pub pair_fits : List ℕ → ℕ → ℕ → Bool
pair_fits s h i = nat_lt (pair_kw s h i) too_many_kw

-- sums of 0 for n interties
pub record Cleared (n : ℕ) (sums : List ℕ) : Type 0 where
  pub few : n ≤ most_interties
  pub places : length sums ≡ most_interties
  pub zeros : (i : ℕ) → i < n → at sums i ≡ 0

-- what the first m holders' kW on each intertie say: their sums, in 32 bits, and bits that are below 2 ^ 25 where the kW of each of their
-- pairs are
pub record Summed (s : List ℕ) (m bits : ℕ) (sums : List ℕ) : Type 0 where
  pub most : m ≤ most_holders
  pub fit : ltb bits too_many_kw ≡ all_to (interties s) (λ i. all_to m (λ h. pair_fits s h i))
  pub held : (i : ℕ) → i < interties s → at sums i ≡ sum_to m (λ h. pair_kw s h i) % 2 ^ 32

-- such sums, with a place for each intertie
pub record Added (s : List ℕ) (m bits : ℕ) (sums : List ℕ) : Type 0 where
  pub few : interties s ≤ most_interties
  pub places : length sums ≡ most_interties
  pub summed : Summed s m bits sums

-- whether an intertie's limit is its outside rights, the kW of its pairs and its unassigned kW
abbrev pub limit_met : List ℕ → ℕ → ℕ → Bool
limit_met s i kw = limit_of s i == outside_of s i + kw + unassigned_of s i

-- whether a pair's locked kW and its lock term are in order
abbrev pub lock_fits : ℕ → ℕ → ℕ → Bool
lock_fits placed locked term = nat_le locked placed && term_fits locked term

-- the same of a pair of the state
abbrev pub pair_lock_fits : List ℕ → ℕ → ℕ → Bool
pair_lock_fits s h i = lock_fits (placed_of s h i) (locked_of s h i) (term_of s h i)

-- whether a pair has neither locked kW nor a lock term
abbrev pub unlocked : List ℕ → ℕ → ℕ → Bool
unlocked s h i = nat_le (locked_of s h i) 0 && nat_le (term_of s h i) 0

-- the most that a holder may have pending: its unplaced, and 0 in stages 1 and 4
abbrev pub most_pending : List ℕ → ℕ → ℕ
most_pending s h = pick (no_requests s) 0 (unplaced_of s h)

-- all of "Orderly" but the sizes and the stage
abbrev pub rows_in_order : List ℕ → Bool
rows_in_order s =
    fields_in_range s && (limits_in_range s && balanced s) && (locked_within_placed s && terms_fit s) && pending_within_unplaced s
