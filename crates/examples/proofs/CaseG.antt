-- Case g (docs/RULES.md, "Examples"): sellers with 50,000 (twice) and 30,000 give the weight 40,000. The trades are made, and the weight is read in
-- the state after them.
use Prim.Native.Nat.{ℕ}
use mathlib.Core.Path.{◌≡◌, refl}
use mathlib.Core.List.{List, [], ◌∷◌}
use Rattle.base.specs.Sums.{sum_to, all_to}
use Rattle.base.specs.Answers.{granted}
use Rattle.state.specs.Layout.{interties_at, holders_at, limit_at, load_share_at, stage_at, unassigned_at, unplaced_at}
use Rattle.state.specs.Orderly.{state_refusal, orderly, sizes_in_range, stage_in_range, limits_in_range, load_shares_in_range, balanced, locked_within_placed, pending_within_unplaced, kw_in_range, takings_in_range, sellers_are_holders, terms_fit}
use Rattle.trading.specs.Trade.{trade_refusal, trade_state, trade}
use Rattle.holding.proofs.Examples.{written}
use Rattle.weights.specs.Weight.{sellers_count, sellers_load, average_load, weight_of}

-- one intertie and three holders in stage 1: holder 0 has no load share, holder 1 has 50,000 and holder 2 has 30,000, each with 20 kW to sell
unfoldable pub year_g : List ℕ
year_g =
    written
    ((interties_at, 1)
    ∷ (holders_at, 3)
    ∷ (stage_at, 1)
    ∷ (limit_at 0, 100)
    ∷ (unassigned_at 0, 100)
    ∷ (load_share_at 1, 50_000)
    ∷ (load_share_at 2, 30_000)
    ∷ (unplaced_at 1, 20)
    ∷ (unplaced_at 2, 20)
    ∷ [])

-- holder 1 sells to holder 0 twice, holder 2 once
unfoldable pub once_sold : List ℕ
once_sold = (trade year_g 1 0 5).state

unfoldable pub twice_sold : List ℕ
twice_sold = (trade once_sold 1 0 5).state

pub record CaseG : Type 0 where
  pub first-sale : (trade year_g 1 0 5).answer ≡ granted 5 0
  pub second-sale : (trade once_sold 1 0 5).answer ≡ granted 5 0
  pub third-sale : (trade twice_sold 2 0 5).answer ≡ granted 5 0
  pub weight : weight_of (trade twice_sold 2 0 5).state 0 ≡ 40_000

pub case-g : CaseG
unfolding written year_g once_sold twice_sold trade trade_refusal trade_state state_refusal orderly sizes_in_range stage_in_range limits_in_range load_shares_in_range balanced locked_within_placed pending_within_unplaced kw_in_range takings_in_range sellers_are_holders terms_fit sum_to all_to weight_of average_load sellers_load sellers_count
case-g = record { first-sale = refl; second-sale = refl; third-sale = refl; weight = refl }
