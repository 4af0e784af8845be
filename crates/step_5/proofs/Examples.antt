-- Worked cases of Step 5, as one theorem about the definition: T; held; load shares give the shares.
use Prim.Native.Nat.{ℕ}
use mathlib.Core.Path.{◌≡◌, refl}
use mathlib.Core.List.{List, [], ◌∷◌}
use Rattle.base.specs.Sums.{sum_to}
use Rattle.base.specs.Words.{tab}
use Rattle.step_5.specs.Round.{eligible, excluded, gross_remaining, eligible_loads, excludes, newly_excluded, round_marks}
use Rattle.step_5.specs.Shares.{rounds, settled, share_of, step5_shares}

abbrev gives : ℕ → List ℕ → List ℕ → List ℕ → Type 0
gives total held loads shares = step5_shares total held loads ≡ shares

pub record Cases : Type 0 where
  -- case i of the table of examples (docs/RULES.md, "Examples"): the third holder is excluded
  pub i : gives 100000 (0 ∷ 0 ∷ 30000 ∷ []) (50000 ∷ 30000 ∷ 20000 ∷ []) (43750 ∷ 26250 ∷ 0 ∷ [])
  -- the second is excluded in the second round only
  pub again : gives 100 (50 ∷ 30 ∷ 0 ∷ []) (1 ∷ 1 ∷ 1 ∷ []) (0 ∷ 0 ∷ 20 ∷ [])
  -- products decide and no rounded share: the first, with 33 of 101 / 3, stays eligible
  pub products : gives 101 (33 ∷ 0 ∷ 0 ∷ []) (1 ∷ 1 ∷ 1 ∷ []) (0 ∷ 33 ∷ 33 ∷ [])
  -- and with 33 of 99 / 3 it is excluded
  pub equal : settled 99 (33 ∷ 0 ∷ 0 ∷ []) (1 ∷ 1 ∷ 1 ∷ []) ≡ excluded ∷ eligible ∷ eligible ∷ []
  -- with all load shares 0 nobody is eligible
  pub weightless : gives 100 (0 ∷ 10 ∷ []) (0 ∷ 0 ∷ []) (0 ∷ 0 ∷ [])
  pub nobody : gives 100 [] [] []

pub cases : Cases
unfolding sum_to tab gross_remaining eligible_loads excludes newly_excluded round_marks rounds settled share_of step5_shares
cases = record { i = refl; again = refl; products = refl; equal = refl; weightless = refl; nobody = refl }
