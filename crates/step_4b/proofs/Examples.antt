-- A holder's New Use in small numbers, as one theorem about the definition: kW and interties by rank, allowance and cover give the kW kept and the allowance and cover left. No record has rank 0.
use Prim.Native.Nat.{ℕ}
use mathlib.Core.Path.{◌≡◌, refl}
use mathlib.Core.List.{List, [], ◌∷◌}
use lib.ListN.{length}
use Rattle.base.specs.Words.{tab}
use Rattle.step_4b.specs.NewUse.{next_rank, after_ranks, new_use}

abbrev gives : List ℕ → List ℕ → ℕ → List ℕ → List ℕ → ℕ → List ℕ → Type 0
gives kw interties allowance cover kept left unused =
    new_use kw interties allowance cover (length cover) ≡ record { cover = unused; kept = kept; allowance = left }

pub record Cases : Type 0 where
  -- 30 of rank 1 are covered, 20 stay; rank 2 is cut to the 30 left
  pub cut : gives (0 ∷ 50 ∷ 40 ∷ []) (0 ∷ 0 ∷ 1 ∷ []) 50 (30 ∷ 0 ∷ []) (20 ∷ 30 ∷ []) 0 (0 ∷ 0 ∷ [])
  -- the same records with their ranks exchanged
  pub exchanged : gives (0 ∷ 40 ∷ 50 ∷ []) (0 ∷ 1 ∷ 0 ∷ []) 50 (30 ∷ 0 ∷ []) (10 ∷ 40 ∷ []) 0 (0 ∷ 0 ∷ [])
  -- what is covered uses no allowance; the next record on the intertie finds the rest of the cover
  pub covered : gives (0 ∷ 20 ∷ 0 ∷ 15 ∷ []) (0 ∷ 1 ∷ 0 ∷ 1 ∷ []) 50 (0 ∷ 30 ∷ []) (0 ∷ 5 ∷ []) 45 (0 ∷ 0 ∷ [])
  -- without allowance only the cover is used
  pub spent : gives (0 ∷ 40 ∷ []) (0 ∷ 0 ∷ []) 0 (30 ∷ 7 ∷ []) (0 ∷ 0 ∷ []) 0 (0 ∷ 7 ∷ [])

pub cases : Cases
unfolding tab next_rank after_ranks new_use
cases = record { cut = refl; exchanged = refl; covered = refl; spent = refl }
