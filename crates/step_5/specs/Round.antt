-- One round of Step 5 (docs/RULES.md, "Opening"). Holders count from 0: held has a holder's E, P and N together, loads its
-- load share, x its mark.
use Rattle.std.specs.Prelude.{ℕ, ◌-◌, ◌*◌, Bool, ◌&&◌, List, length, leb, eqb}
use Rattle.base.specs.Choice.{pick}
use Rattle.base.specs.Sums.{sum_to}
use Rattle.base.specs.Words.{at, tab}

-- the mark of a holder that may yet get a share
abbrev pub eligible : ℕ
eligible = 0

-- and of one that gets none
abbrev pub excluded : ℕ
excluded = 1

-- what the holders with this mark have together, of n holders
abbrev pub together : ℕ → ℕ → List ℕ → List ℕ → ℕ
together n mark x l = sum_to n (λ i. pick (eqb (at x i) mark) (at l i) 0)

-- G = T - held of the excluded, the gross Remaining Import Capability
unfoldable pub gross_remaining : ℕ → List ℕ → List ℕ → ℕ
gross_remaining total held x = total - together (length held) excluded x held

-- V = load shares of the eligible
unfoldable pub eligible_loads : List ℕ → List ℕ → List ℕ → ℕ
eligible_loads held loads x = together (length held) eligible x loads

module _ (total : ℕ) (held loads : List ℕ) where
  -- whether the round excludes holder i: eligible, with held × V at least G × load share
  unfoldable pub excludes : List ℕ → ℕ → Bool
  excludes x i =
      eqb (at x i) eligible && leb (gross_remaining total held x * at loads i) (at held i * eligible_loads held loads x)

  -- how many the round excludes
  unfoldable pub newly_excluded : List ℕ → ℕ
  newly_excluded x = sum_to (length held) (λ i. pick (excludes x i) 1 0)

  -- the marks after the round, which excludes them together
  unfoldable pub round_marks : List ℕ → List ℕ
  round_marks x = tab (length held) (λ i. pick (excludes x i) excluded (at x i))
