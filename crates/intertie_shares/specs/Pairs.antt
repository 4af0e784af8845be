-- Tables of the pairs: a row for each holder, with a word for each of the most interties, so that holder h and intertie i
-- stand at place 48·h + i.
use Rattle.std.specs.Prelude.{ℕ, zero, suc, ◌+◌, ◌*◌, List, set}
use Rattle.base.specs.Limits.{most_interties}
use Rattle.base.specs.Words.{at, tab}

-- the place of holder h and intertie i
abbrev pub pair_at : ℕ → ℕ → ℕ
pair_at h i = most_interties * h + i

-- the word there
abbrev pub at_pair : List ℕ → ℕ → ℕ → ℕ
at_pair table h i = at table (pair_at h i)

-- what the first H holders have on intertie i
abbrev pub column : List ℕ → ℕ → ℕ → List ℕ
column table H i = tab H (λ h. at_pair table h i)

-- the table with f h on intertie i for each holder h below H; the other words stay
unfoldable pub fill_column : ℕ → ℕ → (ℕ → ℕ) → List ℕ → List ℕ
fill_column i zero f table = table
fill_column i (suc H) f table = set (fill_column i H f table) (pair_at H i) (f H)

-- the table with f h i for each holder h below H and each intertie i below I; the other words stay
unfoldable pub fill_table : ℕ → ℕ → (ℕ → ℕ → ℕ) → List ℕ → List ℕ
fill_table zero H f table = table
fill_table (suc I) H f table = fill_column I H (λ h. f h I) (fill_table I H f table)
