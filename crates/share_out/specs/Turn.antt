-- Serving in holder order while the pool lasts.
use Rattle.std.specs.Prelude.{ℕ, ◌-◌, min}
use Rattle.base.specs.Sums.{sum_to}

-- what holder i gets of a pool when each gets what it wants, lowest number first, until the pool is empty
abbrev pub in_turn : ℕ → (ℕ → ℕ) → ℕ → ℕ
in_turn pool want i = min (want i) (pool - sum_to i want)
