-- Bounds of a sum over the records that pass a test, of which each has at most b.
use Prim.Native.Nat.{ℕ, ◌*◌, ◌≤◌, ◌<◌, zero-le}
use mathlib.Core.Path.{◌≡◌}
use mathlib.Core.Bool.{Bool, true}
use mathlib.Core.List.{List}
use native.Mathlib.Nat.{le_trans, le_of_eq, mul-one}
use Rattle.base.specs.Choice.{pick}
use Rattle.base.proofs.SumLaws.{sum_to-bound, sum_to-le, sum_to-scale}
use Rattle.base.proofs.ChoiceLaws.{pick-by}
use Rattle.sheet_records.specs.Sheet.{count, key_at, sum_over, how_many}

module _ (s : List ℕ) (test : ℕ → Bool) (amount : ℕ → ℕ) (b : ℕ) (each : (k : ℕ) → k < count s → test (key_at s k) ≡ true → amount k ≤ b) where
  -- b for each record that passes
  pub over-passing : sum_over s test amount ≤ b * how_many s test
  unfolding sum_over
  over-passing =
      le_trans
      (sum_to-le (count s) (λ k. pick (test (key_at s k)) (amount k) 0) (λ k. b * pick (test (key_at s k)) 1 0)
      (λ k l.
      pick-by (λ (x : ℕ). x ≤ b * pick (test (key_at s k)) 1 0) (test (key_at s k)) (amount k) 0
      (λ t. rw (t, mul-one) (each k l t))
      (λ _. zero-le)))
      (le_of_eq (sum_to-scale (count s) b (λ k. pick (test (key_at s k)) 1 0)))

  -- b for each record of the sheet
  pub over-all : sum_over s test amount ≤ count s * b
  unfolding sum_over
  over-all =
      sum_to-bound (count s) b (λ k. pick (test (key_at s k)) (amount k) 0)
      (λ k l. pick-by (λ (x : ℕ). x ≤ b) (test (key_at s k)) (amount k) 0 (λ t. each k l t) (λ _. zero-le))
