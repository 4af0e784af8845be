-- The answer and the output by cases: lists or numbers that don't fit, and the shares.
use Prim.Native.Nat.{ℕ, ◌≤◌}
use mathlib.Core.Path.{◌≡◌, ◌∙◌}
use mathlib.Core.Bool.{true, false}
use mathlib.Core.List.{List, ◌++◌}
use native.Mathlib.Omega.{arith}
use lib.ListN.{length, drop}
use Rattle.base.specs.Words.{at, fill}
use Rattle.base.proofs.ChoiceLaws.{and-false}
use Rattle.base.proofs.WordLaws.{fill-front, fill-whole, tab-at}
use Rattle.step_5.specs.Shares.{step5_shares}
use Rattle.step_5.specs.Outcome.{fit_lengths, fit_numbers, step5}
use Rattle.step_5.specs.Workers.Fit.{Accepted}
use Rattle.step_5.proofs.FitLaws.{accepted-lengths, accepted-numbers}
use Rattle.step_5.proofs.Promise.{promise}

module _ (total : ℕ) (held loads output : List ℕ) where
  pub outcome-lengths : fit_lengths (length held) (length loads) (length output) ≡ false → step5 total held loads output ≡ record { fit = false; output = output }
  unfolding step5
  outcome-lengths e = rw e

  pub outcome-numbers : fit_numbers total held loads ≡ false → step5 total held loads output ≡ record { fit = false; output = output }
  unfolding step5
  outcome-numbers e = rw (and-false (fit_lengths (length held) (length loads) (length output)) (fit_numbers total held loads) e)

  pub outcome-shares : fit_lengths (length held) (length loads) (length output) ≡ true → fit_numbers total held loads ≡ true →
      step5 total held loads output ≡ record { fit = true; output = fill (length held) (at (step5_shares total held loads)) output }
  unfolding step5
  outcome-shares e h = rw (e, h)

  -- what a caller whose lists and numbers are within the limits gets
  pub outcome-accepted : Accepted total held loads → length held ≤ length output →
      step5 total held loads output ≡ record { fit = true; output = fill (length held) (at (step5_shares total held loads)) output }
  outcome-accepted a room = outcome-shares (accepted-lengths total held loads output a room) (accepted-numbers total held loads a)

  -- the shares over the first places are the shares and then the rest of the output
  pub shares-front : length held ≤ length output →
      fill (length held) (at (step5_shares total held loads)) output ≡ step5_shares total held loads ++ drop (length held) output
  shares-front h =
      let size : length (step5_shares total held loads) ≡ length held = (promise total held loads).size in
      rw (← size) (fill-front (step5_shares total held loads) output (omega arith))

  -- and the shares alone where there are no other places
  pub shares_whole : length output ≡ length held → fill (length held) (at (step5_shares total held loads)) output ≡ step5_shares total held loads
  shares_whole e =
      let size : length (step5_shares total held loads) ≡ length held = (promise total held loads).size in
      fill-whole (length held) (at (step5_shares total held loads)) output e
      ∙ (rw (← size) (tab-at (step5_shares total held loads)))
