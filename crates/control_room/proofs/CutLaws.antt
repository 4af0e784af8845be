-- The figures from the words of n calls alone, with all answers or their own, are those after the first n calls of all words.
use Prim.Native.Nat.{ℕ, ◌+◌, ◌*◌, ◌<◌, ◌≤◌}
use mathlib.Core.Path.{◌≡◌, refl, ap, ◌∙◌}
use mathlib.Core.List.{List}
use native.Mathlib.Omega.{arith}
use lib.ListN.{length, take}
use Rattle.std.proofs.Common.{length-take-le, min}
use Rattle.std.proofs.lemmas.List.{get_or-take}
use Rattle.base.specs.Words.{at}
use Rattle.base.proofs.SumLaws.{sum_to-same}
use Rattle.control_room.specs.Trades.{called_count, traded_in, bought, sold}
use Rattle.control_room.specs.Figures.{holder_figures}

-- answers of which those of the first n calls are known
module _ (calls answers known : List ℕ) (n : ℕ) (room : 6 * n ≤ length calls) (rest : 3 * n ≤ length known)
    (same : (i : ℕ) → i < n → at known (3 * i) ≡ at answers (3 * i)) where
  count-cut : called_count (take (6 * n) calls) known ≡ n
  count-cut = rw (length-take-le (6 * n) calls room) (omega (arith, rest))

  traded-cut : (party h i : ℕ) → party < 6 → i < n → traded_in (take (6 * n) calls) known party h i ≡ traded_in calls answers party h i
  traded-cut party h i p l =
      rw (
        get_or-take (6 * n) calls (6 * i) 0 (omega arith),
        get_or-take (6 * n) calls (6 * i + party) 0 (omega arith),
        get_or-take (6 * n) calls (6 * i + 4) 0 (omega arith),
        same i l,
      ) refl

  figures-cut : (s : List ℕ) (h : ℕ) →
      holder_figures s (take (6 * n) calls) known (called_count (take (6 * n) calls) known) h ≡ holder_figures s calls answers n h
  unfolding holder_figures bought sold
  figures-cut s h =
      rw (
        count-cut,
        sum_to-same (min n 16384) _ (traded_in calls answers 2 h) (λ i l. traded-cut 2 h i (omega arith) (omega arith)),
        sum_to-same (min n 16384) _ (traded_in calls answers 1 h) (λ i l. traded-cut 1 h i (omega arith) (omega arith)),
      ) refl

module _ (calls answers : List ℕ) (n : ℕ) (room : 6 * n ≤ length calls) (rest : 3 * n ≤ length answers) where
  pub holder-cut : (s : List ℕ) (h : ℕ) →
      holder_figures s (take (6 * n) calls) (take (3 * n) answers) (called_count (take (6 * n) calls) (take (3 * n) answers)) h ≡ holder_figures s calls answers n h
  holder-cut =
      figures-cut calls answers (take (3 * n) answers) n room (omega (arith, length-take-le (3 * n) answers rest))
      (λ i l. get_or-take (3 * n) answers (3 * i) 0 (omega arith))

  -- as program `year` asks for them
  pub holder-of-calls : (s : List ℕ) (h : ℕ) →
      holder_figures s (take (6 * n) calls) answers (called_count (take (6 * n) calls) answers) h ≡ holder_figures s calls answers n h
  holder-of-calls = figures-cut calls answers answers n room rest (λ i l. refl)

  pub bought-of-calls : (h : ℕ) → bought (take (6 * n) calls) answers (called_count (take (6 * n) calls) answers) h ≡ bought calls answers n h
  unfolding bought
  bought-of-calls h =
      rw (count-cut calls answers answers n room rest (λ i l. refl))
      (sum_to-same (min n 16384) _ (traded_in calls answers 2 h) (λ i l. traded-cut calls answers answers n room rest (λ j k. refl) 2 h i (omega arith) (omega arith)))

  pub sold-of-calls : (h : ℕ) → sold (take (6 * n) calls) answers (called_count (take (6 * n) calls) answers) h ≡ sold calls answers n h
  unfolding sold
  sold-of-calls h =
      rw (count-cut calls answers answers n room rest (λ i l. refl))
      (sum_to-same (min n 16384) _ (traded_in calls answers 1 h) (λ i l. traded-cut calls answers answers n room rest (λ j k. refl) 1 h i (omega arith) (omega arith)))
