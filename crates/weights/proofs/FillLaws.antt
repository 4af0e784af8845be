-- A loop that writes a row number by number: what it has after some turns, with laws for none, for one more and for all of them.
use Prim.Native.Nat.{ℕ, ◌+◌, ◌≤◌, ◌<◌, zero-le}
use mathlib.Core.Path.{◌≡◌, refl, sym, ◌∙◌}
use mathlib.Core.List.{List}
use native.Mathlib.Omega.{arith}
use lib.ListN.{length, set, length-set}
use Rattle.base.specs.Words.{fill}
use Rattle.base.proofs.WordLaws.{fill-zero, fill-turn, fill_done}

-- the first c numbers of n of a row are written
pub record Filled (f : ℕ → ℕ) (n : ℕ) (first row : List ℕ) (c : ℕ) : Type 0 where
  pub inside : c ≤ n
  pub size : length row ≡ length first
  pub written : row ≡ fill c f first

module _ (f : ℕ → ℕ) (n : ℕ) (first : List ℕ) where
  pub filled_none : Filled f n first first 0
  filled_none = record { inside = zero-le; size = refl; written = sym (fill-zero f first) }

  pub filled_next : (row : List ℕ) (c x : ℕ) → Filled f n first row c → c < n → x ≡ f c → Filled f n first (set row c x) (c + 1)
  filled_next row c x r l e =
      record { inside = omega arith; size = length-set row c x ∙ r.size; written = fill-turn c f first row x r.written e }

  pub filled-all : (row : List ℕ) (c : ℕ) → Filled f n first row c → n ≤ c → row ≡ fill n f first
  filled-all row c r l = fill_done c n f first row r.written r.inside l
