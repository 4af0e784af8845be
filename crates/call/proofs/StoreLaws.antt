-- What stores leave, and what a word is after a store, wherever it stands.
use Prim.Native.Nat.{ℕ, ◌+◌, ◌-◌, ◌≤◌, ◌<◌}
use mathlib.Core.Path.{◌≡◌}
use mathlib.Core.List.{List}
use native.Mathlib.Decide.{ℕ_discrete}
use lib.ListN.{length, set}
use Rattle.base.specs.Words.{at}
use Rattle.base.specs.Limits.{state_words}
use Rattle.state.specs.Layout.{place}
use Rattle.state.proofs.FrameLaws.{at_stored, at-other-row, at-other-column}

-- what holds of the old word, and of the stored one where it was stored, holds of the word after the store
pub word-by : (P : ℕ → Type 0) (s : List ℕ) (r c v r' c' : ℕ) → state_words ≤ length s → r < 333 → c < 48 → c' < 48 → (r' ≡ r → c' ≡ c → P v) → P (at s (place r' c')) → P (at (set s (place r c) v) (place r' c'))
word-by P s r c v r' c' long row l l' stored old =
    elim (ℕ_discrete r' r) [
      | yes e ↦
          elim (ℕ_discrete c' c) [
            | yes f ↦
                let there : at (set s (place r c) v) (place r' c') ≡ v = rw (e, f) (at_stored s r c v long row l) in
                rw there (stored e f)
            | no other ↦ rw (at-other-column s r c v r' c' l l' other) old
          ]
      | no other ↦ rw (at-other-row s r c v r' c' l l' other) old
    ]

-- kW carried from a place to another: both words are read, then both are stored
pub carried : (s : List ℕ) (p q kw : ℕ) {from to : ℕ} {half t : List ℕ} → from ≡ at s p → to ≡ at s q → half ≡ set s p (from - kw) → t ≡ set half q (to + kw) → t ≡ set (set s p (at s p - kw)) q (at s q + kw)
carried s p q kw e f g h = cc
