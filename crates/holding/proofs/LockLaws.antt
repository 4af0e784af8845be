-- A lock that is done: what it finds where no refusal applies, and what it changes. The state after it is orderly.
use Prim.Native.Nat.{ℕ, ◌+◌, ◌*◌, ◌≤◌, ◌<◌}
use mathlib.Core.Path.{◌≡◌, ap, ◌∙◌}
use mathlib.Core.Bool.{◌||◌}
use mathlib.Core.List.{List}
use mathlib.Core.Logic.{◌≢◌}
use native.Mathlib.Decide.{ℕ_discrete}
use native.Mathlib.Omega.{arith}
use lib.Dec.{ltb}
use lib.ListN.{length, set, length-set}
use borrow.Author.Tests.{ltb-false}
use Rattle.base.specs.Sums.{sum_to}
use Rattle.base.specs.Words.{at}
use Rattle.base.proofs.SumLaws.{sum_to-bound}
use Rattle.base.proofs.ChoiceLaws.{or_left, or_right}
use Rattle.base.specs.Limits.{state_words}
use Rattle.state.specs.Layout.{interties, holders, stage_of, step7_total_of, reserved_of, unassigned_of, unplaced_of, placed_of, taken_of, locked_at, locked_of, term_at, term_of, on_intertie, of_holder}
use Rattle.state.proofs.OrderlyLaws.{Orderly, refusal-none}
use Rattle.state.proofs.FrameLaws.{SameRows, SameOpening, same-trans, same-within, same-store-below, same-store-past, same-interties, same-pair, at_stored, at-apart, at-other-row, row-sum-stored, row-sum-apart}
use Rattle.call.specs.Tests.{open_refusal, no_holder, no_intertie, bad_kw, bad_term}
use Rattle.call.proofs.LadderLaws.{none_first, none-second, not-whenever, not_first}
use Rattle.call.proofs.TestLaws.{open-none, is-holder, is-intertie, kw-in-range, term-in-range}
use Rattle.call.proofs.KeptLaws.{SameRequests, on-intertie-same, same-unplaced, same-unplaced-sum, pending-after, no-pending-after, sellers-after, orderly-after}
use Rattle.holding.specs.Lock.{past_three_quarters, lock_refusal, lock_state}

-- the locked words of a holder together, as words of 32 bits
pub locked-most : (s : List ℕ) (h : ℕ) → interties s ≤ 48 → ((p : ℕ) → at s p < 4294967296) → of_holder locked_of s h ≤ 206158430160
locked-most s h few word =
    omega (arith, sum_to-bound (interties s) 4294967295 (λ i. locked_of s h i) (λ i l. omega (arith, word (locked_at h i))))

-- what holds where no number applies
pub record LockDone (s : List ℕ) (h i kw term : ℕ) : Type 0 where
  pub long : state_words ≤ length s
  pub orderly : Orderly s
  pub stage : stage_of s ≡ 4
  pub holder-there : h < holders s
  pub intertie-there : i < interties s
  pub kw-least : 1 ≤ kw
  pub kw-most : kw ≤ 20000000
  pub term-least : 1 ≤ term
  pub term-most : term ≤ 30
  pub enough : kw ≤ placed_of s h i
  pub free : locked_of s h i ≡ 0
  pub three_quarters : 4 * (reserved_of s h + (of_holder locked_of s h + kw)) ≤ 3 * step7_total_of s h

pub lock-done : (s : List ℕ) (h i kw term : ℕ) → lock_refusal s h i kw term ≡ 0 → LockDone s h i kw term
unfolding lock_refusal
lock-done s h i kw term e =
    let held = ltb 0 (locked_of s h i) in
    let past = past_three_quarters s h kw in
    let rung8 = not_first (no_holder s h || no_intertie s i) 8 _ (omega arith) (none-second (open_refusal s) _ e) in
    let rung9 = not_first (bad_kw kw || bad_term term) 9 _ (omega arith) rung8.1 in
    let rung10 = not_first (ltb (placed_of s h i) kw) 10 _ (omega arith) rung9.1 in
    let rung13 = not-whenever (held || past) 13 (omega arith) rung10.1 in
    let ready = open-none s (none_first (open_refusal s) _ e) in
    let state = refusal-none s ready.0 in
    let kwRange = kw-in-range kw (or_left (bad_kw kw) (bad_term term) rung9.0) in
    let termRange = term-in-range term (or_right (bad_kw kw) (bad_term term) rung9.0) in
    record {
      long = state.0;
      orderly = state.1;
      stage = ready.1;
      holder-there = is-holder s h (or_left (no_holder s h) (no_intertie s i) rung8.0);
      intertie-there = is-intertie s i (or_right (no_holder s h) (no_intertie s i) rung8.0);
      kw-least = kwRange.0;
      kw-most = kwRange.1;
      term-least = termRange.0;
      term-most = termRange.1;
      enough = ltb-false (placed_of s h i) kw rung10.0;
      free = omega (arith, ltb-false 0 (locked_of s h i) (or_left held past rung13));
      three_quarters = ltb-false (3 * step7_total_of s h) (4 * (reserved_of s h + (of_holder locked_of s h + kw))) (or_right held past rung13);
    }

module _ (s : List ℕ) (h i kw term : ℕ) (d : LockDone s h i kw term) where
  o : Orderly s
  o = d.orderly

  holder-row : h < 32
  holder-row = omega (arith, d.holder-there, o.holders-most)

  column : i < 48
  column = omega (arith, d.intertie-there, o.interties-most)

  -- the state between the two stores
  abbrev half : List ℕ
  half = set s (locked_at h i) kw

  half-long : state_words ≤ length half
  half-long = omega (arith, d.long, length-set s (locked_at h i) kw)

  pub lock-length : length (lock_state s h i kw term) ≡ length s
  unfolding lock_state
  lock-length = length-set half (term_at h i) term ∙ length-set s (locked_at h i) kw

  -- all but locked and the terms is as it was: the rows below them and the rows past them
  pub lock-below : SameRows 0 173 s (lock_state s h i kw term)
  unfolding lock_state
  lock-below =
      same-trans (same-store-past 0 173 s (173 + h) i kw column (omega arith)) (same-store-past 0 173 half (205 + h) i term column (omega arith))

  pub lock-past : SameRows 237 333 s (lock_state s h i kw term)
  unfolding lock_state
  lock-past =
      same-trans (same-store-below 237 333 s (173 + h) i kw column (omega (arith, holder-row))) (same-store-below 237 333 half (205 + h) i term column (omega (arith, holder-row)))

  pub lock-opening : SameOpening s (lock_state s h i kw term)
  lock-opening = same-within (omega arith) (omega arith) lock-below

  -- the stage, and the requests
  pub lock-stage : stage_of (lock_state s h i kw term) ≡ stage_of s
  lock-stage = lock-below.same 103 0 (omega arith) (omega arith) (omega arith)

  pub lock-requests : SameRequests s (lock_state s h i kw term)
  lock-requests =
      record {
        opening = lock-opening;
        stage = lock-stage;
        unplaced = same-within (omega arith) (omega arith) lock-below;
        pending = same-within (omega arith) (omega arith) lock-past;
      }

  pub lock-unplaced : (g : ℕ) → g < holders s → unplaced_of (lock_state s h i kw term) g ≡ unplaced_of s g
  lock-unplaced = same-unplaced o lock-requests

  -- on each intertie unassigned, and the sums of placed and of taken
  pub lock-unassigned : (j : ℕ) → j < interties s → unassigned_of (lock_state s h i kw term) j ≡ unassigned_of s j
  lock-unassigned j l = lock-below.same 104 j (omega arith) (omega arith) (omega (arith, o.interties-most))

  pub lock-placed-sum : (j : ℕ) → j < interties s → on_intertie placed_of (lock_state s h i kw term) j ≡ on_intertie placed_of s j
  lock-placed-sum j l = on-intertie-same 109 lock-opening lock-below (omega arith) (omega arith) j o.holders-most (omega (arith, o.interties-most))

  pub lock-taken-sum : (j : ℕ) → j < interties s → on_intertie taken_of (lock_state s h i kw term) j ≡ on_intertie taken_of s j
  lock-taken-sum j l = on-intertie-same 141 lock-opening lock-below (omega arith) (omega arith) j o.holders-most (omega (arith, o.interties-most))

  -- the pair's lock
  pub lock-locked : locked_of (lock_state s h i kw term) h i ≡ kw
  unfolding lock_state
  lock-locked =
      at-other-row half (205 + h) i term (173 + h) i column column (λ e. omega arith)
      ∙ at_stored s (173 + h) i kw d.long (omega (arith, holder-row)) column

  pub lock-term : term_of (lock_state s h i kw term) h i ≡ term
  unfolding lock_state
  lock-term = at_stored half (205 + h) i term half-long (omega (arith, holder-row)) column

  -- the locks of other pairs
  pub lock-other-locked : (g j : ℕ) → g < 32 → j < 48 → (g ≡ h → j ≡ i → ⊥) → locked_of (lock_state s h i kw term) g j ≡ locked_of s g j
  unfolding lock_state
  lock-other-locked g j k l other =
      at-other-row half (205 + h) i term (173 + g) j column l (λ e. omega arith)
      ∙ at-apart s (173 + h) i kw (173 + g) j column l (λ e f. other (omega arith) f)

  pub lock-other-term : (g j : ℕ) → g < 32 → j < 48 → (g ≡ h → j ≡ i → ⊥) → term_of (lock_state s h i kw term) g j ≡ term_of s g j
  unfolding lock_state
  lock-other-term g j k l other =
      at-apart half (205 + h) i term (205 + g) j column l (λ e f. other (omega arith) f)
      ∙ at-other-row s (173 + h) i kw (205 + g) j column l (λ e. omega (arith, holder-row))

  -- what holds of the old locks, and of the new one where it is, holds of the locks after it
  lock-by : (P : ℕ → ℕ → Type 0) (g j : ℕ) → g < holders s → j < interties s → (g ≡ h → j ≡ i → P kw term) → P (locked_of s g j) (term_of s g j) → P (locked_of (lock_state s h i kw term) g j) (term_of (lock_state s h i kw term) g j)
  lock-by P g j k l new old =
      let k' : g < 32 = omega (arith, o.holders-most) in
      let l' : j < 48 = omega (arith, o.interties-most) in
      let elsewhere : (g ≡ h → j ≡ i → ⊥) → P (locked_of (lock_state s h i kw term) g j) (term_of (lock_state s h i kw term) g j) = λ other. rw (lock-other-locked g j k' l' other, lock-other-term g j k' l' other) old in
      elim (ℕ_discrete g h) [
        | yes e ↦
            elim (ℕ_discrete j i) [
              | yes f ↦ rw (e, f, lock-locked, lock-term) (new e f)
              | no other ↦ elsewhere (λ e f. other f)
            ]
        | no other ↦ elsewhere (λ e f. other e)
      ]

  -- the locked kW of the holder, and of the others
  pub lock-locked-sum : of_holder locked_of (lock_state s h i kw term) h ≡ of_holder locked_of s h + kw
  unfolding lock_state
  lock-locked-sum =
      let outer = row-sum-apart half (205 + h) i term (173 + h) (interties s) column o.interties-most (λ e. omega arith) in
      let inner = row-sum-stored s (173 + h) (interties s) i kw d.long (omega (arith, holder-row)) o.interties-most d.intertie-there in
      ap (λ (n : ℕ). sum_to n (λ j. locked_of (lock_state s h i kw term) h j)) (same-interties lock-opening)
      ∙ (omega (arith, outer, inner, d.free))

  pub lock-other-sum : (g : ℕ) → g < holders s → g ≢ h → of_holder locked_of (lock_state s h i kw term) g ≡ of_holder locked_of s g
  unfolding lock_state
  lock-other-sum g l other =
      ap (λ (n : ℕ). sum_to n (λ j. locked_of (lock_state s h i kw term) g j)) (same-interties lock-opening)
      ∙ row-sum-apart half (205 + h) i term (173 + g) (interties s) column o.interties-most (λ e. omega (arith, o.holders-most))
      ∙ row-sum-apart s (173 + h) i kw (173 + g) (interties s) column o.interties-most (λ e. other (omega arith))

  -- three quarters still hold with the lock
  pub lock-three-quarters : 4 * (reserved_of (lock_state s h i kw term) h + of_holder locked_of (lock_state s h i kw term) h) ≤ 3 * step7_total_of (lock_state s h i kw term) h
  lock-three-quarters =
      omega (
        arith,
        d.three_quarters,
        lock-locked-sum,
        lock-below.same 5 h (omega arith) (omega arith) (omega (arith, holder-row)),
        lock-below.same 6 h (omega arith) (omega arith) (omega (arith, holder-row)),
      )

  lock-placed : (g j : ℕ) → g < holders s → j < interties s → placed_of (lock_state s h i kw term) g j ≡ placed_of s g j
  lock-placed g j k l = same-pair 109 g j lock-below (omega arith) (omega arith) (omega (arith, o.holders-most)) (omega (arith, o.interties-most))

  pub lock-orderly : Orderly (lock_state s h i kw term)
  lock-orderly =
      orderly-after o
      (record {
        opening = lock-opening;
        stage-least = omega (arith, o.stage-least, lock-stage);
        stage-most = omega (arith, o.stage-most, lock-stage);
        balance = λ j l. omega (arith, lock-placed-sum j l, lock-taken-sum j l, lock-unassigned j l);
        locked-most = λ g j k l. rw (lock-placed g j k l) (lock-by (λ x y. x ≤ placed_of s g j) g j k l (λ e f. rw (e, f) d.enough) (o.locked-most g j k l));
        pending-most = pending-after o lock-requests;
        no-pending = no-pending-after o lock-requests;
        unplaced-sum-most = omega (arith, same-unplaced-sum o lock-requests, o.unplaced-sum-most);
        takings-most = λ g l. omega (arith, o.takings-most g l, lock-below.same 108 g (omega arith) (omega arith) (omega (arith, o.holders-most)));
        sellers-below = sellers-after o lock-requests;
        term-range = λ g j k l. lock-by (λ x y. 0 < x → (1 ≤ y) × (y ≤ 30)) g j k l (λ e f some. (d.term-least, d.term-most)) (o.term-range g j k l);
        no-term = λ g j k l. lock-by (λ x y. x ≡ 0 → y ≡ 0) g j k l (λ e f free. omega (arith, d.kw-least)) (o.no-term g j k l);
      })
