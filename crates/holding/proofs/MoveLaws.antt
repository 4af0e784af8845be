-- A move that is done: what it finds where no refusal applies, and what it changes. The state after it is orderly.
use Prim.Native.Nat.{ℕ, ◌+◌, ◌-◌, ◌≤◌, ◌<◌}
use mathlib.Core.Path.{◌≡◌, ap, ◌∙◌}
use mathlib.Core.Bool.{not, ◌||◌}
use mathlib.Core.List.{List}
use mathlib.Core.Logic.{◌≢◌, ◌⊎◌}
use native.Mathlib.Decide.{ℕ_discrete}
use native.Mathlib.Omega.{arith}
use lib.Dec.{ltb, eqb}
use lib.ListN.{length, set, length-set}
use borrow.Author.Tests.{eqb-false, ltb-false}
use Rattle.base.specs.Sums.{sum_to}
use Rattle.base.proofs.ChoiceLaws.{or_left, or_right}
use Rattle.base.specs.Limits.{state_words}
use Rattle.state.specs.Layout.{interties, holders, stage_of, unassigned_of, unplaced_of, placed_at, placed_of, taken_of, locked_of, term_of, on_intertie, of_holder}
use Rattle.state.specs.Orderly.{state_refusal}
use Rattle.state.proofs.OrderlyLaws.{Orderly, refusal-none, placed-most}
use Rattle.state.proofs.FrameLaws.{SameRows, SameOpening, same-trans, same-within, same-store-below, same-store-past, same-holders, same-pair, at-other-row, column-sum-stored, column-sum-apart}
use Rattle.call.specs.Tests.{no_holder, no_intertie, bad_kw}
use Rattle.call.proofs.LadderLaws.{none_first, none-second, not-whenever, not_first}
use Rattle.call.proofs.TestLaws.{is-holder, is-intertie, either-stage, kw-in-range}
use Rattle.call.proofs.StoreLaws.{word-by}
use Rattle.call.proofs.KeptLaws.{SameRequests, on-intertie-same, of-holder-same, same-unplaced, same-unplaced-sum, pending-after, no-pending-after, sellers-after, orderly-after}
use Rattle.holding.specs.Move.{move_refusal, move_state}

-- what holds where no number applies
pub record MoveDone (s : List ℕ) (giver taker i kw : ℕ) : Type 0 where
  pub long : state_words ≤ length s
  pub orderly : Orderly s
  pub stage : (stage_of s ≡ 3) ⊎ (stage_of s ≡ 4)
  pub giver-there : giver < holders s
  pub taker-there : taker < holders s
  pub intertie-there : i < interties s
  pub two : giver ≢ taker
  pub kw-least : 1 ≤ kw
  pub kw-most : kw ≤ 20000000
  pub enough : locked_of s giver i + kw ≤ placed_of s giver i

pub move-done : (s : List ℕ) (giver taker i kw : ℕ) → move_refusal s giver taker i kw ≡ 0 → MoveDone s giver taker i kw
unfolding move_refusal
move-done s giver taker i kw e =
    let a = no_holder s giver in
    let b = no_holder s taker in
    let c = no_intertie s i in
    let d = eqb giver taker in
    let rung7 = not_first (not (eqb (stage_of s) 3 || eqb (stage_of s) 4)) 7 _ (omega arith) (none-second (state_refusal s) _ e) in
    let rung8 = not_first (a || b || d || c) 8 _ (omega arith) rung7.1 in
    let rung9 = not_first (bad_kw kw) 9 _ (omega arith) rung8.1 in
    let rung10 = not-whenever (ltb (placed_of s giver i - locked_of s giver i) kw) 10 (omega arith) rung9.1 in
    let state = refusal-none s (none_first (state_refusal s) _ e) in
    let parties = or_left (a || b || d) c rung8.0 in
    let kwRange = kw-in-range kw rung9.0 in
    let left = ltb-false (placed_of s giver i - locked_of s giver i) kw rung10 in
    record {
      long = state.0;
      orderly = state.1;
      stage = either-stage (stage_of s) 3 4 rung7.0;
      giver-there = is-holder s giver (or_left a b (or_left (a || b) d parties));
      taker-there = is-holder s taker (or_right a b (or_left (a || b) d parties));
      intertie-there = is-intertie s i (or_right (a || b || d) c rung8.0);
      two = eqb-false giver taker (or_right (a || b) d parties);
      kw-least = kwRange.0;
      kw-most = kwRange.1;
      enough = omega arith;
    }

-- what the taker has placed after the move fits a word
pub move-fits : (s : List ℕ) (giver taker i kw : ℕ) → MoveDone s giver taker i kw → placed_of s taker i + kw ≤ 40000000
move-fits s giver taker i kw d = omega (arith, placed-most d.orderly taker i d.taker-there d.intertie-there, d.kw-most)

module _ (s : List ℕ) (giver taker i kw : ℕ) (d : MoveDone s giver taker i kw) where
  o : Orderly s
  o = d.orderly

  column : i < 48
  column = omega (arith, d.intertie-there, o.interties-most)

  -- the state between the two stores
  abbrev half : List ℕ
  half = set s (placed_at giver i) (placed_of s giver i - kw)

  pub move-length : length (move_state s giver taker i kw) ≡ length s
  unfolding move_state
  move-length = length-set half (placed_at taker i) (placed_of s taker i + kw) ∙ length-set s (placed_at giver i) (placed_of s giver i - kw)

  half-long : state_words ≤ length half
  half-long = omega (arith, d.long, length-set s (placed_at giver i) (placed_of s giver i - kw))

  -- all but placed is as it was: the rows below it and the rows past it
  pub move-below : SameRows 0 109 s (move_state s giver taker i kw)
  unfolding move_state
  move-below =
      same-trans (same-store-past 0 109 s (109 + giver) i _ column (omega arith)) (same-store-past 0 109 half (109 + taker) i _ column (omega arith))

  pub move-past : SameRows 141 333 s (move_state s giver taker i kw)
  unfolding move_state
  move-past =
      let g : 109 + giver < 141 = omega (arith, d.giver-there, o.holders-most) in
      let h : 109 + taker < 141 = omega (arith, d.taker-there, o.holders-most) in
      same-trans (same-store-below 141 333 s (109 + giver) i _ column g) (same-store-below 141 333 half (109 + taker) i _ column h)

  pub move-opening : SameOpening s (move_state s giver taker i kw)
  move-opening = same-within (omega arith) (omega arith) move-below

  -- the stage, and the requests
  pub move-stage : stage_of (move_state s giver taker i kw) ≡ stage_of s
  move-stage = move-below.same 103 0 (omega arith) (omega arith) (omega arith)

  pub move-requests : SameRequests s (move_state s giver taker i kw)
  move-requests =
      record {
        opening = move-opening;
        stage = move-stage;
        unplaced = same-within (omega arith) (omega arith) move-below;
        pending = same-within (omega arith) (omega arith) move-past;
      }

  pub move-unplaced : (h : ℕ) → h < holders s → unplaced_of (move_state s giver taker i kw) h ≡ unplaced_of s h
  move-unplaced = same-unplaced o move-requests

  -- on each intertie unassigned, and the sums of placed and of taken
  pub move-unassigned : (j : ℕ) → j < interties s → unassigned_of (move_state s giver taker i kw) j ≡ unassigned_of s j
  move-unassigned j l = move-below.same 104 j (omega arith) (omega arith) (omega (arith, o.interties-most))

  pub move-taken-sum : (j : ℕ) → j < interties s → on_intertie taken_of (move_state s giver taker i kw) j ≡ on_intertie taken_of s j
  move-taken-sum j l = on-intertie-same 141 move-opening move-past (omega arith) (omega arith) j o.holders-most (omega (arith, o.interties-most))

  -- over the first n holders, both parties among them, placed has the same sum
  column-sum : (n j : ℕ) → n ≤ 32 → giver < n → taker < n → j < 48 → sum_to n (λ h. placed_of (move_state s giver taker i kw) h j) ≡ sum_to n (λ h. placed_of s h j)
  unfolding move_state
  column-sum n j few g t l =
      elim (ℕ_discrete j i) [
        | yes e ↦
            let first = column-sum-stored s 109 n giver i (placed_of s giver i - kw) d.long (omega arith) few g column in
            let second = column-sum-stored half 109 n taker i (placed_of s taker i + kw) half-long (omega arith) few t column in
            let untouched : placed_of half taker i ≡ placed_of s taker i = at-other-row s (109 + giver) i (placed_of s giver i - kw) (109 + taker) i column column (λ same. d.two (omega arith)) in
            rw e (omega (arith, first, second, untouched, d.enough))
        | no other ↦
            column-sum-apart half 109 n taker i (placed_of s taker i + kw) j column l other
            ∙ column-sum-apart s 109 n giver i (placed_of s giver i - kw) j column l other
      ]

  pub move-placed-sum : (j : ℕ) → j < interties s → on_intertie placed_of (move_state s giver taker i kw) j ≡ on_intertie placed_of s j
  move-placed-sum j l =
      ap (λ (n : ℕ). sum_to n (λ h. placed_of (move_state s giver taker i kw) h j)) (same-holders move-opening)
      ∙ column-sum (holders s) j o.holders-most d.giver-there d.taker-there (omega (arith, o.interties-most))

  -- locks
  pub move-locked : (h j : ℕ) → h < holders s → j < interties s → locked_of (move_state s giver taker i kw) h j ≡ locked_of s h j
  move-locked h j k l = same-pair 173 h j move-past (omega arith) (omega arith) (omega (arith, o.holders-most)) (omega (arith, o.interties-most))

  pub move-term : (h j : ℕ) → h < holders s → j < interties s → term_of (move_state s giver taker i kw) h j ≡ term_of s h j
  move-term h j k l = same-pair 205 h j move-past (omega arith) (omega arith) (omega (arith, o.holders-most)) (omega (arith, o.interties-most))

  pub move-locked-sum : (h : ℕ) → h < holders s → of_holder locked_of (move_state s giver taker i kw) h ≡ of_holder locked_of s h
  move-locked-sum h l = of-holder-same 173 move-opening move-past (omega arith) (omega arith) h o.interties-most (omega (arith, o.holders-most))

  -- what is placed covers what is locked, at the giver too
  placed-least : (h j : ℕ) → h < holders s → j < interties s → locked_of s h j ≤ placed_of (move_state s giver taker i kw) h j
  unfolding move_state
  placed-least h j k l =
      let l' : j < 48 = omega (arith, o.interties-most) in
      word-by (λ x. locked_of s h j ≤ x) half (109 + taker) i (placed_of s taker i + kw) (109 + h) j half-long (omega (arith, d.taker-there, o.holders-most)) column l'
      (λ e f.
      let same : h ≡ taker = omega arith in
      rw (same, f) (omega (arith, o.locked-most taker i d.taker-there d.intertie-there)))
      (word-by (λ x. locked_of s h j ≤ x) s (109 + giver) i (placed_of s giver i - kw) (109 + h) j d.long (omega (arith, d.giver-there, o.holders-most)) column l'
      (λ e f.
      let same : h ≡ giver = omega arith in
      rw (same, f) (omega (arith, d.enough)))
      (o.locked-most h j k l))

  pub move-orderly : Orderly (move_state s giver taker i kw)
  move-orderly =
      orderly-after o
      (record {
        opening = move-opening;
        stage-least = omega (arith, o.stage-least, move-stage);
        stage-most = omega (arith, o.stage-most, move-stage);
        balance = λ j l. omega (arith, move-placed-sum j l, move-taken-sum j l, move-unassigned j l);
        locked-most = λ h j k l. omega (arith, placed-least h j k l, move-locked h j k l);
        pending-most = pending-after o move-requests;
        no-pending = no-pending-after o move-requests;
        unplaced-sum-most = omega (arith, same-unplaced-sum o move-requests, o.unplaced-sum-most);
        takings-most = λ h l. omega (arith, o.takings-most h l, move-below.same 108 h (omega arith) (omega arith) (omega (arith, o.holders-most)));
        sellers-below = sellers-after o move-requests;
        term-range = λ h j k l some. rw (move-term h j k l) (o.term-range h j k l (omega (arith, move-locked h j k l)));
        no-term = λ h j k l free. move-term h j k l ∙ o.no-term h j k l (omega (arith, move-locked h j k l));
      })
