-- A taking that is done: what it finds where no refusal applies, and what it changes. The state after it is orderly.
use Prim.Native.Nat.{ℕ, ◌+◌, ◌-◌, ◌≤◌, ◌<◌}
use mathlib.Core.Path.{◌≡◌, ap, ◌∙◌}
use mathlib.Core.Bool.{◌||◌}
use mathlib.Core.List.{List}
use mathlib.Core.Logic.{◌≢◌}
use native.Mathlib.Decide.{ℕ_discrete}
use native.Mathlib.Omega.{arith}
use lib.Dec.{leb, ltb, eqb}
use lib.ListN.{length, set, length-set}
use borrow.Author.Tests.{ltb-false, leb-false, eqb-false}
use Rattle.base.specs.Sums.{sum_to}
use Rattle.base.specs.Words.{at}
use Rattle.base.proofs.ChoiceLaws.{or_left, or_right}
use Rattle.base.proofs.SumLaws.{sum_to-same}
use Rattle.base.specs.Limits.{state_words}
use Rattle.state.specs.Layout.{place, interties, holders, stage_of, last_day_at, last_day_of, unassigned_at, unassigned_of, unplaced_of, last_week_at, last_week_of, takings_at, takings_of, placed_of, taken_at, taken_of, locked_of, term_of, on_intertie, of_holder}
use Rattle.state.proofs.OrderlyLaws.{Orderly, refusal-none, taken-most}
use Rattle.state.proofs.FrameLaws.{SameRows, SameOpening, same-holders, same-pair, at_stored, at-other-row, at-other-column, column-sum-stored, column-sum-apart}
use Rattle.call.specs.Tests.{open_refusal, no_holder, no_intertie, bad_kw}
use Rattle.call.proofs.LadderLaws.{none_first, none-second, not-whenever, not_first}
use Rattle.call.proofs.TestLaws.{open-none, is-holder, is-intertie, kw-in-range}
use Rattle.call.proofs.StoreLaws.{word-by}
use Rattle.call.proofs.KeptLaws.{SameRequests, on-intertie-same, of-holder-same, same-unplaced, same-unplaced-sum, pending-after, no-pending-after, sellers-after, orderly-after}
use Rattle.taking.specs.declared.Calendar.{Calendar}
use Rattle.taking.specs.Calendar.{week_of, count_in, refuses_day, after_taking}
use Rattle.taking.specs.Take.{calendar_of, take_refusal, take_kw, with_calendar, take_state}

-- what holds where no number applies
pub record TakeDone (s : List ℕ) (h i kw day : ℕ) : Type 0 where
  pub long : state_words ≤ length s
  pub orderly : Orderly s
  pub stage : stage_of s ≡ 4
  pub holder-there : h < holders s
  pub intertie-there : i < interties s
  pub kw-least : 1 ≤ kw
  pub kw-most : kw ≤ 20000000
  pub not-before : last_day_of s ≤ day
  pub under-two : count_in (calendar_of s h) (week_of day) < 2
  pub some_left : 0 < unassigned_of s i

pub take_done : (s : List ℕ) (h i kw day : ℕ) → take_refusal s h i kw day ≡ 0 → TakeDone s h i kw day
unfolding take_refusal
take_done s h i kw day e =
    let early = ltb day (last_day_of s) in
    let third = leb 2 (count_in (calendar_of s h) (week_of day)) in
    let rung8 = not_first (no_holder s h || no_intertie s i) 8 _ (omega arith) (none-second (open_refusal s) _ e) in
    let rung9 = not_first (bad_kw kw) 9 _ (omega arith) rung8.1 in
    let rung11 = not_first (refuses_day (calendar_of s h) day) 11 _ (omega arith) rung9.1 in
    let rung12 = not-whenever (eqb (unassigned_of s i) 0) 12 (omega arith) rung11.1 in
    let ready = open-none s (none_first (open_refusal s) _ e) in
    let state = refusal-none s ready.0 in
    let kwRange = kw-in-range kw rung9.0 in
    let some : unassigned_of s i ≢ 0 = eqb-false (unassigned_of s i) 0 rung12 in
    record {
      long = state.0;
      orderly = state.1;
      stage = ready.1;
      holder-there = is-holder s h (or_left (no_holder s h) (no_intertie s i) rung8.0);
      intertie-there = is-intertie s i (or_right (no_holder s h) (no_intertie s i) rung8.0);
      kw-least = kwRange.0;
      kw-most = kwRange.1;
      not-before = ltb-false day (last_day_of s) (or_left early third rung11.0);
      under-two = leb-false 2 (count_in (calendar_of s h) (week_of day)) (or_right early third rung11.0);
      some_left = omega arith;
    }

-- the stores, by what was read and made before them
pub take-stored : (s : List ℕ) (h i kw day : ℕ) {g : ℕ} {c : Calendar} {half t : List ℕ} → g ≡ take_kw s i kw → c ≡ after_taking (calendar_of s h) day → half ≡ set (set s (unassigned_at i) (unassigned_of s i - g)) (taken_at h i) (taken_of s h i + g) → t ≡ with_calendar half h c → t ≡ take_state s h i kw day
unfolding take_state
take-stored s h i kw day eg ec eh et = et ∙ rw (eh, ec, eg)

module _ (s : List ℕ) (h i kw day : ℕ) (d : TakeDone s h i kw day) where
  o : Orderly s
  o = d.orderly

  -- what is granted: something, and no more than is unassigned
  pub take-some : 0 < take_kw s i kw
  take-some = omega (arith, d.kw-least, d.some_left)

  pub take_within : take_kw s i kw ≤ unassigned_of s i
  take_within = omega arith

  -- the kW fit words
  pub take-fits : taken_of s h i + take_kw s i kw ≤ 40000000
  take-fits = omega (arith, taken-most o h i d.holder-there d.intertie-there, d.kw-most)

  holder-row : h < 32
  holder-row = omega (arith, d.holder-there, o.holders-most)

  holder-column : h < 48
  holder-column = omega (arith, holder-row)

  column : i < 48
  column = omega (arith, d.intertie-there, o.interties-most)

  -- the states between the stores
  abbrev assigned : List ℕ
  assigned = set s (unassigned_at i) (unassigned_of s i - take_kw s i kw)

  abbrev given : List ℕ
  given = set assigned (taken_at h i) (taken_of s h i + take_kw s i kw)

  abbrev dated : List ℕ
  dated = set given last_day_at day

  abbrev weekly : List ℕ
  weekly = set dated (last_week_at h) (week_of day)

  assigned-long : length assigned ≡ length s
  assigned-long = length-set s (unassigned_at i) (unassigned_of s i - take_kw s i kw)

  given-long : length given ≡ length s
  given-long = length-set assigned (taken_at h i) (taken_of s h i + take_kw s i kw) ∙ assigned-long

  dated-long : length dated ≡ length s
  dated-long = length-set given last_day_at day ∙ given-long

  weekly-long : length weekly ≡ length s
  weekly-long = length-set dated (last_week_at h) (week_of day) ∙ dated-long

  pub take-length : length (take_state s h i kw day) ≡ length s
  unfolding take_state
  take-length = length-set weekly (takings_at h) (count_in (calendar_of s h) (week_of day) + 1) ∙ weekly-long

  -- a word past the stores of the calendar, past that of taken, and past all
  past-calendar : (r c : ℕ) → c < 48 → r ≢ 103 → r ≢ 107 → r ≢ 108 → at (take_state s h i kw day) (place r c) ≡ at given (place r c)
  unfolding take_state
  past-calendar r c l day' week' count' =
      at-other-row weekly 108 h (count_in (calendar_of s h) (week_of day) + 1) r c holder-column l count'
      ∙ at-other-row dated 107 h (week_of day) r c holder-column l week'
      ∙ at-other-row given 103 1 day r c (omega arith) l day'

  past-taken : (r c : ℕ) → c < 48 → r ≢ 103 → r ≢ 107 → r ≢ 108 → r ≢ 141 + h → at (take_state s h i kw day) (place r c) ≡ at assigned (place r c)
  past-taken r c l day' week' count' taken' =
      past-calendar r c l day' week' count'
      ∙ at-other-row assigned (141 + h) i (taken_of s h i + take_kw s i kw) r c column l taken'

  -- rows that no store is in are as they were
  pub take-rows : (a b : ℕ) → ((r : ℕ) → a ≤ r → r < b → (r ≢ 103) × (r ≢ 104) × (r ≢ 107) × (r ≢ 108) × (r ≢ 141 + h)) → SameRows a b s (take_state s h i kw day)
  take-rows a b apart =
      record {
        same = λ r c p q l.
            let other = apart r p q in
            past-taken r c l other.0 other.2 other.3 other.4
            ∙ at-other-row s 104 i (unassigned_of s i - take_kw s i kw) r c column l other.1;
      }

  pub take-opening : SameOpening s (take_state s h i kw day)
  take-opening = take-rows 0 103 (λ r p q. omega arith)

  -- placed, and locked, terms and pending
  pub take-placed : SameRows 109 141 s (take_state s h i kw day)
  take-placed = take-rows 109 141 (λ r p q. omega arith)

  pub take_past : SameRows 173 333 s (take_state s h i kw day)
  take_past = take-rows 173 333 (λ r p q. omega (arith, holder-row))

  -- the stage, and the requests
  pub take-stage : stage_of (take_state s h i kw day) ≡ stage_of s
  unfolding take_state
  take-stage =
      at-other-row weekly 108 h (count_in (calendar_of s h) (week_of day) + 1) 103 0 holder-column (omega arith) (omega arith)
      ∙ at-other-row dated 107 h (week_of day) 103 0 holder-column (omega arith) (omega arith)
      ∙ at-other-column given 103 1 day 103 0 (omega arith) (omega arith) (omega arith)
      ∙ at-other-row assigned (141 + h) i (taken_of s h i + take_kw s i kw) 103 0 column (omega arith) (omega arith)
      ∙ at-other-row s 104 i (unassigned_of s i - take_kw s i kw) 103 0 column (omega arith) (omega arith)

  pub take-requests : SameRequests s (take_state s h i kw day)
  take-requests =
      record {
        opening = take-opening;
        stage = take-stage;
        unplaced = take-rows 105 107 (λ r p q. omega arith);
        pending = take-rows 237 269 (λ r p q. omega (arith, holder-row));
      }

  pub take-unplaced : (k : ℕ) → k < holders s → unplaced_of (take_state s h i kw day) k ≡ unplaced_of s k
  take-unplaced = same-unplaced o take-requests

  -- unassigned on the intertie, and on the others
  pub take-unassigned : unassigned_of (take_state s h i kw day) i + take_kw s i kw ≡ unassigned_of s i
  take-unassigned =
      omega (
        arith,
        past-taken 104 i column (omega arith) (omega arith) (omega arith) (omega arith),
        at_stored s 104 i (unassigned_of s i - take_kw s i kw) d.long (omega arith) column,
      )

  pub take-other-unassigned : (j : ℕ) → j < interties s → j ≢ i → unassigned_of (take_state s h i kw day) j ≡ unassigned_of s j
  take-other-unassigned j l other =
      let l' : j < 48 = omega (arith, o.interties-most) in
      past-taken 104 j l' (omega arith) (omega arith) (omega arith) (omega arith)
      ∙ at-other-column s 104 i (unassigned_of s i - take_kw s i kw) 104 j column l' other

  -- placed, summed on an intertie
  pub take-placed-sum : (j : ℕ) → j < interties s → on_intertie placed_of (take_state s h i kw day) j ≡ on_intertie placed_of s j
  take-placed-sum j l = on-intertie-same 109 take-opening take-placed (omega arith) (omega arith) j o.holders-most (omega (arith, o.interties-most))

  -- taken, summed over the holders, as far as the store of taken, and before it
  taken-after : (j : ℕ) → j < 48 → on_intertie taken_of (take_state s h i kw day) j ≡ sum_to (holders s) (λ k. taken_of given k j)
  taken-after j l =
      ap (λ (n : ℕ). sum_to n (λ k. taken_of (take_state s h i kw day) k j)) (same-holders take-opening)
      ∙ sum_to-same (holders s) (λ k. taken_of (take_state s h i kw day) k j) (λ k. taken_of given k j)
      (λ k m. past-calendar (141 + k) j l (omega arith) (omega arith) (omega arith))

  taken-before : (j : ℕ) → j < 48 → sum_to (holders s) (λ k. taken_of assigned k j) ≡ on_intertie taken_of s j
  taken-before j l =
      sum_to-same (holders s) (λ k. taken_of assigned k j) (λ k. taken_of s k j)
      (λ k m. at-other-row s 104 i (unassigned_of s i - take_kw s i kw) (141 + k) j column l (omega arith))

  -- taken on the intertie, and on the others
  pub take-taken-sum : on_intertie taken_of (take_state s h i kw day) i ≡ on_intertie taken_of s i + take_kw s i kw
  take-taken-sum =
      let stored = column-sum-stored assigned 141 (holders s) h i (taken_of s h i + take_kw s i kw) (omega (arith, assigned-long, d.long)) (omega arith) o.holders-most d.holder-there column in
      let word : taken_of assigned h i ≡ taken_of s h i = at-other-row s 104 i (unassigned_of s i - take_kw s i kw) (141 + h) i column column (omega arith) in
      omega (arith, taken-after i column, taken-before i column, stored, word)

  pub take-other-taken-sum : (j : ℕ) → j < interties s → j ≢ i → on_intertie taken_of (take_state s h i kw day) j ≡ on_intertie taken_of s j
  take-other-taken-sum j l other =
      let l' : j < 48 = omega (arith, o.interties-most) in
      taken-after j l'
      ∙ column-sum-apart assigned 141 (holders s) h i (taken_of s h i + take_kw s i kw) j column l' other
      ∙ taken-before j l'

  -- locks
  pub take-locked : (k j : ℕ) → k < holders s → j < interties s → locked_of (take_state s h i kw day) k j ≡ locked_of s k j
  take-locked k j p l = same-pair 173 k j take_past (omega arith) (omega arith) (omega (arith, o.holders-most)) (omega (arith, o.interties-most))

  pub take-term : (k j : ℕ) → k < holders s → j < interties s → term_of (take_state s h i kw day) k j ≡ term_of s k j
  take-term k j p l = same-pair 205 k j take_past (omega arith) (omega arith) (omega (arith, o.holders-most)) (omega (arith, o.interties-most))

  pub take-locked-sum : (k : ℕ) → k < holders s → of_holder locked_of (take_state s h i kw day) k ≡ of_holder locked_of s k
  take-locked-sum k l = of-holder-same 173 take-opening take_past (omega arith) (omega arith) k o.interties-most (omega (arith, o.holders-most))

  -- the calendar
  pub take-day : last_day_of (take_state s h i kw day) ≡ day
  unfolding take_state
  take-day =
      at-other-row weekly 108 h (count_in (calendar_of s h) (week_of day) + 1) 103 1 holder-column (omega arith) (omega arith)
      ∙ at-other-row dated 107 h (week_of day) 103 1 holder-column (omega arith) (omega arith)
      ∙ at_stored given 103 1 day (omega (arith, given-long, d.long)) (omega arith) (omega arith)

  pub take-week : last_week_of (take_state s h i kw day) h ≡ week_of day
  unfolding take_state
  take-week =
      at-other-row weekly 108 h (count_in (calendar_of s h) (week_of day) + 1) 107 h holder-column holder-column (omega arith)
      ∙ at_stored dated 107 h (week_of day) (omega (arith, dated-long, d.long)) (omega arith) holder-column

  pub take_count : takings_of (take_state s h i kw day) h ≡ count_in (calendar_of s h) (week_of day) + 1
  unfolding take_state
  take_count = at_stored weekly 108 h (count_in (calendar_of s h) (week_of day) + 1) (omega (arith, weekly-long, d.long)) (omega arith) holder-column

  -- no holder has more than two takings
  takings-after : (k : ℕ) → k < holders s → takings_of (take_state s h i kw day) k ≤ 2
  unfolding take_state
  takings-after k l =
      let l' : k < 48 = omega (arith, o.holders-most) in
      let before : takings_of weekly k ≡ takings_of s k =
      at-other-row dated 107 h (week_of day) 108 k holder-column l' (omega arith)
      ∙ at-other-row given 103 1 day 108 k (omega arith) l' (omega arith)
      ∙ at-other-row assigned (141 + h) i (taken_of s h i + take_kw s i kw) 108 k column l' (omega arith)
      ∙ at-other-row s 104 i (unassigned_of s i - take_kw s i kw) 108 k column l' (omega arith) in
      word-by (λ x. x ≤ 2) weekly 108 h (count_in (calendar_of s h) (week_of day) + 1) 108 k (omega (arith, weekly-long, d.long)) (omega arith) holder-column l'
      (λ e f. omega (arith, d.under-two))
      (omega (arith, before, o.takings-most k l))

  -- placed, taken and unassigned together
  balance-after : (j : ℕ) → j < interties s → on_intertie placed_of (take_state s h i kw day) j + on_intertie taken_of (take_state s h i kw day) j + unassigned_of (take_state s h i kw day) j ≡ on_intertie placed_of s j + on_intertie taken_of s j + unassigned_of s j
  balance-after j l =
      elim (ℕ_discrete j i) [
        | yes e ↦ rw e (omega (arith, take-placed-sum i d.intertie-there, take-taken-sum, take-unassigned))
        | no other ↦ omega (arith, take-placed-sum j l, take-other-taken-sum j l other, take-other-unassigned j l other)
      ]

  pub take-orderly : Orderly (take_state s h i kw day)
  take-orderly =
      orderly-after o
      (record {
        opening = take-opening;
        stage-least = omega (arith, o.stage-least, take-stage);
        stage-most = omega (arith, o.stage-most, take-stage);
        balance = balance-after;
        locked-most = λ k j p l.
            omega (
              arith,
              o.locked-most k j p l,
              take-locked k j p l,
              same-pair 109 k j take-placed (omega arith) (omega arith) (omega (arith, o.holders-most)) (omega (arith, o.interties-most)),
            );
        pending-most = pending-after o take-requests;
        no-pending = no-pending-after o take-requests;
        unplaced-sum-most = omega (arith, same-unplaced-sum o take-requests, o.unplaced-sum-most);
        takings-most = takings-after;
        sellers-below = sellers-after o take-requests;
        term-range = λ k j p l some. rw (take-term k j p l) (o.term-range k j p l (omega (arith, take-locked k j p l)));
        no-term = λ k j p l free. take-term k j p l ∙ o.no-term k j p l (omega (arith, take-locked k j p l));
      })
