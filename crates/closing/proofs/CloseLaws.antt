-- A closing that is done: what it finds where no refusal applies, and what it changes. The state after it is orderly.
use Prim.Native.Nat.{ℕ, ◌+◌, ◌-◌, ◌*◌, ◌/◌, ◌%◌, ◌≤◌, ◌<◌}
use mathlib.Core.Path.{◌≡◌, ap, ◌∙◌}
use mathlib.Core.Bool.{not, ◌&&◌}
use mathlib.Core.List.{List}
use mathlib.Core.Logic.{◌≢◌, ◌⊎◌, inl, inr}
use native.Mathlib.Nat.{add-zero, suc-mul, mul-le-mul, mul-le-mul_right, mul-add-div_right, div-eq_of_lt, mul-add-mod_self_right, mod-eq_of_lt}
use native.Mathlib.Omega.{arith}
use lib.Dec.{leb, ltb, eqb}
use lib.ListN.{length, length-set}
use borrow.Author.Tests.{eq-eqb, ne_eqb, ltb-false, leb-true, not-false}
use Rattle.base.specs.Sums.{sum_to}
use Rattle.base.specs.Words.{at}
use Rattle.base.specs.Answers.{refused, granted}
use Rattle.base.proofs.ChoiceLaws.{pick_true, pick-false, and_left, and_right}
use Rattle.base.proofs.SumLaws.{sum_to-same, sum_to-add, sum_to-le, sum_to-zeros}
use Rattle.base.proofs.WordLaws.{length-fill, at_fill, at-fill-past}
use Rattle.base.specs.Limits.{state_words}
use Rattle.state.specs.Layout.{place, interties, holders, stage_at, stage_of, last_day_of, unassigned_of, unplaced_of, placed_of, taken_of, locked_of, term_of, pending_of, on_intertie, of_holder}
use Rattle.state.specs.Orderly.{state_refusal}
use Rattle.state.proofs.OrderlyLaws.{Orderly, refusal-none}
use Rattle.state.proofs.FrameLaws.{SameRows, SameOpening, same-interties, same-holders, same-pair, at_stored, at-other-row, at-other-column}
use Rattle.state_rows.specs.Rows.{fill_row, fill_pairs}
use Rattle.state_rows.proofs.RowLaws.{length-fill_row, at-fill_row, at-fill_row-apart, length-fill_pairs, at-fill_pairs, at-fill_pairs-apart}
use Rattle.call.proofs.LadderLaws.{none_first, none-second, not-whenever, not_first}
use Rattle.call.proofs.KeptLaws.{on-intertie-same, of-holder-same, orderly-after}
use Rattle.closing.specs.Close.{close_refusal, close_grant, close_kw, close_passes, granted_to, granted_on, close_state, close_grants, close}
use Rattle.closing.proofs.GrantLaws.{granted-on-most, granted-to-most}

-- what holds where no number applies
pub record CloseDone (s g : List ℕ) : Type 0 where
  pub long : state_words ≤ length s
  pub orderly : Orderly s
  pub stage-least : 1 ≤ stage_of s
  pub stage-most : stage_of s ≤ 3
  pub room : 1536 ≤ length g

pub close-done : (s g : List ℕ) → close_refusal s g ≡ 0 → CloseDone s g
unfolding close_refusal
close-done s g e =
    let stages = leb 1 (stage_of s) && leb (stage_of s) 3 in
    let rung5 = not_first (ltb (length g) 1536) 5 _ (omega arith) e in
    let state = refusal-none s (none_first (state_refusal s) _ rung5.1) in
    let within = not-false stages (not-whenever (not stages) 7 (omega arith) (none-second (state_refusal s) _ rung5.1)) in
    record {
      long = state.0;
      orderly = state.1;
      stage-least = leb-true 1 (stage_of s) (and_left (leb 1 (stage_of s)) (leb (stage_of s) 3) within);
      stage-most = leb-true (stage_of s) 3 (and_right (leb 1 (stage_of s)) (leb (stage_of s) 3) within);
      room = ltb-false (length g) 1536 rung5.0;
    }

-- what a closing gives: granted, and refused
pub close-granted : (s g : List ℕ) → close_refusal s g ≡ 0 → close s g ≡ record { answer = granted (close_kw s) (close_passes s); state = close_state s; grants = close_grants s g }
unfolding close
close-granted s g e = pick_true (eqb (close_refusal s g) 0) _ _ (eq-eqb (close_refusal s g) 0 e)

pub close-refused : (s g : List ℕ) → (close_refusal s g ≡ 0 → ⊥) → close s g ≡ record { answer = refused (close_refusal s g); state = s; grants = g }
unfolding close
close-refused s g some = pick-false (eqb (close_refusal s g) 0) _ _ (ne_eqb (close_refusal s g) 0 some)

-- the states between the writings
module _ (s : List ℕ) where
  abbrev assigned : List ℕ
  assigned = fill_row 104 (interties s) (λ i. unassigned_of s i - granted_on s i) s

  abbrev spent : List ℕ
  spent = fill_row 105 (holders s) (λ h. unplaced_of s h - granted_to s h) assigned

  abbrev placing : List ℕ
  placing = fill_pairs 109 (holders s) (interties s) (λ h i. placed_of s h i + close_grant s h i) spent

  abbrev cleared : List ℕ
  cleared = fill_pairs 237 (holders s) (interties s) (λ h i. 0) placing

  -- no writing changes the length
  assigned-long : length assigned ≡ length s
  assigned-long = length-fill_row 104 (interties s) (λ i. unassigned_of s i - granted_on s i) s

  spent-long : length spent ≡ length s
  spent-long = length-fill_row 105 (holders s) (λ h. unplaced_of s h - granted_to s h) assigned ∙ assigned-long

  placing-long : length placing ≡ length s
  placing-long = length-fill_pairs 109 (holders s) (interties s) (λ h i. placed_of s h i + close_grant s h i) spent ∙ spent-long

  cleared-long : length cleared ≡ length s
  cleared-long = length-fill_pairs 237 (holders s) (interties s) (λ h i. 0) placing ∙ placing-long

  pub close-length : length (close_state s) ≡ length s
  unfolding close_state
  close-length = length-set cleared stage_at (stage_of s + 1) ∙ cleared-long

  pub close-grants-length : (g : List ℕ) → length (close_grants s g) ≡ length g
  unfolding close_grants
  close-grants-length g = length-fill (holders s * interties s) (λ p. close_grant s (p / interties s) (p % interties s)) g

module _ {s g : List ℕ} (d : CloseDone s g) where
  o : Orderly s
  o = d.orderly

  few : interties s ≤ 48
  few = o.interties-most

  small : holders s ≤ 48
  small = omega (arith, o.holders-most)

  -- a word past the stage, past pending, past placed, and past all
  past-stage : (r c : ℕ) → c < 48 → r ≢ 103 → at (close_state s) (place r c) ≡ at (cleared s) (place r c)
  unfolding close_state
  past-stage r c l other = at-other-row (cleared s) 103 0 (stage_of s + 1) r c (omega arith) l other

  past-pending : (r c : ℕ) → c < 48 → r ≢ 103 → (r < 237) ⊎ (237 + holders s ≤ r) → at (close_state s) (place r c) ≡ at (placing s) (place r c)
  past-pending r c l other apart =
      past-stage r c l other
      ∙ at-fill_pairs-apart 237 (holders s) (interties s) (λ h i. 0) (placing s) r c few l apart

  past-placed : (r c : ℕ) → c < 48 → r ≢ 103 → (r < 237) ⊎ (237 + holders s ≤ r) → (r < 109) ⊎ (109 + holders s ≤ r) → at (close_state s) (place r c) ≡ at (spent s) (place r c)
  past-placed r c l other apart apart' =
      past-pending r c l other apart
      ∙ at-fill_pairs-apart 109 (holders s) (interties s) (λ h i. placed_of s h i + close_grant s h i) (spent s) r c few l apart'

  -- a word that no writing reaches
  past-rows : (r c : ℕ) → c < 48 → r ≢ 104 → r ≢ 105 → at (spent s) (place r c) ≡ at s (place r c)
  past-rows r c l other other' =
      at-fill_row-apart 105 (holders s) (λ h. unplaced_of s h - granted_to s h) (assigned s) r c small l other'
      ∙ at-fill_row-apart 104 (interties s) (λ i. unassigned_of s i - granted_on s i) s r c few l other

  past_all : (r c : ℕ) → c < 48 → r ≢ 103 → r ≢ 104 → r ≢ 105 → (r < 237) ⊎ (237 + holders s ≤ r) → (r < 109) ⊎ (109 + holders s ≤ r) → at (close_state s) (place r c) ≡ at s (place r c)
  past_all r c l other other' other'' apart apart' = past-placed r c l other apart apart' ∙ past-rows r c l other' other''

  -- what opening wrote; sellers, weeks and takings; taken, locked and terms; the rows past pending
  pub close-opening : SameOpening s (close_state s)
  close-opening = record { same = λ r c p q l. past_all r c l (omega arith) (omega arith) (omega arith) (inl (omega arith)) (inl (omega arith)) }

  pub close-calendar : SameRows 106 109 s (close_state s)
  close-calendar = record { same = λ r c p q l. past_all r c l (omega arith) (omega arith) (omega arith) (inl (omega arith)) (inl (omega arith)) }

  pub close-locks : SameRows 141 237 s (close_state s)
  close-locks = record { same = λ r c p q l. past_all r c l (omega arith) (omega arith) (omega arith) (inl (omega arith)) (inr (omega (arith, o.holders-most))) }

  pub close-past : SameRows 269 333 s (close_state s)
  close-past =
      record {
        same = λ r c p q l. past_all r c l (omega arith) (omega arith) (omega arith) (inr (omega (arith, o.holders-most))) (inr (omega (arith, o.holders-most)));
      }

  -- the stage rises by one, the last taking's day stays
  pub close-stage : stage_of (close_state s) ≡ stage_of s + 1
  unfolding close_state
  close-stage = at_stored (cleared s) 103 0 (stage_of s + 1) (omega (arith, cleared-long s, d.long)) (omega arith) (omega arith)

  pub close-day : last_day_of (close_state s) ≡ last_day_of s
  unfolding close_state
  close-day =
      at-other-column (cleared s) 103 0 (stage_of s + 1) 103 1 (omega arith) (omega arith) (omega arith)
      ∙ at-fill_pairs-apart 237 (holders s) (interties s) (λ h i. 0) (placing s) 103 1 few (omega arith) (inl (omega arith))
      ∙ at-fill_pairs-apart 109 (holders s) (interties s) (λ h i. placed_of s h i + close_grant s h i) (spent s) 103 1 few (omega arith) (inl (omega arith))
      ∙ past-rows 103 1 (omega arith) (omega arith) (omega arith)

  -- unassigned: less by what is granted on the intertie
  pub close-unassigned : (i : ℕ) → i < interties s → unassigned_of (close_state s) i + granted_on s i ≡ unassigned_of s i
  close-unassigned i l =
      let column : i < 48 = omega (arith, few) in
      omega (
        arith,
        past-placed 104 i column (omega arith) (inl (omega arith)) (inl (omega arith)),
        at-fill_row-apart 105 (holders s) (λ h. unplaced_of s h - granted_to s h) (assigned s) 104 i small column (omega arith),
        at-fill_row 104 (interties s) (λ i. unassigned_of s i - granted_on s i) s i d.long (omega arith) few l,
        granted-on-most s i,
      )

  -- unplaced: less by what the holder is granted
  pub close-unplaced : (h : ℕ) → h < holders s → unplaced_of (close_state s) h + granted_to s h ≡ unplaced_of s h
  close-unplaced h l =
      let column : h < 48 = omega (arith, small) in
      omega (
        arith,
        past-placed 105 h column (omega arith) (inl (omega arith)) (inl (omega arith)),
        at-fill_row 105 (holders s) (λ h. unplaced_of s h - granted_to s h) (assigned s) h (omega (arith, assigned-long s, d.long)) (omega arith) small l,
        granted-to-most s o h l,
      )

  -- placed: more by the grant
  pub close-placed : (h i : ℕ) → h < holders s → i < interties s → placed_of (close_state s) h i ≡ placed_of s h i + close_grant s h i
  close-placed h i p q =
      past-pending (109 + h) i (omega (arith, few)) (omega arith) (inl (omega (arith, o.holders-most)))
      ∙ at-fill_pairs 109 (holders s) (interties s) (λ h i. placed_of s h i + close_grant s h i) (spent s) h i (omega (arith, spent-long s, d.long)) (omega (arith, o.holders-most)) few p q

  -- nothing is pending any more
  pub close-pending : (h i : ℕ) → h < holders s → i < interties s → pending_of (close_state s) h i ≡ 0
  close-pending h i p q =
      past-stage (237 + h) i (omega (arith, few)) (omega arith)
      ∙ at-fill_pairs 237 (holders s) (interties s) (λ h i. 0) (placing s) h i (omega (arith, placing-long s, d.long)) (omega (arith, o.holders-most)) few p q

  pub close-pending-sum : (h : ℕ) → h < holders s → of_holder pending_of (close_state s) h ≡ 0
  close-pending-sum h p =
      ap (λ (n : ℕ). sum_to n (λ i. pending_of (close_state s) h i)) (same-interties close-opening)
      ∙ sum_to-zeros (interties s) (λ i. pending_of (close_state s) h i) (λ i q. close-pending h i p q)

  -- placed and taken, summed on an intertie
  pub close-placed-sum : (i : ℕ) → i < interties s → on_intertie placed_of (close_state s) i ≡ on_intertie placed_of s i + granted_on s i
  close-placed-sum i q =
      ap (λ (n : ℕ). sum_to n (λ h. placed_of (close_state s) h i)) (same-holders close-opening)
      ∙ sum_to-same (holders s) (λ h. placed_of (close_state s) h i) (λ h. placed_of s h i + close_grant s h i) (λ h p. close-placed h i p q)
      ∙ sum_to-add (holders s) (λ h. placed_of s h i) (λ h. close_grant s h i)

  pub close-taken-sum : (i : ℕ) → i < interties s → on_intertie taken_of (close_state s) i ≡ on_intertie taken_of s i
  close-taken-sum i q = on-intertie-same 141 close-opening close-locks (omega arith) (omega arith) i o.holders-most (omega (arith, few))

  -- locks
  pub close-locked : (h i : ℕ) → h < holders s → i < interties s → locked_of (close_state s) h i ≡ locked_of s h i
  close-locked h i p q = same-pair 173 h i close-locks (omega arith) (omega arith) (omega (arith, o.holders-most)) (omega (arith, few))

  pub close-term : (h i : ℕ) → h < holders s → i < interties s → term_of (close_state s) h i ≡ term_of s h i
  close-term h i p q = same-pair 205 h i close-locks (omega arith) (omega arith) (omega (arith, o.holders-most)) (omega (arith, few))

  pub close-locked-sum : (h : ℕ) → h < holders s → of_holder locked_of (close_state s) h ≡ of_holder locked_of s h
  close-locked-sum h p = of-holder-same 173 close-opening close-locks (omega arith) (omega arith) h few (omega (arith, o.holders-most))

  -- a holder's word of the rows of sellers, weeks and takings
  holder-word : (r h : ℕ) → 106 ≤ r → r < 109 → h < holders s → at (close_state s) (place r h) ≡ at s (place r h)
  holder-word r h p q l = close-calendar.same r h p q (omega (arith, small))

  -- all unplaced together do not rise
  unplaced-sum-after : sum_to (holders (close_state s)) (λ h. unplaced_of (close_state s) h) ≤ 960000000
  unplaced-sum-after =
      rw (same-holders close-opening)
      (let less = sum_to-le (holders s) (λ h. unplaced_of (close_state s) h) (λ h. unplaced_of s h) (λ h l. omega (arith, close-unplaced h l)) in
      omega (arith, less, o.unplaced-sum-most))

  pub close-orderly : Orderly (close_state s)
  close-orderly =
      orderly-after o
      (record {
        opening = close-opening;
        stage-least = omega (arith, close-stage);
        stage-most = omega (arith, close-stage, d.stage-most);
        balance = λ i l. omega (arith, close-placed-sum i l, close-taken-sum i l, close-unassigned i l);
        locked-most = λ h i p q. omega (arith, o.locked-most h i p q, close-locked h i p q, close-placed h i p q);
        pending-most = λ h l. omega (arith, close-pending-sum h l);
        no-pending = λ c h l. close-pending-sum h l;
        unplaced-sum-most = unplaced-sum-after;
        takings-most = λ h l. omega (arith, holder-word 108 h (omega arith) (omega arith) l, o.takings-most h l);
        sellers-below = λ h l. rw (holder-word 106 h (omega arith) (omega arith) l) (o.sellers-below h l);
        term-range = λ h i p q some. rw (close-term h i p q) (o.term-range h i p q (omega (arith, close-locked h i p q)));
        no-term = λ h i p q free. close-term h i p q ∙ o.no-term h i p q (omega (arith, close-locked h i p q));
      })

  -- the grants buffer: the pairs stand in it, and it has room for them
  pair-below : (h i : ℕ) → h < holders s → i < interties s → h * interties s + i < holders s * interties s
  pair-below h i p q = omega (arith, mul-le-mul_right (interties s) p, suc-mul h (interties s))

  pairs-fit : holders s * interties s ≤ length g
  pairs-fit = omega (arith, mul-le-mul o.holders-most few, d.room)

  pub close-grants-at : (h i : ℕ) → h < holders s → i < interties s → at (close_grants s g) (h * interties s + i) ≡ close_grant s h i
  unfolding close_grants
  close-grants-at h i p q =
      let some : 0 < interties s = o.interties-least in
      let holder : (h * interties s + i) / interties s ≡ h = mul-add-div_right some h i ∙ ap (λ (n : ℕ). h + n) (div-eq_of_lt q) ∙ add-zero h in
      let intertie : (h * interties s + i) % interties s ≡ i = mul-add-mod_self_right h (interties s) i ∙ mod-eq_of_lt q in
      at_fill (holders s * interties s) (λ p. close_grant s (p / interties s) (p % interties s)) g (h * interties s + i) (pair-below h i p q) pairs-fit
      ∙ ap (λ (n : ℕ). close_grant s n ((h * interties s + i) % interties s)) holder
      ∙ ap (λ (n : ℕ). close_grant s h n) intertie

  -- later words of the buffer stay
  pub close-grants-past : (p : ℕ) → holders s * interties s ≤ p → at (close_grants s g) p ≡ at g p
  unfolding close_grants
  close-grants-past p l = at-fill-past (holders s * interties s) (λ p. close_grant s (p / interties s) (p % interties s)) g p l
