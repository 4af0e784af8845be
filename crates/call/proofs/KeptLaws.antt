-- An orderly state stays orderly where a call keeps what opening wrote and the clauses of "Orderly" on the words that calls write.
use Prim.Native.Nat.{ℕ, ◌+◌, ◌^◌, ◌≤◌, ◌<◌}
use mathlib.Core.Path.{◌≡◌, ap, ◌∙◌}
use mathlib.Core.List.{List}
use mathlib.Core.Logic.{◌⊎◌}
use native.Mathlib.Omega.{arith}
use Rattle.base.specs.Sums.{sum_to}
use Rattle.base.specs.Words.{at}
use Rattle.base.proofs.SumLaws.{sum_to-same}
use Rattle.state.specs.Layout.{place, interties, holders, limit_of, stage_of, unassigned_of, unplaced_of, sellers_of, takings_of, placed_of, taken_of, locked_of, term_of, pending_of, on_intertie, of_holder}
use Rattle.state.specs.Orderly.{intertie_kw}
use Rattle.state.proofs.OrderlyLaws.{Orderly}
use Rattle.state.proofs.FrameLaws.{SameRows, SameOpening, same-interties, same-holders, same-on-intertie, same-of-holder}

-- a field of the pairs, from row f on, whose rows are the same: its sums on an intertie and of a holder
module _ {a b : ℕ} {s t : List ℕ} (f : ℕ) (opening : SameOpening s t) (rows : SameRows a b s t) (low : a ≤ f) (high : f + 32 ≤ b) where
  pub on-intertie-same : (i : ℕ) → holders s ≤ 32 → i < 48 → sum_to (holders t) (λ h. at t (place (f + h) i)) ≡ sum_to (holders s) (λ h. at s (place (f + h) i))
  on-intertie-same i few l =
      ap (λ (n : ℕ). sum_to n (λ h. at t (place (f + h) i))) (same-holders opening)
      ∙ same-on-intertie f (holders s) i rows low high few l

  pub of-holder-same : (h : ℕ) → interties s ≤ 48 → h < 32 → sum_to (interties t) (λ i. at t (place (f + h) i)) ≡ sum_to (interties s) (λ i. at s (place (f + h) i))
  of-holder-same h few l =
      ap (λ (n : ℕ). sum_to n (λ i. at t (place (f + h) i))) (same-interties opening)
      ∙ same-of-holder f (interties s) h rows low high few l

-- what a call keeps: s is the state before it, t after it
pub record Kept (s t : List ℕ) : Type 0 where
  pub opening : SameOpening s t
  pub stage-least : 1 ≤ stage_of t
  pub stage-most : stage_of t ≤ 4
  -- what an intertie has placed, taken and unassigned, together
  pub balance : (i : ℕ) → i < interties s →
      on_intertie placed_of t i + on_intertie taken_of t i + unassigned_of t i ≡ on_intertie placed_of s i + on_intertie taken_of s i + unassigned_of s i
  pub locked-most : (h i : ℕ) → h < holders s → i < interties s → locked_of t h i ≤ placed_of t h i
  pub pending-most : (h : ℕ) → h < holders s → of_holder pending_of t h ≤ unplaced_of t h
  pub no-pending : (stage_of t ≡ 1) ⊎ (stage_of t ≡ 4) → (h : ℕ) → h < holders s → of_holder pending_of t h ≡ 0
  pub unplaced-sum-most : sum_to (holders t) (λ h. unplaced_of t h) ≤ 960000000
  pub takings-most : (h : ℕ) → h < holders s → takings_of t h ≤ 2
  pub sellers-below : (h : ℕ) → h < holders s → sellers_of t h < 2 ^ holders s
  pub term-range : (h i : ℕ) → h < holders s → i < interties s → 0 < locked_of t h i → (1 ≤ term_of t h i) × (term_of t h i ≤ 30)
  pub no-term : (h i : ℕ) → h < holders s → i < interties s → locked_of t h i ≡ 0 → term_of t h i ≡ 0

module _ {s t : List ℕ} (o : Orderly s) (k : Kept s t) where
  there : (h : ℕ) → h < holders t → h < holders s
  there h l = rw (same-holders k.opening) at l

  intertie-there : (i : ℕ) → i < interties t → i < interties s
  intertie-there i l = rw (same-interties k.opening) at l

  -- a word of a row that opening wrote
  opened : (r c : ℕ) → r < 103 → c < 48 → at t (place r c) ≡ at s (place r c)
  opened r c l m = k.opening.same r c (omega arith) l m

  balance-after : (i : ℕ) → i < interties s → limit_of t i ≡ intertie_kw t i
  balance-after i l =
      let few = o.holders-most in
      let column : i < 48 = omega (arith, o.interties-most) in
      omega (
        arith,
        k.balance i l,
        o.balance i l,
        opened 1 i (omega arith) column,
        opened 2 i (omega arith) column,
        on-intertie-same 7 k.opening k.opening (omega arith) (omega arith) i few column,
        on-intertie-same 39 k.opening k.opening (omega arith) (omega arith) i few column,
        on-intertie-same 71 k.opening k.opening (omega arith) (omega arith) i few column,
      )

  -- a bound on a holder's word that opening wrote
  bound-after : (r most : ℕ) → r < 103 → ((h : ℕ) → h < holders s → at s (place r h) ≤ most) → (h : ℕ) → h < holders t → at t (place r h) ≤ most
  bound-after r most row bound h l = omega (arith, bound h (there h l), opened r h row (omega (arith, there h l, o.holders-most)))

  -- the state after the call is orderly
  pub orderly-after : Orderly t
  orderly-after =
      let n : interties t ≡ interties s = same-interties k.opening in
      let m : holders t ≡ holders s = same-holders k.opening in
      record {
        interties-least = omega (arith, o.interties-least);
        interties-most = omega (arith, o.interties-most);
        holders-least = omega (arith, o.holders-least);
        holders-most = omega (arith, o.holders-most);
        stage-least = k.stage-least;
        stage-most = k.stage-most;
        limit-most = λ i l. omega (arith, o.limit-most i (intertie-there i l), opened 1 i (omega arith) (omega (arith, intertie-there i l, o.interties-most)));
        load-share-most = bound-after 3 100000000 (omega arith) o.load-share-most;
        balance = λ i l. balance-after i (intertie-there i l);
        locked-most = λ h i p q. k.locked-most h i (there h p) (intertie-there i q);
        pending-most = λ h l. k.pending-most h (there h l);
        no-pending = λ c h l. k.no-pending c h (there h l);
        unplaced-sum-most = k.unplaced-sum-most;
        step5-share-most = bound-after 4 960000000 (omega arith) o.step5-share-most;
        step7-total-most = bound-after 5 960000000 (omega arith) o.step7-total-most;
        reserved-most = bound-after 6 960000000 (omega arith) o.reserved-most;
        takings-most = λ h l. k.takings-most h (there h l);
        sellers-below = λ h l. rw m (k.sellers-below h (there h l));
        term-range = λ h i p q. k.term-range h i (there h p) (intertie-there i q);
        no-term = λ h i p q. k.no-term h i (there h p) (intertie-there i q);
      }

-- what moves, locks and takings leave as it was: the stage, unplaced, sellers and pending
pub record SameRequests (s t : List ℕ) : Type 0 where
  pub opening : SameOpening s t
  pub stage : stage_of t ≡ stage_of s
  pub unplaced : SameRows 105 107 s t
  pub pending : SameRows 237 269 s t

module _ {s t : List ℕ} (o : Orderly s) (k : SameRequests s t) where
  pub same-unplaced : (h : ℕ) → h < holders s → unplaced_of t h ≡ unplaced_of s h
  same-unplaced h l = k.unplaced.same 105 h (omega arith) (omega arith) (omega (arith, o.holders-most))

  pub same-pending : (h : ℕ) → h < holders s → of_holder pending_of t h ≡ of_holder pending_of s h
  same-pending h l = of-holder-same 237 k.opening k.pending (omega arith) (omega arith) h o.interties-most (omega (arith, o.holders-most))

  pub same-unplaced-sum : sum_to (holders t) (λ h. unplaced_of t h) ≡ sum_to (holders s) (λ h. unplaced_of s h)
  same-unplaced-sum =
      ap (λ (n : ℕ). sum_to n (λ h. unplaced_of t h)) (same-holders k.opening)
      ∙ sum_to-same (holders s) (λ h. unplaced_of t h) (λ h. unplaced_of s h) same-unplaced

  pub pending-after : (h : ℕ) → h < holders s → of_holder pending_of t h ≤ unplaced_of t h
  pending-after h l = omega (arith, o.pending-most h l, same-pending h l, same-unplaced h l)

  pub no-pending-after : (stage_of t ≡ 1) ⊎ (stage_of t ≡ 4) → (h : ℕ) → h < holders s → of_holder pending_of t h ≡ 0
  no-pending-after c h l = same-pending h l ∙ o.no-pending (rw k.stage at c) h l

  pub sellers-after : (h : ℕ) → h < holders s → sellers_of t h < 2 ^ holders s
  sellers-after h l =
      rw (k.unplaced.same 106 h (omega arith) (omega arith) (omega (arith, o.holders-most)))
      (o.sellers-below h l)
