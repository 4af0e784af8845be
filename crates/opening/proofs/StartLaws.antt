-- A state that opening left is orderly.
use Prim.Native.Nat.{ℕ, ◌≤◌, ◌<◌, zero-le}
use mathlib.Core.Path.{◌≡◌, ap, ◌∙◌}
use mathlib.Core.List.{List}
use native.Mathlib.Omega.{arith}
use lib.Pow.{pow_pos}
use Rattle.base.specs.Sums.{sum_to}
use Rattle.base.proofs.SumLaws.{sum_to-same, sum_to-zeros}
use Rattle.state.specs.Layout.{interties, holders, limit_of, existing_of, pre_ra_of, new_use_of, placed_of, taken_of, pending_of, unplaced_of, on_intertie, of_holder}
use Rattle.state.specs.Orderly.{intertie_kw}
use Rattle.state.proofs.OrderlyLaws.{Orderly}
use Rattle.steps.specs.Inputs.{Inputs}
use Rattle.steps.specs.Step4a.{existing_on, pre_ra_granted}
use Rattle.steps.specs.Step4b.{new_use_granted}
use Rattle.steps.specs.Step5to7.{step5_share}
use Rattle.steps.specs.Valid.{Valid}
use Rattle.steps.proofs.BoundLaws.{reserved-parts, balance, total-most, held-total, shares-unassigned, held-most, share-most, step7-total-most}
use Rattle.opening.proofs.OpenedLaws.{Opened}

module _ (y : Inputs) (v : Valid y) (t : List ℕ) (o : Opened y t) where
  inside : (i : ℕ) → i < interties t → i < y.interties
  inside i l = rw o.interties-are at l

  among : (h : ℕ) → h < holders t → h < y.holders
  among h l = rw o.holders-are at l

  -- a field of the pairs summed over the holders
  on-intertie : (f : List ℕ → ℕ → ℕ → ℕ) (g : ℕ → ℕ) (i : ℕ) → ((h : ℕ) → h < y.holders → f t h i ≡ g h) →
      on_intertie f t i ≡ sum_to y.holders g
  on-intertie f g i same = ap (λ n. sum_to n (λ h. f t h i)) o.holders-are ∙ sum_to-same y.holders (λ h. f t h i) g same

  nothing-on : (f : List ℕ → ℕ → ℕ → ℕ) (i : ℕ) → ((h : ℕ) → h < y.holders → f t h i ≡ 0) → on_intertie f t i ≡ 0
  nothing-on f i none = ap (λ n. sum_to n (λ h. f t h i)) o.holders-are ∙ sum_to-zeros y.holders (λ h. f t h i) none

  balanced : (i : ℕ) → i < y.interties → limit_of t i ≡ intertie_kw t i
  unfolding existing_on
  balanced i l =
      omega (
        arith,
        o.limit i l,
        o.outside i l,
        o.unassigned-is i l,
        on-intertie existing_of (λ h. y.existing h i) i (λ h k. o.existing h i k l),
        on-intertie pre_ra_of (λ h. pre_ra_granted y h i) i (λ h k. o.pre-ra h i k l),
        on-intertie new_use_of (λ h. new_use_granted y h i) i (λ h k. o.new-use h i k l),
        nothing-on placed_of i (λ h k. o.placed h i k l),
        nothing-on taken_of i (λ h k. o.taken h i k l),
        reserved-parts y i,
        balance y v i l,
      )

  no-pending : (h : ℕ) → h < y.holders → of_holder pending_of t h ≡ 0
  no-pending h k =
      ap (λ n. sum_to n (λ i. pending_of t h i)) o.interties-are
      ∙ sum_to-zeros y.interties (λ i. pending_of t h i) (λ i l. o.pending h i k l)

  unplaced-sum : sum_to (holders t) (λ h. unplaced_of t h) ≤ 960000000
  unplaced-sum =
      let e : sum_to (holders t) (λ h. unplaced_of t h) ≡ sum_to y.holders (step5_share y) =
      ap (λ n. sum_to n (λ h. unplaced_of t h)) o.holders-are ∙ sum_to-same y.holders (λ h. unplaced_of t h) (step5_share y) o.unplaced in
      omega (arith, shares-unassigned y v, held-total y v, total-most y v)

  pub opened-orderly : Orderly t
  opened-orderly =
      record {
        interties-least = rw o.interties-are v.interties-least;
        interties-most = rw o.interties-are v.interties-most;
        holders-least = rw o.holders-are v.holders-least;
        holders-most = rw o.holders-are v.holders-most;
        stage-least = omega (arith, o.stage);
        stage-most = omega (arith, o.stage);
        limit-most = λ i l. rw (o.limit i (inside i l)) (v.limit-most i (inside i l));
        load-share-most = λ h k. rw (o.load-share h (among h k)) (v.load-share-most h (among h k));
        balance = λ i l. balanced i (inside i l);
        locked-most = λ h i k l. rw (o.locked h i (among h k) (inside i l)) zero-le;
        pending-most = λ h k. rw (no-pending h (among h k)) zero-le;
        no-pending = λ c h k. no-pending h (among h k);
        unplaced-sum-most = unplaced-sum;
        step5-share-most = λ h k. rw (o.step5-share h (among h k)) (share-most y v h (among h k));
        step7-total-most = λ h k. rw (o.step7-total h (among h k)) (step7-total-most y v h (among h k));
        reserved-most = λ h k. rw (o.reserved h (among h k)) (held-most y v h (among h k));
        takings-most = λ h k. rw (o.takings h (among h k)) zero-le;
        sellers-below = λ h k. rw (o.sellers h (among h k)) (pow_pos (holders t));
        term-range = λ h i k l some. absurd (omega (arith, o.locked h i (among h k) (inside i l)));
        no-term = λ h i k l none. o.term h i (among h k) (inside i l);
      }
