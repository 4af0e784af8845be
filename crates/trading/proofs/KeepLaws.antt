-- What stays where a call changes only unplaced, sellers and pending, and why the state stays orderly.
use Prim.Native.Nat.{ℕ, ◌+◌, ◌^◌, ◌≤◌, ◌<◌}
use mathlib.Core.Path.{◌≡◌, ap, ◌∙◌}
use mathlib.Core.List.{List}
use mathlib.Core.Logic.{◌⊎◌}
use native.Mathlib.Omega.{arith}
use Rattle.base.specs.Sums.{sum_to}
use Rattle.base.specs.Words.{at}
use Rattle.state.specs.Layout.{place, interties, holders, stage_of, unassigned_of, unplaced_of, sellers_of, placed_of, taken_of, locked_of, pending_of, on_intertie, of_holder}
use Rattle.state.proofs.FrameLaws.{SameRows, SameOpening, same-within, same-interties, same-holders, same-on-intertie, same-of-holder}
use Rattle.state.proofs.OrderlyLaws.{Orderly}

-- all words but unplaced and sellers, in rows 105 and 106, and pending, from row 237 on
pub record SameOthers (s t : List ℕ) : Type 0 where
  pub before : SameRows 0 105 s t
  pub after : SameRows 107 237 s t

-- unplaced, sellers and pending of t in order, for the sizes and the stage of s
pub record InOrder (s t : List ℕ) : Type 0 where
  pub pending-most : (h : ℕ) → h < holders s → sum_to (interties s) (λ i. pending_of t h i) ≤ unplaced_of t h
  pub no-pending : (stage_of s ≡ 1) ⊎ (stage_of s ≡ 4) → (h : ℕ) → h < holders s → sum_to (interties s) (λ i. pending_of t h i) ≡ 0
  pub unplaced-sum-most : sum_to (holders s) (λ h. unplaced_of t h) ≤ 960000000
  pub sellers-below : (h : ℕ) → h < holders s → sellers_of t h < 2 ^ holders s

module _ {s t : List ℕ} (same : SameOthers s t) where
  -- what opening wrote, the sizes and the stage
  pub opening-same : SameOpening s t
  opening-same = same-within (omega arith) (omega arith) same.before

  pub interties-same : interties t ≡ interties s
  interties-same = same-interties opening-same

  pub holders-same : holders t ≡ holders s
  holders-same = same-holders opening-same

  pub stage-same : stage_of t ≡ stage_of s
  stage-same = same.before.same 103 0 (omega arith) (omega arith) (omega arith)

  -- a word before row 105, and one from row 107 on
  early : (r c : ℕ) → r < 105 → c < 48 → at t (place r c) ≡ at s (place r c)
  early r c l m = same.before.same r c (omega arith) l m

  late : (r c : ℕ) → 107 ≤ r → r < 237 → c < 48 → at t (place r c) ≡ at s (place r c)
  late r c l m k = same.after.same r c l m k

module _ {s t : List ℕ} (o : Orderly s) (same : SameOthers s t) where
  -- a field of the pairs, from row f on, summed over the holders on an intertie
  field-sum-same : {a b : ℕ} (f i : ℕ) → SameRows a b s t → a ≤ f → f + 32 ≤ b → i < 48 → sum_to (holders t) (λ h. at t (place (f + h) i)) ≡ sum_to (holders s) (λ h. at s (place (f + h) i))
  field-sum-same f i rows low high l =
      ap (λ (n : ℕ). sum_to n (λ h. at t (place (f + h) i))) (holders-same same)
      ∙ same-on-intertie f (holders s) i rows low high o.holders-most l

  -- what an intertie has unassigned
  pub unassigned-same : (i : ℕ) → i < interties s → unassigned_of t i ≡ unassigned_of s i
  unassigned-same i l = early same 104 i (omega arith) (omega (arith, o.interties-most))

  -- all that is placed on an intertie
  pub placed-sum-same : (i : ℕ) → i < interties s → on_intertie placed_of t i ≡ on_intertie placed_of s i
  placed-sum-same i l = field-sum-same 109 i same.after (omega arith) (omega arith) (omega (arith, o.interties-most))

  -- all that is taken on an intertie
  pub taken-sum-same : (i : ℕ) → i < interties s → on_intertie taken_of t i ≡ on_intertie taken_of s i
  taken-sum-same i l = field-sum-same 141 i same.after (omega arith) (omega arith) (omega (arith, o.interties-most))

  -- the locked kW of a pair
  pub locked-same : (h i : ℕ) → h < holders s → i < interties s → locked_of t h i ≡ locked_of s h i
  locked-same h i k l = late same (173 + h) i (omega arith) (omega (arith, o.holders-most)) (omega (arith, o.interties-most))

  -- the locked kW of a holder together
  pub locked-sum-same : (h : ℕ) → h < holders s → of_holder locked_of t h ≡ of_holder locked_of s h
  locked-sum-same h k =
      ap (λ (n : ℕ). sum_to n (λ i. locked_of t h i)) (interties-same same)
      ∙ same-of-holder 173 (interties s) h same.after (omega arith) (omega arith) o.interties-most (omega (arith, o.holders-most))

  pub orderly-kept : InOrder s t → Orderly t
  orderly-kept k =
      let n : interties t ≡ interties s = interties-same same in
      let m : holders t ≡ holders s = holders-same same in
      let g : stage_of t ≡ stage_of s = stage-same same in
      let few : interties s ≤ 48 = o.interties-most in
      let some : holders s ≤ 32 = o.holders-most in
      record {
        interties-least = omega (arith, o.interties-least);
        interties-most = omega arith;
        holders-least = omega (arith, o.holders-least);
        holders-most = omega arith;
        stage-least = omega (arith, o.stage-least);
        stage-most = omega (arith, o.stage-most);
        limit-most = λ i l. omega (arith, early same 1 i (omega arith) (omega arith), o.limit-most i (omega arith));
        load-share-most = λ h l. omega (arith, early same 3 h (omega arith) (omega arith), o.load-share-most h (omega arith));
        balance = λ i l.
            let c : i < 48 = omega arith in
            omega (
              arith,
              o.balance i (omega arith),
              early same 1 i (omega arith) c,
              early same 2 i (omega arith) c,
              field-sum-same 7 i same.before (omega arith) (omega arith) c,
              field-sum-same 39 i same.before (omega arith) (omega arith) c,
              field-sum-same 71 i same.before (omega arith) (omega arith) c,
              field-sum-same 109 i same.after (omega arith) (omega arith) c,
              field-sum-same 141 i same.after (omega arith) (omega arith) c,
              early same 104 i (omega arith) c,
            );
        locked-most = λ h i a b.
            omega (
              arith,
              o.locked-most h i (omega arith) (omega arith),
              late same (109 + h) i (omega arith) (omega arith) (omega arith),
              late same (173 + h) i (omega arith) (omega arith) (omega arith),
            );
        pending-most = λ h l. rw n (k.pending-most h (omega arith));
        no-pending = λ c h l. rw n (k.no-pending (rw g at c) h (omega arith));
        unplaced-sum-most = rw m k.unplaced-sum-most;
        step5-share-most = λ h l. omega (arith, early same 4 h (omega arith) (omega arith), o.step5-share-most h (omega arith));
        step7-total-most = λ h l. omega (arith, early same 5 h (omega arith) (omega arith), o.step7-total-most h (omega arith));
        reserved-most = λ h l. omega (arith, early same 6 h (omega arith) (omega arith), o.reserved-most h (omega arith));
        takings-most = λ h l. omega (arith, late same 108 h (omega arith) (omega arith) (omega arith), o.takings-most h (omega arith));
        sellers-below = λ h l. rw m (k.sellers-below h (omega arith));
        term-range = λ h i a b c.
            let locked = late same (173 + h) i (omega arith) (omega arith) (omega arith) in
            let term = late same (205 + h) i (omega arith) (omega arith) (omega arith) in
            let range = o.term-range h i (omega arith) (omega arith) (omega (arith, locked)) in
            omega (arith, range, term);
        no-term = λ h i a b c.
            let locked = late same (173 + h) i (omega arith) (omega arith) (omega arith) in
            let term = late same (205 + h) i (omega arith) (omega arith) (omega arith) in
            let none = o.no-term h i (omega arith) (omega arith) (omega (arith, locked)) in
            omega (arith, none, term);
      }
