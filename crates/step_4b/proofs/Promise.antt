-- What Step 4b promises a holder and the share-out after it, as theorems about the definition `new_use`.
use Prim.Native.Nat.{ℕ, zero, suc, ◌+◌, ◌-◌, ◌≤◌, ◌<◌, min, zero-le}
use mathlib.Core.Path.{◌≡◌, refl, ◌∙◌}
use mathlib.Core.List.{List}
use native.Mathlib.Nat.{le_refl, lt-suc_self}
use native.Mathlib.Omega.{arith}
use native.Mathlib.Decide.{dec_lt, ℕ_discrete}
use lib.ListN.{length, length-set, get_or-eq_default}
use lib.Dec.{eqb}
use borrow.Author.Tests.{eq-eqb, ne_eqb}
use Rattle.base.specs.Choice.{pick}
use Rattle.base.specs.Sums.{sum_to}
use Rattle.base.specs.Words.{at, tab}
use Rattle.base.proofs.ChoiceLaws.{pick-most}
use Rattle.base.proofs.PlaceLaws.{at_less, at_more, at-more-most, sum-one-more, sum-one-more-most}
use Rattle.base.proofs.SumLaws.{sum_to-zero, sum_to-suc, sum_to-zeros, drop-last}
use Rattle.base.proofs.WordLaws.{length-tab, at-tab}
use Rattle.step_4b.specs.NewUse.{NewUse, covered, stays, next_rank, after_ranks, before_ranks, new_use}

-- the kW that rank k asks for on intertie i
abbrev pub asked_at : List ℕ → List ℕ → ℕ → ℕ → ℕ
asked_at kw interties i k = pick (eqb (at interties k) i) (at kw k) 0

-- the kW that the ranks below r ask for on intertie i
abbrev pub asked_on : List ℕ → List ℕ → ℕ → ℕ → ℕ
asked_on kw interties r i = sum_to r (asked_at kw interties i)

-- every record of the ranks below r is on an intertie below count
abbrev pub Placed : List ℕ → List ℕ → ℕ → ℕ → Type 0
Placed kw interties count r = (k : ℕ) → k < r → 0 < at kw k → at interties k < count

-- what holds after the ranks below r, whatever the numbers
pub record Promise (kw interties : List ℕ) (allowance : ℕ) (cover : List ℕ) (count r : ℕ) (s : NewUse) : Type 0 where
  pub covers : length s.cover ≡ length cover
  pub size : length s.kept ≡ count
  -- the cover never rises
  pub falls : (i : ℕ) → at s.cover i ≤ at cover i
  -- what stays on an intertie and the allowance left are within the allowance
  pub each : (i : ℕ) → at s.kept i + s.allowance ≤ allowance
  -- and so is what stays on all interties
  pub total : sum_to count (at s.kept) + s.allowance ≤ allowance
  -- which falls by just that where every record has its place
  pub spent : Placed kw interties count r → sum_to count (at s.kept) + s.allowance ≡ allowance
  -- what stays on an intertie and what was covered there are within what was asked for
  pub within : (i : ℕ) → at s.kept i + at cover i ≤ asked_on kw interties r i + at s.cover i
  -- and are all of it while allowance is left
  pub uncut : 0 < s.allowance → (i : ℕ) → i < count → at s.kept i + at cover i ≡ asked_on kw interties r i + at s.cover i

-- what one record takes on an intertie: its cover is there, cover and what stays are within its kW, and all of it while allowance is left
record Parts (covered stays kw coverHere left : ℕ) : Type 0 where
  pub there : covered ≤ coverHere
  pub inside : covered + stays ≤ kw
  pub all : 0 < left → covered + stays ≡ kw

parts : (kw i j : ℕ) (s : NewUse) →
    Parts (pick (eqb i j) (covered kw i s) 0) (pick (eqb i j) (stays kw i s) 0) (pick (eqb i j) kw 0) (at s.cover j) (s.allowance - stays kw i s)
parts kw i j s =
    elim (ℕ_discrete i j) [
      | yes here ↦
          rw (← here, eq-eqb i i refl)
          (record { there = omega arith; inside = omega arith; all = λ h. omega arith })
      | no other ↦ rw (ne_eqb i j other) (record { there = zero-le; inside = le_refl 0; all = λ h. refl })
    ]

module _ (kw interties : List ℕ) (allowance : ℕ) (cover : List ℕ) (count : ℕ) where
  none_kept : (i : ℕ) → at (tab count (λ j. 0)) i ≡ 0
  none_kept i =
      elim (dec_lt i count) [
        | yes inside ↦ at-tab count (λ j. 0) i inside
        | no past ↦ get_or-eq_default (tab count (λ j. 0)) 0 (omega (arith, length-tab count (λ j. 0)))
      ]

  promise-none : Promise kw interties allowance cover count 0 (before_ranks allowance cover count)
  promise-none =
      let nothing : sum_to count (at (tab count (λ j. 0))) ≡ 0 = sum_to-zeros count _ (λ i l. none_kept i) in
      record {
        covers = refl;
        size = length-tab count (λ j. 0);
        falls = λ i. le_refl (at cover i);
        each = λ i. omega (arith, none_kept i);
        total = omega arith;
        spent = λ h. omega arith;
        within = λ i. omega (arith, none_kept i);
        uncut = λ h i l. omega (arith, none_kept i, sum_to-zero (asked_at kw interties i));
      }

  promise-next : (r : ℕ) (s : NewUse) → Promise kw interties allowance cover count r s →
      Promise kw interties allowance cover count (suc r) (next_rank (at kw r) (at interties r) s)
  unfolding next_rank
  promise-next r s p =
      let k : ℕ = at kw r in
      let i : ℕ = at interties r in
      let x : ℕ = covered k i s in
      let y : ℕ = stays k i s in
      record {
        covers = length-set s.cover i (at s.cover i - x) ∙ p.covers;
        size = length-set s.kept i (at s.kept i + y) ∙ p.size;
        falls = λ j. omega (arith, at_less s.cover i x j, p.falls j);
        each = λ j. omega (arith, at-more-most s.kept i y j, p.each j, pick-most (eqb i j) y);
        total = omega (arith, rw p.size at (sum-one-more-most s.kept i y), p.total);
        spent = λ h.
            omega (
              arith,
              rw p.size at (sum-one-more s.kept i y (λ some. rw p.size (h r (lt-suc_self r) (omega arith)))),
              p.spent (drop-last h),
            );
        within = λ j.
            omega (
              arith,
              at_less s.cover i x j,
              at-more-most s.kept i y j,
              p.within j,
              (parts k i j s).there,
              (parts k i j s).inside,
              sum_to-suc r (asked_at kw interties j),
            );
        uncut = λ h j l.
            omega (
              arith,
              at_less s.cover i x j,
              at_more s.kept i y j (rw p.size l),
              p.uncut (omega arith) j l,
              (parts k i j s).there,
              (parts k i j s).all h,
              sum_to-suc r (asked_at kw interties j),
            );
      }

  -- the promise, for every count of ranks
  pub promise-after : (r : ℕ) → Promise kw interties allowance cover count r (after_ranks kw interties r (before_ranks allowance cover count))
  unfolding after_ranks
  promise-after zero = promise-none
  promise-after (suc r) = promise-next r (after_ranks kw interties r (before_ranks allowance cover count)) (promise-after r)

  -- and for all of the holder's records
  pub promise : Promise kw interties allowance cover count (min (length kw) (length interties)) (new_use kw interties allowance cover count)
  unfolding new_use
  promise = promise-after (min (length kw) (length interties))
