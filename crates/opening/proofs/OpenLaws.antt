-- The steps one after the other: what `steps_2_to_7` hands from each to the next, and what it leaves.
use Prim.Native.Nat.{ℕ, ◌+◌, ◌≤◌, ◌<◌}
use mathlib.Core.Path.{◌≡◌, refl, sym, ap, ◌∙◌}
use mathlib.Core.Bool.{◌&&◌}
use mathlib.Core.List.{List}
use native.Mathlib.Omega.{arith}
use lib.ListN.{length, replicate, length-replicate}
use lib.Dec.{leb}
use borrow.Author.Tests.{le-leb}
use Rattle.base.specs.Sums.{sum_to}
use Rattle.base.specs.Words.{at, tab, fill}
use Rattle.base.proofs.ChoiceLaws.{pick_true, and_both}
use Rattle.base.proofs.SumLaws.{sum_to-same, sum_to-add}
use Rattle.base.proofs.WordLaws.{tab-same, at_fill}
use Rattle.base.specs.Limits.{state_words}
use Rattle.intertie_shares.specs.Pairs.{fill_table}
use Rattle.intertie_shares.proofs.PairLaws.{at-fill_table}
use Rattle.sheet_reading.specs.Tables.{existing_slot}
use Rattle.sheet_reading.specs.declared.tables.Tables.{Tables}
use Rattle.step_5.specs.Shares.{step5_shares}
use Rattle.steps.specs.Inputs.{Inputs}
use Rattle.steps.specs.Valid.{Valid}
use Rattle.steps.specs.Step2.{available_total, load_share_quantity}
use Rattle.steps.specs.Step4a.{pre_ra_granted}
use Rattle.steps.specs.Step4b.{new_use_granted}
use Rattle.steps.specs.Step5to7.{held_on, held, step5_share, step7_total, unassigned}
use Rattle.steps.proofs.BoundLaws.{total-most, held-total, held-on-most}
use Rattle.intertie_shares.specs.Pairs.{pair_at}
use Rattle.steps_2_to_4.specs.Workers.Vectors.{Row, Pairs}
use Rattle.steps_2_to_4.specs.Reserved.{Outcome, inputs, reserved}
use Rattle.steps_2_to_4.proofs.StepLaws.{InRange, tables-fit, reserved-is}
use Rattle.opened_state.specs.Write.{written}
use Rattle.opened_state.specs.declared.Figures.{Figures}
use Rattle.opening.specs.Workers.Figures.{held_from, HeldGiven, HeldTaken}
use Rattle.opening.specs.Opened.{opened_state}
use Rattle.opening.proofs.WriteLaws.{Given, opened-written}

module _ (sheet : Tables) (I H : ℕ) (v : Valid (inputs sheet I H)) where
  abbrev y : Inputs
  y = inputs sheet I H

  abbrev kw : List ℕ
  kw = sheet.kw

  in-range : InRange kw I H
  in-range = record { few = v.interties-most; small = v.holders-most; limits = v.limit-most; load-shares = v.load-share-most }

  -- what Steps 2 to 4b leave
  module _ (row quantities left pre_ra new_use : List ℕ) (total : ℕ)
      (e : record { total = total; quantities = quantities; left = left; pre_ra = pre_ra; new_use = new_use }
      ≡ reserved sheet I H row (replicate 48 0) (replicate 1536 0) (replicate 1536 0)) where
    -- that is what the steps give
    abbrev given-by-steps : Outcome
    given-by-steps =
        record {
          total = available_total y;
          quantities = fill H (load_share_quantity y) row;
          left = fill I (unassigned y) (replicate 48 0);
          pre_ra = fill_table I H (pre_ra_granted y) (replicate 1536 0);
          new_use = fill_table I H (new_use_granted y) (replicate 1536 0);
        }

    done : record { total = total; quantities = quantities; left = left; pre_ra = pre_ra; new_use = new_use } ≡ given-by-steps
    done = e ∙ reserved-is sheet I H row (replicate 48 0) (replicate 1536 0) (replicate 1536 0) (tables-fit kw I H in-range)

    pub total-is : total ≡ available_total y
    total-is = ap (λ (o : Outcome). o.total) done

    pub quantities-are : quantities ≡ fill H (load_share_quantity y) row
    quantities-are = ap (λ (o : Outcome). o.quantities) done

    remain : Row I left (unassigned y)
    remain i l =
        ap (λ (o : Outcome). at o.left i) done
        ∙ at_fill I (unassigned y) (replicate 48 0) i l (omega (arith, v.interties-most, length-replicate {A = ℕ} 48 0))

    granted : Pairs H I pre_ra (pre_ra_granted y)
    granted h i k l =
        ap (λ (o : Outcome). at o.pre_ra (pair_at h i)) done
        ∙ at-fill_table H (pre_ra_granted y) (replicate 1536 0) I h i k l v.holders-most v.interties-most (omega (arith, length-replicate {A = ℕ} 1536 0))

    kept : Pairs H I new_use (new_use_granted y)
    kept h i k l =
        ap (λ (o : Outcome). at o.new_use (pair_at h i)) done
        ∙ at-fill_table H (new_use_granted y) (replicate 1536 0) I h i k l v.holders-most v.interties-most (omega (arith, length-replicate {A = ℕ} 1536 0))

    -- E, P and N of a pair are together what it holds
    pair-kw : (h i : ℕ) → h < H → i < I → at kw (existing_slot h i) + at pre_ra (pair_at h i) + at new_use (pair_at h i) ≡ held_on y h i
    unfolding held_on
    pair-kw h i k l = rw (granted h i k l, kept h i k l) refl

    pair-most : (h i : ℕ) → h < H → i < I → at kw (existing_slot h i) + at pre_ra (pair_at h i) + at new_use (pair_at h i) ≤ 20000000
    pair-most h i k l = omega (arith, pair-kw h i k l, held-on-most y v h i k l)

    held-is : (h : ℕ) → h < H → held_from I kw pre_ra new_use h ≡ held y h
    unfolding held
    held-is h k =
        let E : ℕ → ℕ = λ i. at kw (existing_slot h i) in
        let P : ℕ → ℕ = λ i. at pre_ra (pair_at h i) in
        let N : ℕ → ℕ = λ i. at new_use (pair_at h i) in
        let parts : sum_to I (λ i. E i + P i + N i) ≡ sum_to I E + sum_to I P + sum_to I N =
        sum_to-add I (λ i. E i + P i) N ∙ ap (λ n. n + sum_to I N) (sum_to-add I E P) in
        sym parts ∙ sum_to-same I _ _ (λ i l. pair-kw h i k l)

    held-sum : sum_to H (held_from I kw pre_ra new_use) ≤ total
    held-sum = omega (arith, sum_to-same H (held_from I kw pre_ra new_use) (held y) held-is, held-total y v, total-is)

    -- what Steps 5 to 7 are handed
    pub held-given : HeldGiven total kw I H pre_ra new_use
    held-given =
        record {
          few = v.interties-most;
          small = v.holders-most;
          existing-most = λ h i k l. omega (arith, pair-most h i k l);
          pre-ra-most = λ h i k l. omega (arith, pair-most h i k l);
          new-use-most = λ h i k l. omega (arith, pair-most h i k l);
          total-most = omega (arith, total-is, total-most y v);
          load-shares = v.load-share-most;
          within = held-sum;
        }

    -- what they leave, and the words that are written of it
    module _ (holds shares totals : List ℕ) (t : HeldTaken total kw I H pre_ra new_use holds shares totals) where
      hold_row : Row H holds (held y)
      hold_row h l = t.hold h l ∙ held-is h l

      share-row : Row H shares (step5_share y)
      unfolding step5_share
      share-row h l =
          t.share h l
          ∙ ap (λ (n : ℕ). at (step5_shares n (tab H (held_from I kw pre_ra new_use)) (tab H y.load_share)) h) total-is
          ∙ ap (λ m. at (step5_shares (available_total y) m (tab H y.load_share)) h) (tab-same H (held_from I kw pre_ra new_use) (held y) held-is)

      total-row : Row H totals (step7_total y)
      unfolding step7_total
      total-row h l = t.step7 h l ∙ ap (λ n. n + at shares h) (hold_row h l) ∙ ap (λ n. held y h + n) (share-row h l)

      abbrev figures : Figures
      figures = record { shares = shares; totals = totals; held = holds; pre_ra = pre_ra; new_use = new_use; unassigned = left }

      given : Given y figures
      given = record { share = share-row; total = total-row; hold = hold_row; granted = granted; kept = kept; remain = remain }

      pub year-opened : (state after : List ℕ) → 16000 ≤ length state → after ≡ written sheet I H figures state → after ≡ opened_state y state
      year-opened state after long w =
          w
          ∙ pick_true _ _ _
          (and_both (leb state_words (length state) && leb I 48) (leb H 32)
          (and_both (leb state_words (length state)) (leb I 48) (le-leb state_words (length state) long) (le-leb I 48 v.interties-most))
          (le-leb H 32 v.holders-most))
          ∙ opened-written sheet I H v figures given state
