-- Step 2 as the code finds it, and what each step hands to the next.
use Prim.Native.Nat.{ℕ, ◌+◌, ◌-◌, ◌*◌, ◌/◌, ◌%◌, ◌^◌, ◌≤◌, ◌<◌}
use mathlib.Core.Path.{◌≡◌, refl, sym, ap, ◌∙◌}
use mathlib.Core.Bool.{Bool, true, false, ◌&&◌, ◌||◌, true≢false}
use mathlib.Core.List.{List, ◌++◌}
use native.Mathlib.Omega.{arith}
use lib.Dec.{leb, ltb}
use lib.ListN.{length, take, drop}
use borrow.Author.Tests.{leb-true, le-leb, ltb-false, le-ltb}
use borrow.Rule.Slice.PartMut.{mid_of}
use Rattle.base.specs.Sums.{sum_to, all_to}
use Rattle.base.specs.Words.{at, tab, fill}
use Rattle.base.proofs.ChoiceLaws.{pick-by, pick_true, pick-false, and_left, and_right, and_both, or_left, or_right}
use Rattle.base.proofs.SumLaws.{sum_to-same, sum_to-bound, all_to-each, all_to-all}
use Rattle.base.proofs.WordLaws.{at-tab, length-tab, tab-same, fill-front, fill-same}
use Rattle.base.proofs.VectorLaws.{at_mid, sum-whole, all-front, all-part}
use Rattle.intertie_shares.specs.Pairs.{fill_table}
use Rattle.sheet_reading.specs.Tables.{limit_slot, load_share_slot}
use Rattle.sheet_reading.specs.declared.tables.Tables.{Tables}
use Rattle.steps.specs.Inputs.{Inputs}
use Rattle.steps.specs.Step2.{available, available_total, all_load_shares, load_share_quantity}
use Rattle.steps.specs.Step4a.{pre_ra_granted}
use Rattle.steps.specs.Step4b.{new_use_granted}
use Rattle.steps.specs.Step5to7.{unassigned}
use Rattle.steps_2_to_4.specs.Workers.Vectors.{Row}
use Rattle.steps_2_to_4.specs.Workers.Steps.{Available, Taken}
use Rattle.steps_2_to_4.specs.Reserved.{inputs, fit_tables, reserved}

-- sizes in range
pub record SmallSizes (I H : ℕ) : Type 0 where
  pub few : I ≤ 48
  pub small : H ≤ 32

pub sizes-small : (I H : ℕ) → ltb 48 I || ltb 32 H ≡ false → SmallSizes I H
sizes-small I H e =
    record {
      few = ltb-false 48 I (or_left (ltb 48 I) (ltb 32 H) e);
      small = ltb-false 32 H (or_right (ltb 48 I) (ltb 32 H) e);
    }

-- what the test of the tables says
pub record InRange (kw : List ℕ) (I H : ℕ) : Type 0 where
  pub few : I ≤ 48
  pub small : H ≤ 32
  pub limits : (i : ℕ) → i < I → at kw (limit_slot i) ≤ 20000000
  pub load-shares : (h : ℕ) → h < H → at kw (load_share_slot h) ≤ 100000000

module _ (kw : List ℕ) (I H : ℕ) where
  abbrev limits_hold : Bool
  limits_hold = all_to I (λ i. leb (at kw (limit_slot i)) 20000000)

  abbrev loads_hold : Bool
  loads_hold = all_to H (λ h. leb (at kw (load_share_slot h)) 100000000)

  pub fit-tables : fit_tables kw I H ≡ true → InRange kw I H
  fit-tables =
      pick-by (λ b. b ≡ true → InRange kw I H) (ltb 48 I || ltb 32 H) false (limits_hold && loads_hold)
      (λ t e. absurd (true≢false (sym e)))
      (λ f e.
      let z = sizes-small I H f in
      record {
        few = z.few;
        small = z.small;
        limits = λ i l. leb-true (at kw (limit_slot i)) 20000000 (all_to-each I _ (and_left limits_hold loads_hold e) i l);
        load-shares = λ h l. leb-true (at kw (load_share_slot h)) 100000000 (all_to-each H _ (and_right limits_hold loads_hold e) h l);
      })

  pub tables-fit : InRange kw I H → fit_tables kw I H ≡ true
  tables-fit r =
      rw (le-ltb 48 I r.few, le-ltb 32 H r.small)
      (and_both limits_hold loads_hold
      (all_to-all I (λ i. leb (at kw (limit_slot i)) 20000000) (λ i l. le-leb (at kw (limit_slot i)) 20000000 (r.limits i l)))
      (all_to-all H (λ h. leb (at kw (load_share_slot h)) 100000000) (λ h l. le-leb (at kw (load_share_slot h)) 100000000 (r.load-shares h l))))

  -- the code finds it in two parts
  pub fit-by-parts : (limits loads : Bool) → length kw ≡ 12481 → ltb 48 I || ltb 32 H ≡ false →
      limits ≡ all_to (length (take I kw)) (λ i. leb (at (take I kw) i) 20000000) →
      loads ≡ all_to (length (mid_of 128 (128 + H - 128) kw)) (λ h. leb (at (mid_of 128 (128 + H - 128) kw) h) 100000000) →
      limits && loads ≡ fit_tables kw I H
  fit-by-parts limits loads size f a b =
      let z = sizes-small I H f in
      let one : limits ≡ limits_hold = a ∙ all-front I kw (λ n. leb n 20000000) (omega (arith, z.few)) in
      let two : loads ≡ loads_hold = b ∙ all-part 128 (128 + H) H kw (λ n. leb n 100000000) refl (omega (arith, z.small)) in
      rw (one, two) (sym (pick-false _ _ _ f))

-- Step 2
module _ (tables : Tables) (I H : ℕ) (loads : List ℕ) (range : InRange tables.kw I H) (weighed : loads ≡ tab H (λ h. at tables.kw (load_share_slot h))) where
  abbrev y : Inputs
  y = inputs tables I H

  loads-size : length loads ≡ H
  loads-size = ap length weighed ∙ length-tab H _

  weigh : Row H loads y.load_share
  weigh h l = ap (λ m. at m h) weighed ∙ at-tab H _ h l

  pub load-most : (h : ℕ) → h < length loads → at loads h ≤ 100000000
  load-most h l =
      let low : h < H = omega (arith, loads-size) in
      omega (arith, weigh h low, range.load-shares h low)

  module _ (pools : List ℕ) (n k : ℕ) (room : n ≡ I) (pool : pools ≡ tab n (λ c. at tables.kw c - at (mid_of 64 k tables.kw) c)) (long : 48 ≤ k) where
    pools-are : pools ≡ tab I (available y)
    unfolding available
    pools-are =
        pool ∙ ap (λ m. tab m (λ c. at tables.kw c - at (mid_of 64 k tables.kw) c)) room
        ∙ tab-same I _ _ (λ i l. ap (λ x. at tables.kw i - x) (at_mid 64 k tables.kw i (omega (arith, range.few))))

    pool-sum : sum_to (length pools) (at pools) ≡ available_total y
    unfolding available_total
    pool-sum =
        ap (λ n. sum_to n (at pools)) (ap length pools-are ∙ length-tab I _)
        ∙ sum_to-same I (at pools) (available y) (λ i l. ap (λ m. at m i) pools-are ∙ at-tab I (available y) i l)

    pool-small : available_total y ≤ 960000000
    unfolding available_total available
    pool-small =
        omega (
          arith,
          range.few,
          sum_to-bound I 20000000 (available y) (λ i l. omega (arith, range.limits i l)),
        )

    module _ (total all : ℕ) (sum : total ≡ sum_to (length pools) (at pools) % 2 ^ 64) (loaded : all ≡ sum_to (length loads) (at loads) % 2 ^ 64) where
      total-is : total ≡ available_total y
      total-is = sum-whole total (length pools) (at pools) sum (omega (arith, pool-small, pool-sum)) ∙ pool-sum

      all-is : all ≡ all_load_shares y
      unfolding all_load_shares
      all-is =
          sum-whole all (length loads) (at loads) loaded
          (omega (arith, range.small, loads-size, sum_to-bound (length loads) 100000000 (at loads) load-most))
          ∙ ap (λ n. sum_to n (at loads)) loads-size
          ∙ sum_to-same H (at loads) y.load_share weigh

      pub total-small : total ≤ 960000000
      total-small = omega (arith, total-is, pool-small)

      pub available-is : (quantities : List ℕ) (m : ℕ) → m ≡ H → quantities ≡ tab m (λ h. total * at loads h / all) → Available y pools quantities total
      unfolding load_share_quantity
      available-is quantities m room e =
          record {
            pool = pools-are;
            quantity =
                e ∙ ap (λ n. tab n (λ h. total * at loads h / all)) room
                ∙ tab-same H _ (load_share_quantity y)
                (λ h l. rw (total-is, all-is, weigh h l) refl);
            sum = total-is;
          }

-- words put in front of the rest of a row
front-filled : (n : ℕ) (f : ℕ → ℕ) (first row : List ℕ) → first ≡ tab n f → n ≤ length row → first ++ drop n row ≡ fill n f row
front-filled n f first row e room =
    let size : length first ≡ n = ap length e ∙ length-tab n f in
    ap (λ k. first ++ drop k row) (sym size) ∙ sym (fill-front first row (omega arith)) ∙ ap (λ k. fill k (at first) row) size
    ∙ fill-same n (at first) f row (λ i l. ap (λ m. at m i) e ∙ at-tab n f i l)

-- the call by cases: nothing written, or Steps 2 to 4b
module _ (tables : Tables) (I H : ℕ) (quantities left pre_ra new_use : List ℕ) where
  pub reserved-not : fit_tables tables.kw I H ≡ false →
      reserved tables I H quantities left pre_ra new_use ≡ record { total = 0; quantities = quantities; left = left; pre_ra = pre_ra; new_use = new_use }
  unfolding reserved
  reserved-not e = pick-false _ _ _ e

  pub reserved-is : fit_tables tables.kw I H ≡ true → reserved tables I H quantities left pre_ra new_use ≡ record {
    total = available_total (inputs tables I H);
    quantities = fill H (load_share_quantity (inputs tables I H)) quantities;
    left = fill I (unassigned (inputs tables I H)) left;
    pre_ra = fill_table I H (pre_ra_granted (inputs tables I H)) pre_ra;
    new_use = fill_table I H (new_use_granted (inputs tables I H)) new_use;
  }
  unfolding reserved
  reserved-is e = pick_true _ _ _ e

-- Steps 2 to 4b, over the first numbers of rows
pub taken-whole : (tables : Tables) (I H : ℕ) (quantities left pre_ra new_use found first granted kept : List ℕ) (total : ℕ) → I ≤ 48 → H ≤ 32 →
    length quantities ≡ 32 → length left ≡ 48 → fit_tables tables.kw I H ≡ true →
    Taken (inputs tables I H) pre_ra new_use found first granted kept total →
    record { total = total; quantities = found ++ drop H quantities; left = first ++ drop I left; pre_ra = granted; new_use = kept }
    ≡ reserved tables I H quantities left pre_ra new_use
taken-whole tables I H quantities left pre_ra new_use found first granted kept total few small long wide fit t =
    rw (
      t.sum,
      front-filled H _ found quantities t.quantity (omega (arith, small, long)),
      front-filled I _ first left t.reserved.remains (omega (arith, few, wide)),
      t.reserved.granted,
      t.reserved.kept,
    )
    (sym (reserved-is tables I H quantities left pre_ra new_use fit))
