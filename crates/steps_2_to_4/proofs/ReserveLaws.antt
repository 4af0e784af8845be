-- Steps 3 to 4b in order: what is left on each intertie, P and N.
use Prim.Native.Nat.{ℕ, ◌+◌, ◌-◌, ◌*◌, ◌≤◌, ◌<◌}
use mathlib.Core.Path.{◌≡◌, refl, ap, ◌∙◌}
use mathlib.Core.List.{List, []}
use native.Mathlib.Omega.{arith}
use lib.ListN.{length, take, get_or}
use borrow.Rule.Slice.PartMut.{mid_of}
use Rattle.std.specs.Simd.{first_chunks}
use Rattle.base.specs.Sums.{sum_to}
use Rattle.base.specs.Words.{at, tab}
use Rattle.base.proofs.SumLaws.{sum_to-same}
use Rattle.base.proofs.WordLaws.{at-tab, length-tab, tab-same}
use Rattle.base.proofs.VectorLaws.{lowered, at_mid, length-rows, off_rows}
use Rattle.share_out.specs.Rule.{Outcome}
use Rattle.intertie_shares.specs.Pairs.{pair_at, fill_table}
use Rattle.intertie_shares.proofs.HolderLaws.{among_same}
use Rattle.intertie_shares.proofs.PairLaws.{at-fill_table, fill_table-same}
use Rattle.step_4b.specs.NewUse.{new_use}
use Rattle.sheet_reading.specs.Tables.{existing_slot, pre_ra_slot, new_use_slot}
use Rattle.sheet_reading.specs.declared.tables.Tables.{Tables}
use Rattle.steps.specs.Inputs.{Inputs}
use Rattle.steps.specs.Step2.{available, load_share_quantity}
use Rattle.steps.specs.Step4a.{existing_on, left_by_step3, pre_ra_claim, pre_ra_shared, pre_ra_granted, left_by_step4a}
use Rattle.steps.specs.Step4b.{allowance, cover, new_use_kept, new_use_claim, new_use_shared, new_use_granted}
use Rattle.steps.specs.Step5to7.{unassigned}
use Rattle.steps.proofs.BoundLaws.{reserved-parts}
use Rattle.steps_2_to_4.specs.Reserved.{inputs}
use Rattle.steps_2_to_4.specs.Workers.Vectors.{Pairs, kept_from, SharedOver}
use Rattle.steps_2_to_4.specs.Workers.Steps.{Granted}

-- a row of n numbers, off which m rows of a table are taken
lowered-tab : (n m : ℕ) (a : ℕ → ℕ) (f g : ℕ → ℕ → ℕ) (first : List ℕ) → first ≡ tab n a → ((h i : ℕ) → h < m → i < n → f h i ≡ g h i) →
    lowered f first m ≡ tab n (λ i. a i - sum_to m (λ h. g h i))
lowered-tab n m a f g first e same =
    ap (λ k. tab k (λ i. at first i - sum_to m (λ h. f h i))) (ap length e ∙ length-tab n a)
    ∙ tab-same n _ (λ i. a i - sum_to m (λ h. g h i))
    (λ i l.
    ap (λ (x : ℕ). x - sum_to m (λ h. f h i)) (ap (λ r. at r i) e ∙ at-tab n a i l)
    ∙ ap (λ (x : ℕ). a i - x) (sum_to-same m (λ h. f h i) (λ h. g h i) (λ h k. same h i k l)))

-- rows that `take_off_each` is lent: of a table of the pairs, and of the sheet's table from a slot on
abbrev rows_off : List (List ℕ) → ℕ → List ℕ → List ℕ
rows_off rows m row = tab (length row) (λ c. at row c - sum_to (length (take m rows)) (λ h. at (get_or (take m rows) h []) c))

rows-lowered : (n k m : ℕ) (rows : List (List ℕ)) (l row after : List ℕ) → rows ≡ first_chunks n k l → m ≤ length rows → length row ≤ n →
    after ≡ rows_off rows m row → after ≡ lowered (λ h c. at l (n * h + c)) row m
rows-lowered n k m rows l row after cut few narrow e = (rw cut at e) ∙ off_rows n k m l row (omega (arith, ap length cut, length-rows n k l)) narrow

module _ (tables : Tables) (I H : ℕ) (few : I ≤ 48) (small : H ≤ 32) where
  abbrev y : Inputs
  y = inputs tables I H

  module _ (pools : List ℕ) (start : pools ≡ tab I (available y)) where
    pools-size : length pools ≡ I
    pools-size = ap length start ∙ length-tab I (available y)

    pub left-by-step-3 : (n k : ℕ) (rows : List (List ℕ)) (first : List ℕ) → rows ≡ first_chunks 64 k (mid_of 192 n tables.kw) → 2048 ≤ n → H ≤ length rows →
        first ≡ rows_off rows H pools → first ≡ tab I (left_by_step3 y)
    unfolding left_by_step3 existing_on
    left-by-step-3 n k rows first cut long inside e =
        rows-lowered 64 k H rows (mid_of 192 n tables.kw) pools first cut inside (omega (arith, pools-size)) e
        ∙ lowered-tab I H (available y) (λ h i. at (mid_of 192 n tables.kw) (64 * h + i)) y.existing pools start
        (λ h i k l. at_mid 192 n tables.kw (64 * h + i) (omega arith) ∙ ap (at tables.kw) (omega arith))

  module _ (first empty granted : List ℕ) (left : first ≡ tab I (left_by_step3 y)) (room : length empty ≡ 1536)
      (shared : SharedOver y first (pre_ra_claim y) empty granted) where
    -- P
    pub pre-ra-are : granted ≡ fill_table I H (pre_ra_granted y) empty
    unfolding pre_ra_granted pre_ra_shared
    pre-ra-are =
        shared
        ∙ fill_table-same I H _ (pre_ra_granted y) empty
        (λ h i k l.
        ap (λ (o : Outcome). at o.output h)
        (among_same H (λ j. pre_ra_claim y j i) (λ j. pre_ra_claim y j i) y.load_share y.load_share
        (ap (λ r. at r i) left ∙ at-tab I (left_by_step3 y) i l) (λ j m. refl) (λ j m. refl)))

    pub pre-ra-is : Pairs H I granted (pre_ra_granted y)
    pre-ra-is h i k l = ap (λ t. at t (pair_at h i)) pre-ra-are ∙ at-fill_table H (pre_ra_granted y) empty I h i k l small few (omega arith)

    pub left-by-step-4a : (k : ℕ) (rows : List (List ℕ)) (second : List ℕ) → rows ≡ first_chunks 48 k granted → H ≤ length rows →
        second ≡ rows_off rows H first → second ≡ tab I (left_by_step4a y)
    unfolding left_by_step4a
    left-by-step-4a k rows second cut inside e =
        rows-lowered 48 k H rows granted first second cut inside (omega (arith, ap length left, length-tab I (left_by_step3 y))) e
        ∙ lowered-tab I H (left_by_step3 y) (λ h i. at granted (48 * h + i)) (pre_ra_granted y) first left pre-ra-is

    module _ (quantities : List ℕ) (quantity : quantities ≡ tab H (load_share_quantity y)) where
      -- the claims of Step 4b
      claim-is : (h i : ℕ) → h < H → at (kept_from tables I (at quantities h) granted h).kept i ≡ new_use_claim y h i
      unfolding new_use_claim new_use_kept allowance cover
      claim-is h i k =
          let kw = tables.kw in
          let spent : sum_to I (λ i. at kw (existing_slot h i) + at granted (pair_at h i)) ≡ sum_to I (λ i. y.existing h i + pre_ra_granted y h i) =
          sum_to-same I _ _ (λ j l. ap (λ x. at kw (existing_slot h j) + x) (pre-ra-is h j k l)) in
          let left : at quantities h - sum_to I (λ i. at kw (existing_slot h i) + at granted (pair_at h i))
          ≡ load_share_quantity y h - sum_to I (λ i. y.existing h i + pre_ra_granted y h i) =
          let q : at quantities h ≡ load_share_quantity y h = ap (λ r. at r h) quantity ∙ at-tab H (load_share_quantity y) h k in cc in
          ap (λ (n : ℕ).
          at (new_use (tab 256 (λ r. at kw (new_use_slot h r))) (tab 256 (λ r. at tables.interties (new_use_slot h r))) n
          (tab 48 (λ i. at kw (existing_slot h i) - at kw (pre_ra_slot h i))) 48).kept i)
          left

      module _ (second bare kept : List ℕ) (left-4a : second ≡ tab I (left_by_step4a y)) (bare-room : length bare ≡ 1536)
          (shared-4b : SharedOver y second (λ h i. at (kept_from tables I (at quantities h) granted h).kept i) bare kept) where
        -- N
        pub new-use-are : kept ≡ fill_table I H (new_use_granted y) bare
        unfolding new_use_granted new_use_shared
        new-use-are =
            shared-4b
            ∙ fill_table-same I H _ (new_use_granted y) bare
            (λ h i k l.
            ap (λ (o : Outcome). at o.output h)
            (among_same H (λ j. at (kept_from tables I (at quantities j) granted j).kept i) (λ j. new_use_claim y j i) y.load_share y.load_share
            (ap (λ r. at r i) left-4a ∙ at-tab I (left_by_step4a y) i l) (λ j m. claim-is j i m) (λ j m. refl)))

        new-use-is : Pairs H I kept (new_use_granted y)
        new-use-is h i k l = ap (λ t. at t (pair_at h i)) new-use-are ∙ at-fill_table H (new_use_granted y) bare I h i k l small few (omega arith)

        -- what stays unassigned
        unassigned-are : (k : ℕ) (rows : List (List ℕ)) (after : List ℕ) → rows ≡ first_chunks 48 k kept → H ≤ length rows → after ≡ rows_off rows H second →
            after ≡ tab I (unassigned y)
        unfolding unassigned left_by_step4a left_by_step3
        unassigned-are k rows after cut inside e =
            rows-lowered 48 k H rows kept second after cut inside (omega (arith, ap length left-4a, length-tab I (left_by_step4a y))) e
            ∙ lowered-tab I H (left_by_step4a y) (λ h i. at kept (48 * h + i)) (new_use_granted y) second left-4a new-use-is
            ∙ tab-same I _ (unassigned y) (λ i l. omega (arith, reserved-parts y i))

        pub granted-is : (k : ℕ) (rows : List (List ℕ)) (after : List ℕ) → rows ≡ first_chunks 48 k kept → H ≤ length rows → after ≡ rows_off rows H second →
            Granted y empty bare after granted kept
        granted-is k rows after cut inside e = record { remains = unassigned-are k rows after cut inside e; granted = pre-ra-are; kept = new-use-are }
