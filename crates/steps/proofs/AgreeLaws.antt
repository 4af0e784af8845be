-- Inputs that agree in what the steps read give the same results.
use Prim.Native.Nat.{ℕ, ◌+◌, ◌-◌, ◌≤◌, ◌<◌}
use mathlib.Core.Path.{◌≡◌, ap, ◌∙◌}
use native.Mathlib.Omega.{arith}
use Rattle.base.specs.Sums.{sum_to}
use Rattle.base.specs.Words.{at, tab}
use Rattle.base.proofs.SumLaws.{sum_to-same}
use Rattle.base.proofs.WordLaws.{tab-same}
use Rattle.share_out.specs.Rule.{Outcome}
use Rattle.intertie_shares.specs.Rule.{among_holders}
use Rattle.intertie_shares.proofs.HolderLaws.{among_same}
use Rattle.step_4b.specs.NewUse.{NewUse}
use Rattle.steps.specs.Inputs.{Inputs}
use Rattle.steps.specs.Step2.{available, available_total, all_load_shares, load_share_quantity}
use Rattle.steps.specs.Step4a.{existing_on, left_by_step3, pre_ra_claim, pre_ra_shared, pre_ra_granted, left_by_step4a}
use Rattle.steps.specs.Step4b.{allowance, cover, new_use_kept, new_use_claim, new_use_shared, new_use_granted}
use Rattle.steps.specs.Step5to7.{held_on, held, reserved_on, step5_share, step7_total, unassigned}

-- z says what y says, of the interties below 48, the holders below 32 and the ranks below 256
pub record Agree (y z : Inputs) : Type 0 where
  pub interties : y.interties ≡ z.interties
  pub holders : y.holders ≡ z.holders
  pub few-interties : y.interties ≤ 48
  pub few-holders : y.holders ≤ 32
  pub limit : (i : ℕ) → i < 48 → y.limit i ≡ z.limit i
  pub outside : (i : ℕ) → i < 48 → y.outside i ≡ z.outside i
  pub load-share : (h : ℕ) → h < 32 → y.load_share h ≡ z.load_share h
  pub existing : (h i : ℕ) → h < 32 → i < 48 → y.existing h i ≡ z.existing h i
  pub pre-ra : (h i : ℕ) → h < 32 → i < 48 → y.pre_ra h i ≡ z.pre_ra h i
  pub new-use-kw : (h r : ℕ) → h < 32 → r < 256 → y.new_use_kw h r ≡ z.new_use_kw h r
  pub new-use-intertie : (h r : ℕ) → h < 32 → r < 256 → y.new_use_intertie h r ≡ z.new_use_intertie h r

module _ (y z : Inputs) (a : Agree y z) where
  over-interties : (f g : ℕ → ℕ) → ((i : ℕ) → i < 48 → f i ≡ g i) → sum_to y.interties f ≡ sum_to z.interties g
  over-interties f g same =
      sum_to-same y.interties f g (λ i l. same i (omega (arith, a.few-interties))) ∙ ap (λ n. sum_to n g) a.interties

  over-holders : (f g : ℕ → ℕ) → ((h : ℕ) → h < 32 → f h ≡ g h) → sum_to y.holders f ≡ sum_to z.holders g
  over-holders f g same =
      sum_to-same y.holders f g (λ h l. same h (omega (arith, a.few-holders))) ∙ ap (λ n. sum_to n g) a.holders

  tab-holders : (f g : ℕ → ℕ) → ((h : ℕ) → h < 32 → f h ≡ g h) → tab y.holders f ≡ tab z.holders g
  tab-holders f g same =
      tab-same y.holders f g (λ h l. same h (omega (arith, a.few-holders))) ∙ ap (λ n. tab n g) a.holders

  -- the same pool shared out over the same claims
  among-agree : (p q : ℕ) (f g : ℕ → ℕ) → p ≡ q → ((h : ℕ) → h < 32 → f h ≡ g h) →
      among_holders y.holders p f y.load_share ≡ among_holders z.holders q g z.load_share
  among-agree p q f g e same =
      among_same y.holders f g y.load_share z.load_share e
      (λ h l. same h (omega (arith, a.few-holders)))
      (λ h l. a.load-share h (omega (arith, a.few-holders)))
      ∙ ap (λ n. among_holders n q g z.load_share) a.holders

  pub available-agree : (i : ℕ) → i < 48 → available y i ≡ available z i
  unfolding available
  available-agree i l = let p = a.limit i l in let q = a.outside i l in cc

  pub total-agree : available_total y ≡ available_total z
  unfolding available_total
  total-agree = over-interties (available y) (available z) available-agree

  pub quantity-agree : (h : ℕ) → h < 32 → load_share_quantity y h ≡ load_share_quantity z h
  unfolding load_share_quantity all_load_shares
  quantity-agree h l =
      let t : available_total y ≡ available_total z = total-agree in
      let s : sum_to y.holders y.load_share ≡ sum_to z.holders z.load_share = over-holders y.load_share z.load_share a.load-share in
      let w = a.load-share h l in
      cc

  existing-on-agree : (i : ℕ) → i < 48 → existing_on y i ≡ existing_on z i
  unfolding existing_on
  existing-on-agree i l = over-holders (λ h. y.existing h i) (λ h. z.existing h i) (λ h k. a.existing h i k l)

  pub left3-agree : (i : ℕ) → i < 48 → left_by_step3 y i ≡ left_by_step3 z i
  unfolding left_by_step3
  left3-agree i l = let p = available-agree i l in let q = existing-on-agree i l in cc

  claim-agree : (h i : ℕ) → h < 32 → i < 48 → pre_ra_claim y h i ≡ pre_ra_claim z h i
  unfolding pre_ra_claim
  claim-agree h i k l = let p = a.pre-ra h i k l in let q = a.existing h i k l in cc

  pub pre-ra-agree : (h i : ℕ) → i < 48 → pre_ra_granted y h i ≡ pre_ra_granted z h i
  unfolding pre_ra_granted pre_ra_shared
  pre-ra-agree h i l =
      ap (λ (o : Outcome). at o.output h)
      (among-agree (left_by_step3 y i) (left_by_step3 z i) (λ j. pre_ra_claim y j i) (λ j. pre_ra_claim z j i) (left3-agree i l) (λ j k. claim-agree j i k l))

  left4a-agree : (i : ℕ) → i < 48 → left_by_step4a y i ≡ left_by_step4a z i
  unfolding left_by_step4a
  left4a-agree i l =
      let p = left3-agree i l in
      let q : sum_to y.holders (λ h. pre_ra_granted y h i) ≡ sum_to z.holders (λ h. pre_ra_granted z h i) =
      over-holders (λ h. pre_ra_granted y h i) (λ h. pre_ra_granted z h i) (λ h k. pre-ra-agree h i l) in
      cc

  allowance-agree : (h : ℕ) → h < 32 → allowance y h ≡ allowance z h
  unfolding allowance
  allowance-agree h l =
      let p = quantity-agree h l in
      let q : sum_to y.interties (λ i. y.existing h i + pre_ra_granted y h i) ≡ sum_to z.interties (λ i. z.existing h i + pre_ra_granted z h i) =
      over-interties (λ i. y.existing h i + pre_ra_granted y h i) (λ i. z.existing h i + pre_ra_granted z h i)
      (λ i m. let e = a.existing h i l m in let g = pre-ra-agree h i m in cc) in
      cc

  cover-agree : (h : ℕ) → h < 32 → cover y h ≡ cover z h
  unfolding cover
  cover-agree h l =
      tab-same 48 (λ i. y.existing h i - y.pre_ra h i) (λ i. z.existing h i - z.pre_ra h i)
      (λ i m. let e = a.existing h i l m in let g = a.pre-ra h i l m in cc)

  kept-agree : (h : ℕ) → h < 32 → new_use_kept y h ≡ new_use_kept z h
  unfolding new_use_kept
  kept-agree h l =
      let k : tab 256 (y.new_use_kw h) ≡ tab 256 (z.new_use_kw h) = tab-same 256 (y.new_use_kw h) (z.new_use_kw h) (λ r m. a.new-use-kw h r l m) in
      let t : tab 256 (y.new_use_intertie h) ≡ tab 256 (z.new_use_intertie h) =
      tab-same 256 (y.new_use_intertie h) (z.new_use_intertie h) (λ r m. a.new-use-intertie h r l m) in
      let q = allowance-agree h l in
      let c = cover-agree h l in
      cc

  claim-4b-agree : (h i : ℕ) → h < 32 → new_use_claim y h i ≡ new_use_claim z h i
  unfolding new_use_claim
  claim-4b-agree h i l = ap (λ (s : NewUse). at s.kept i) (kept-agree h l)

  pub new-use-agree : (h i : ℕ) → i < 48 → new_use_granted y h i ≡ new_use_granted z h i
  unfolding new_use_granted new_use_shared
  new-use-agree h i l =
      ap (λ (o : Outcome). at o.output h)
      (among-agree (left_by_step4a y i) (left_by_step4a z i) (λ j. new_use_claim y j i) (λ j. new_use_claim z j i) (left4a-agree i l) (λ j k. claim-4b-agree j i k))

  held-on-agree : (h i : ℕ) → h < 32 → i < 48 → held_on y h i ≡ held_on z h i
  unfolding held_on
  held-on-agree h i k l = let e = a.existing h i k l in let p = pre-ra-agree h i l in let n = new-use-agree h i l in cc

  pub held-agree : (h : ℕ) → h < 32 → held y h ≡ held z h
  unfolding held
  held-agree h l = over-interties (λ i. held_on y h i) (λ i. held_on z h i) (λ i m. held-on-agree h i l m)

  reserved-on-agree : (i : ℕ) → i < 48 → reserved_on y i ≡ reserved_on z i
  unfolding reserved_on
  reserved-on-agree i l = over-holders (λ h. held_on y h i) (λ h. held_on z h i) (λ h k. held-on-agree h i k l)

  pub share-agree : (h : ℕ) → step5_share y h ≡ step5_share z h
  unfolding step5_share
  share-agree h =
      let t : available_total y ≡ available_total z = total-agree in
      let p : tab y.holders (held y) ≡ tab z.holders (held z) = tab-holders (held y) (held z) held-agree in
      let q : tab y.holders y.load_share ≡ tab z.holders z.load_share = tab-holders y.load_share z.load_share a.load-share in
      cc

  pub step7-agree : (h : ℕ) → h < 32 → step7_total y h ≡ step7_total z h
  unfolding step7_total
  step7-agree h l = let p = held-agree h l in let q = share-agree h in cc

  pub unassigned-agree : (i : ℕ) → i < 48 → unassigned y i ≡ unassigned z i
  unfolding unassigned
  unassigned-agree i l = let p = available-agree i l in let q = reserved-on-agree i l in cc
