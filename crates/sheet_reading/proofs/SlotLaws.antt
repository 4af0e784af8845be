-- The slot of a record by its kind, holder, intertie and rank: which records have a given slot.
use Prim.Native.Nat.{ℕ, ◌≤◌, ◌<◌}
use mathlib.Core.Path.{◌≡◌}
use mathlib.Core.Bool.{◌&&◌}
use native.Mathlib.Omega.{arith}
use borrow.Author.Tests.{eqb-true, leb-false, lt-leb}
use lib.Dec.{eqb, leb}
use Rattle.base.proofs.ChoiceLaws.{pick-by}
use Rattle.sheet_keys.specs.Key.{kind_of, holder_of, intertie_of, rank_of}
use Rattle.sheet_reading.specs.Tables.{slot, slot_of, limit_slot, outside_slot, load_share_slot, existing_slot, pre_ra_slot, new_use_slot, slots}
use Rattle.base.proofs.ChoiceLaws.{test_by, equal-two, equal-three}

-- each region of slots belongs to one kind
record Slotted (k h i r j : ℕ) : Type 0 where
  below : j < slots
  limits : j < 64 → (k ≡ 1) × (j ≡ limit_slot i)
  outsides : 64 ≤ j → j < 128 → (k ≡ 2) × (j ≡ outside_slot i)
  load-shares : 128 ≤ j → j < 192 → (k ≡ 3) × (j ≡ load_share_slot h)
  existings : 192 ≤ j → j < 2240 → (k ≡ 4) × (j ≡ existing_slot h i)
  pre-ras : 2240 ≤ j → j < 4288 → (k ≡ 5) × (j ≡ pre_ra_slot h i)
  new-uses : 4288 ≤ j → j < 12480 → (k ≡ 6) × (j ≡ new_use_slot h r)

module _ (k h i r : ℕ) (bh : h < 64) (bi : i < 64) (br : r < 256) where
  slotted : Slotted k h i r (slot k h i r)
  unfolding slot
  slotted =
      let P : ℕ → Type 0 = Slotted k h i r in
      pick-by P (eqb k 1) _ _ (λ t. let e = eqb-true k 1 t in omega arith) (λ _.
      pick-by P (eqb k 2) _ _ (λ t. let e = eqb-true k 2 t in omega arith) (λ _.
      pick-by P (eqb k 3) _ _ (λ t. let e = eqb-true k 3 t in omega arith) (λ _.
      pick-by P (leb 32 h) _ _ (λ _. omega arith) (λ f. let l = leb-false 32 h f in
      pick-by P (eqb k 4) _ _ (λ t. let e = eqb-true k 4 t in omega arith) (λ _.
      pick-by P (eqb k 5) _ _ (λ t. let e = eqb-true k 5 t in omega arith) (λ _.
      pick-by P (eqb k 6) _ _ (λ t. let e = eqb-true k 6 t in omega arith) (λ _. omega arith)))))))

  -- which records have a slot
  pub limit-test : (i' : ℕ) → i' < 64 → eqb (slot k h i r) (limit_slot i') ≡ (eqb k 1 && eqb i i')
  unfolding slot
  limit-test i' b =
      test_by (slot k h i r) (limit_slot i') _ _ (equal-two k 1 i i')
      (λ e. let p = slotted.limits (omega arith) in (p.0, omega (arith, p.1)), λ p. simp (p.0, p.1))

  pub outside-test : (i' : ℕ) → i' < 64 → eqb (slot k h i r) (outside_slot i') ≡ (eqb k 2 && eqb i i')
  unfolding slot
  outside-test i' b =
      test_by (slot k h i r) (outside_slot i') _ _ (equal-two k 2 i i')
      (λ e. let p = slotted.outsides (omega arith) (omega arith) in (p.0, omega (arith, p.1)), λ p. simp (p.0, p.1))

  pub load-share-test : (h' : ℕ) → h' < 64 → eqb (slot k h i r) (load_share_slot h') ≡ (eqb k 3 && eqb h h')
  unfolding slot
  load-share-test h' b =
      test_by (slot k h i r) (load_share_slot h') _ _ (equal-two k 3 h h')
      (λ e. let p = slotted.load-shares (omega arith) (omega arith) in (p.0, omega (arith, p.1)), λ p. simp (p.0, p.1))

  pub existing-test : (h' i' : ℕ) → h' < 32 → i' < 64 → eqb (slot k h i r) (existing_slot h' i') ≡ (eqb k 4 && eqb h h' && eqb i i')
  unfolding slot
  existing-test h' i' b d =
      test_by (slot k h i r) (existing_slot h' i') _ _ (equal-three k 4 h h' i i') (
        λ e. let p = slotted.existings (omega arith) (omega arith) in (p.0, omega (arith, p.1), omega (arith, p.1)),
        λ p. simp (p.0, p.1, p.2, lt-leb 32 h' (omega arith)),
      )

  pub pre-ra-test : (h' i' : ℕ) → h' < 32 → i' < 64 → eqb (slot k h i r) (pre_ra_slot h' i') ≡ (eqb k 5 && eqb h h' && eqb i i')
  unfolding slot
  pre-ra-test h' i' b d =
      test_by (slot k h i r) (pre_ra_slot h' i') _ _ (equal-three k 5 h h' i i') (
        λ e. let p = slotted.pre-ras (omega arith) (omega arith) in (p.0, omega (arith, p.1), omega (arith, p.1)),
        λ p. simp (p.0, p.1, p.2, lt-leb 32 h' (omega arith)),
      )

  pub new-use-test : (h' r' : ℕ) → h' < 32 → r' < 256 → eqb (slot k h i r) (new_use_slot h' r') ≡ (eqb k 6 && eqb h h' && eqb r r')
  unfolding slot
  new-use-test h' r' b d =
      test_by (slot k h i r) (new_use_slot h' r') _ _ (equal-three k 6 h h' r r') (
        λ e. let p = slotted.new-uses (omega arith) (omega arith) in (p.0, omega (arith, p.1), omega (arith, p.1)),
        λ p. simp (p.0, p.1, p.2, lt-leb 32 h' (omega arith)),
      )

pub slot-of-below : (key : ℕ) → slot_of key < slots
slot-of-below key = (slotted (kind_of key) (holder_of key) (intertie_of key) (rank_of key) (omega arith) (omega arith) (omega arith)).below
