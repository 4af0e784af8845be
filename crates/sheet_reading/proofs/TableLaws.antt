-- What the tables of a sheet have at its slots.
use Prim.Native.Nat.{ℕ, ◌<◌}
use mathlib.Core.Path.{◌≡◌, ap, ◌∙◌}
use mathlib.Core.Bool.{Bool, ◌&&◌}
use mathlib.Core.List.{List}
use native.Mathlib.Omega.{arith}
use lib.Dec.{eqb}
use Rattle.base.specs.Choice.{pick}
use Rattle.base.specs.Words.{at}
use Rattle.base.proofs.SumLaws.{sum_to-same}
use Rattle.base.proofs.WordLaws.{at-tab}
use Rattle.sheet_keys.specs.Key.{kind_of, holder_of, intertie_of, rank_of}
use Rattle.sheet_records.specs.Sheet.{count, key_at, kw_at, sum_over, is_limit, is_outside, is_load_share, is_existing, is_pre_ra, is_new_use, limit, outside, load_share, existing, pre_ra, new_use_kw, new_use_intertie}
use Rattle.sheet_reading.specs.Tables.{slot, slot_of, limit_slot, outside_slot, load_share_slot, existing_slot, pre_ra_slot, new_use_slot, slots, table, kw_table, intertie_table}
use Rattle.sheet_reading.proofs.SlotLaws.{limit-test, outside-test, load-share-test, existing-test, pre-ra-test, new-use-test}

-- a table of any amount at each kind of slot
module _ (s : List ℕ) (amount : ℕ → ℕ) where
  at_table : (j : ℕ) (test : ℕ → ℕ → ℕ → ℕ → Bool) → j < slots
      → ((k h i r : ℕ) → h < 64 → i < 64 → r < 256 → eqb (slot k h i r) j ≡ test k h i r)
      → at (table s amount) j ≡ sum_over s (λ key. test (kind_of key) (holder_of key) (intertie_of key) (rank_of key)) amount
  unfolding table sum_over
  at_table j test b same =
      let fields : ℕ → Bool = λ key. test (kind_of key) (holder_of key) (intertie_of key) (rank_of key) in
      at-tab slots (λ i. sum_over s (λ key. eqb (slot_of key) i) amount) j b
      ∙ sum_to-same (count s) (λ k. pick (eqb (slot_of (key_at s k)) j) (amount k) 0) (λ k. pick (fields (key_at s k)) (amount k) 0)
      (λ k _.
      let key : ℕ = key_at s k in
      ap (λ (t : Bool). pick t (amount k) 0)
      (same (kind_of key) (holder_of key) (intertie_of key) (rank_of key) (omega arith) (omega arith) (omega arith)))

  pub at-limit : (i : ℕ) → i < 64 → at (table s amount) (limit_slot i) ≡ sum_over s (is_limit i) amount
  at-limit i b = at_table (limit_slot i) (λ k h i' r. eqb k 1 && eqb i' i) (omega arith) (λ k h i' r p q t. limit-test k h i' r p q t i b)

  pub at-outside : (i : ℕ) → i < 64 → at (table s amount) (outside_slot i) ≡ sum_over s (is_outside i) amount
  at-outside i b = at_table (outside_slot i) (λ k h i' r. eqb k 2 && eqb i' i) (omega arith) (λ k h i' r p q t. outside-test k h i' r p q t i b)

  pub at-load-share : (h : ℕ) → h < 64 → at (table s amount) (load_share_slot h) ≡ sum_over s (is_load_share h) amount
  at-load-share h b = at_table (load_share_slot h) (λ k h' i r. eqb k 3 && eqb h' h) (omega arith) (λ k h' i r p q t. load-share-test k h' i r p q t h b)

  pub at-existing : (h i : ℕ) → h < 32 → i < 64 → at (table s amount) (existing_slot h i) ≡ sum_over s (is_existing h i) amount
  at-existing h i b d = at_table (existing_slot h i) (λ k h' i' r. eqb k 4 && eqb h' h && eqb i' i) (omega arith) (λ k h' i' r p q t. existing-test k h' i' r p q t h i b d)

  pub at-pre-ra : (h i : ℕ) → h < 32 → i < 64 → at (table s amount) (pre_ra_slot h i) ≡ sum_over s (is_pre_ra h i) amount
  at-pre-ra h i b d = at_table (pre_ra_slot h i) (λ k h' i' r. eqb k 5 && eqb h' h && eqb i' i) (omega arith) (λ k h' i' r p q t. pre-ra-test k h' i' r p q t h i b d)

  pub at-new-use : (h r : ℕ) → h < 32 → r < 256 → at (table s amount) (new_use_slot h r) ≡ sum_over s (is_new_use h r) amount
  at-new-use h r b d = at_table (new_use_slot h r) (λ k h' i r'. eqb k 6 && eqb h' h && eqb r' r) (omega arith) (λ k h' i r' p q t. new-use-test k h' i r' p q t h r b d)

-- the table of kilowatts, and of interties, at each kind of slot
module _ (s : List ℕ) where
  pub limit-at : (i : ℕ) → i < 64 → at (kw_table s) (limit_slot i) ≡ limit s i
  unfolding limit
  limit-at = at-limit s (kw_at s)

  pub outside-at : (i : ℕ) → i < 64 → at (kw_table s) (outside_slot i) ≡ outside s i
  unfolding outside
  outside-at = at-outside s (kw_at s)

  pub load-share-at : (h : ℕ) → h < 64 → at (kw_table s) (load_share_slot h) ≡ load_share s h
  unfolding load_share
  load-share-at = at-load-share s (kw_at s)

  pub existing-at : (h i : ℕ) → h < 32 → i < 64 → at (kw_table s) (existing_slot h i) ≡ existing s h i
  unfolding existing
  existing-at = at-existing s (kw_at s)

  pub pre-ra-at : (h i : ℕ) → h < 32 → i < 64 → at (kw_table s) (pre_ra_slot h i) ≡ pre_ra s h i
  unfolding pre_ra
  pre-ra-at = at-pre-ra s (kw_at s)

  pub new-use-kw-at : (h r : ℕ) → h < 32 → r < 256 → at (kw_table s) (new_use_slot h r) ≡ new_use_kw s h r
  unfolding new_use_kw
  new-use-kw-at = at-new-use s (kw_at s)

  pub new-use-intertie-at : (h r : ℕ) → h < 32 → r < 256 → at (intertie_table s) (new_use_slot h r) ≡ new_use_intertie s h r
  unfolding new_use_intertie
  new-use-intertie-at = at-new-use s (λ k. intertie_of (key_at s k))
