-- Lists of records with one record more, and the records that are kept of a sheet.
use Rattle.std.proofs.Common.{ℕ, zero, suc, ◌+◌, ◌≤◌, ◌<◌, max, ◌≡◌, refl, sym, ap, ◌∙◌, Bool, true, false, ◌&&◌, ◌≢◌, ⊎_elim, List, [], ◌∷◌, ◌++◌, append-nil, add-zero, le_refl, lt-suc_self, not-suc-le-zero, add-one, arith, eqb, ltb, length, length-append, get_or-append-add, ne_eqb}
use native.Mathlib.Nat.{max-zero, zero-max, le_step}
use lib.ListN.{get_or-append}
use Rattle.base.specs.Choice.{pick}
use Rattle.base.proofs.ChoiceLaws.{pick-by, and-false}
use Rattle.base.proofs.SumLaws.{below_suc}
use Rattle.sheet_keys.specs.Key.{kind_of, holder_of, rank_of}
use Rattle.sheet_keys.proofs.KeyLaws.{same_key}
use Rattle.sheet_records.specs.Sheet.{count, key_at, kw_at}
use Rattle.state.specs.Layout.{interties, holders, locked_of}
use Rattle.carrying.specs.NextRecord.{NextRecord, key_of, record_in}
use Rattle.carrying.specs.NextRecords.{yearless, goes_on, next_record, kept_of, kept, rank_for, highest, lock_record, with_locks_of, with_locks, next_records}

abbrev pub no_record : NextRecord
no_record = record { kind = 0; holder = 0; intertie = 0; rank = 0; years = 0; kw = 0 }

-- one record more
pub length_more : (l : List NextRecord) (x : NextRecord) → length (l ++ (x ∷ [])) ≡ length l + 1
length_more l x = length-append l (x ∷ [])

pub record_before : (l : List NextRecord) (x : NextRecord) (j : ℕ) → j < length l → record_in (l ++ (x ∷ [])) j ≡ record_in l j
record_before l x j b = get_or-append l (x ∷ []) no_record j b

pub record-last : (l : List NextRecord) (x : NextRecord) (j : ℕ) → j ≡ length l → record_in (l ++ (x ∷ [])) j ≡ x
record-last l x j e =
    ap (record_in (l ++ (x ∷ []))) (e ∙ sym (add-zero (length l))) ∙ get_or-append-add l (x ∷ []) 0 no_record

pub highest-more : (h : ℕ) (l : List NextRecord) (x : NextRecord) → highest h (l ++ (x ∷ [])) ≡ max (highest h l) (rank_for h x)
unfolding highest
highest-more h [] x = max-zero (rank_for h x) ∙ sym (zero-max (rank_for h x))
highest-more h (y ∷ l) x =
    let e : highest h (l ++ (x ∷ [])) ≡ max (highest h l) (rank_for h x) = highest-more h l x in
    rw e (omega arith)

pub highest-none : (h : ℕ) → highest h [] ≡ 0
unfolding highest
highest-none h = refl

-- a record of another holder has no rank among this one's
pub rank-other : (h : ℕ) (x : NextRecord) → x.holder ≢ h → rank_for h x ≡ 0
rank-other h x ne = rw (and-false (eqb x.kind 6) (eqb x.holder h) (ne_eqb x.holder h ne)) refl

-- what holds of a list and of the record that follows holds with the record or without
pub either_way : (P : List NextRecord → Type 0) (b : Bool) (l : List NextRecord) (x : NextRecord) → (b ≡ true → P (l ++ (x ∷ []))) → (b ≡ false → P l) → P (l ++ pick b (x ∷ []) [])
either_way P true l x t f = t refl
either_way P false l x t f = rw (append-nil l) (f refl)

-- the kept records
pub kept_more : (s : List ℕ) (k : ℕ) → kept s (k + 1) ≡ kept s k ++ kept_of (key_at s k) (kw_at s k)
unfolding kept
kept_more s k = rw (add-one k) refl

pub kept-few : (s : List ℕ) (k : ℕ) → length (kept s k) ≤ k
unfolding kept
kept-few s zero = omega arith
kept-few s (suc k) =
    let before : length (kept s k) ≤ k = kept-few s k in
    let x : NextRecord = next_record (key_at s k) (kw_at s k) in
    either_way (λ (l : List NextRecord). length l ≤ suc k) (goes_on (key_at s k)) (kept s k) x
    (λ _. omega (arith, length_more (kept s k) x))
    (λ _. omega arith)

-- an old record has a rank of at most 255, or none
rank-small : (h : ℕ) (key quantity : ℕ) → rank_for h (next_record key quantity) ≤ 255
rank-small h key quantity =
    pick-by (λ (n : ℕ). n ≤ 255) (eqb (kind_of key) 6 && eqb (holder_of key) h) (rank_of key) 0 (λ _. omega arith) (λ _. omega arith)

-- a holder's highest rank among the kept records is at most 255
pub kept_low : (s : List ℕ) (k h : ℕ) → highest h (kept s k) ≤ 255
unfolding kept
kept_low s zero h = omega (arith, highest-none h)
kept_low s (suc k) h =
    let before : highest h (kept s k) ≤ 255 = kept_low s k h in
    let x : NextRecord = next_record (key_at s k) (kw_at s k) in
    either_way (λ (l : List NextRecord). highest h l ≤ 255) (goes_on (key_at s k)) (kept s k) x
    (λ _. rw (highest-more h (kept s k) x) (omega (arith, rank-small h (key_at s k) (kw_at s k))))
    (λ _. before)

-- kinds 1, 2 and 3 are written as they were
pub yearless-same : (key q : ℕ) → yearless key ≡ true → key_of (next_record key q) ≡ key
yearless-same key q t = rw t (same_key key)

-- what holds of each record
abbrev pub AllRecords : (NextRecord → Type 0) → List NextRecord → Type 0
AllRecords P l = (j : ℕ) → j < length l → P (record_in l j)

module _ (P : NextRecord → Type 0) where
  all_none : AllRecords P []
  all_none j b = absurd (not-suc-le-zero b)

  all_more : (l : List NextRecord) (x : NextRecord) → AllRecords P l → P x → AllRecords P (l ++ (x ∷ []))
  all_more l x a p j b =
      let c : j < suc (length l) = omega (arith, length_more l x) in
      ⊎_elim
      (λ (e : j ≡ length l). rw (record-last l x j e) p)
      (λ (m : j < length l). rw (record_before l x j m) (a j m))
      (below_suc c)

  -- of the records that are kept, if of each record that goes on
  pub kept-all : (s : List ℕ) (n : ℕ) → ((k : ℕ) → k < n → goes_on (key_at s k) ≡ true → P (next_record (key_at s k) (kw_at s k))) → AllRecords P (kept s n)
  unfolding kept
  kept-all s zero each = all_none
  kept-all s (suc n) each =
      let before : AllRecords P (kept s n) = kept-all s n (λ k b. each k (le_step b)) in
      let x : NextRecord = next_record (key_at s n) (kw_at s n) in
      either_way (AllRecords P) (goes_on (key_at s n)) (kept s n) x
      (λ t. all_more (kept s n) x before (each n (lt-suc_self n) t))
      (λ _. before)

  -- and of the locks, if of each
  module _ (s : List ℕ) (each : (h i : ℕ) (l : List NextRecord) → h < holders s → i < interties s → ltb 0 (locked_of s h i) ≡ true → P (lock_record s h i l)) where
    locks-of-all : (h n : ℕ) (l : List NextRecord) → h < holders s → n ≤ interties s → AllRecords P l → AllRecords P (with_locks_of s h n l)
    unfolding with_locks_of
    locks-of-all h zero l a b f = f
    locks-of-all h (suc i) l a b f =
        let before : AllRecords P (with_locks_of s h i l) = locks-of-all h i l a (omega arith) f in
        let x : NextRecord = lock_record s h i (with_locks_of s h i l) in
        either_way (AllRecords P) (ltb 0 (locked_of s h i)) (with_locks_of s h i l) x
        (λ t. all_more (with_locks_of s h i l) x before (each h i (with_locks_of s h i l) a b t))
        (λ _. before)

    locks-all : (n : ℕ) (l : List NextRecord) → n ≤ holders s → AllRecords P l → AllRecords P (with_locks s n l)
    unfolding with_locks
    locks-all zero l b f = f
    locks-all (suc h) l b f = locks-of-all h (interties s) (with_locks s h l) b (le_refl (interties s)) (locks-all h l (omega arith) f)

    pub records-all : (sheet : List ℕ) →
        ((k : ℕ) → k < count sheet → goes_on (key_at sheet k) ≡ true → P (next_record (key_at sheet k) (kw_at sheet k))) → AllRecords P (next_records sheet s)
    unfolding next_records
    records-all sheet old = locks-all (holders s) (kept sheet (count sheet)) (le_refl (holders s)) (kept-all sheet (count sheet) old)
