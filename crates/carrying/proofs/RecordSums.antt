-- Sums over records: those that are kept of a sheet have its sums, and locks add nothing but New Use commitments.
use Rattle.std.proofs.Common.{ℕ, zero, suc, ◌+◌, ◌≤◌, ◌≡◌, refl, sym, ap, ◌∙◌, Bool, true, false, List, [], ◌∷◌, ◌++◌, arith, ltb, length}
use Rattle.base.specs.Choice.{pick}
use Rattle.base.specs.Sums.{sum_to}
use Rattle.base.proofs.SumLaws.{sum_to-zero, sum_to-suc, sum_to-more, sum_to-same}
use Rattle.sheet_records.specs.Sheet.{key_at, kw_at}
use Rattle.state.specs.Layout.{interties, locked_of}
use Rattle.carrying.specs.NextRecord.{NextRecord, record_in}
use Rattle.carrying.specs.NextRecords.{goes_on, next_record, kept, lock_record, with_locks_of, with_locks}
use Rattle.carrying.proofs.RecordLaws.{length_more, record_before, record-last, either_way}

-- the sum of an amount over the records that pass a test
unfoldable pub sum_in : (NextRecord → Bool) → (ℕ → ℕ) → List NextRecord → ℕ
sum_in test amount l = sum_to (length l) (λ j. pick (test (record_in l j)) (amount (record_in l j).kw) 0)

module _ (test : NextRecord → Bool) (amount : ℕ → ℕ) where
  abbrev part : NextRecord → ℕ
  part x = pick (test x) (amount x.kw) 0

  pub sum-none : sum_in test amount [] ≡ 0
  unfolding sum_in
  sum-none = sum_to-zero (λ j. part (record_in [] j))

  pub sum-one-more : (l : List NextRecord) (x : NextRecord) → sum_in test amount (l ++ (x ∷ [])) ≡ sum_in test amount l + part x
  unfolding sum_in
  sum-one-more l x =
      ap (λ (n : ℕ). sum_to n (λ j. part (record_in (l ++ (x ∷ [])) j))) (length_more l x)
      ∙ sum_to-more (length l) (λ j. part (record_in (l ++ (x ∷ [])) j))
      ∙ ap (λ (n : ℕ). n + part (record_in (l ++ (x ∷ [])) (length l)))
      (sum_to-same (length l) (λ j. part (record_in (l ++ (x ∷ [])) j)) (λ j. part (record_in l j)) (λ j b. ap part (record_before l x j b)))
      ∙ ap (λ (y : NextRecord). sum_to (length l) (λ j. part (record_in l j)) + part y) (record-last l x (length l) refl)

  -- what the old records say, by a test of their keys
  module _ (s : List ℕ) (old : ℕ → Bool) (goes : (key q : ℕ) → goes_on key ≡ true → test (next_record key q) ≡ old key) where
    abbrev old_part : ℕ → ℕ
    old_part k = pick (old (key_at s k)) (amount (kw_at s k)) 0

    same-part : (k : ℕ) → goes_on (key_at s k) ≡ true → part (next_record (key_at s k) (kw_at s k)) ≡ old_part k
    same-part k t = ap (λ (b : Bool). pick b (amount (kw_at s k)) 0) (goes (key_at s k) (kw_at s k) t)

    -- at most theirs
    pub kept-most : (k : ℕ) → sum_in test amount (kept s k) ≤ sum_to k old_part
    unfolding kept
    kept-most zero = omega (arith, sum-none)
    kept-most (suc k) =
        let before : sum_in test amount (kept s k) ≤ sum_to k old_part = kept-most k in
        let x : NextRecord = next_record (key_at s k) (kw_at s k) in
        either_way (λ (l : List NextRecord). sum_in test amount l ≤ sum_to (suc k) old_part) (goes_on (key_at s k)) (kept s k) x
        (λ t. omega (arith, sum-one-more (kept s k) x, same-part k t, sum_to-suc k old_part))
        (λ _. omega (arith, sum_to-suc k old_part))

    -- theirs, where none that passes is dropped
    pub kept_same : ((key : ℕ) → goes_on key ≡ false → old key ≡ false) → (k : ℕ) → sum_in test amount (kept s k) ≡ sum_to k old_part
    unfolding kept
    kept_same drops zero = sum-none ∙ sym (sum_to-zero old_part)
    kept_same drops (suc k) =
        let before : sum_in test amount (kept s k) ≡ sum_to k old_part = kept_same drops k in
        let x : NextRecord = next_record (key_at s k) (kw_at s k) in
        either_way (λ (l : List NextRecord). sum_in test amount l ≡ sum_to (suc k) old_part) (goes_on (key_at s k)) (kept s k) x
        (λ t. omega (arith, sum-one-more (kept s k) x, same-part k t, sum_to-suc k old_part))
        (λ f.
        let none : old_part k ≡ 0 = ap (λ (b : Bool). pick b (amount (kw_at s k)) 0) (drops (key_at s k) f) in
        omega (arith, sum_to-suc k old_part))

  -- locks add nothing where none passes the test
  module _ (s : List ℕ) (other : (h i : ℕ) (l : List NextRecord) → test (lock_record s h i l) ≡ false) where
    locks-of-add : (h n : ℕ) (l : List NextRecord) → sum_in test amount (with_locks_of s h n l) ≡ sum_in test amount l
    unfolding with_locks_of
    locks-of-add h zero l = refl
    locks-of-add h (suc i) l =
        let before : sum_in test amount (with_locks_of s h i l) ≡ sum_in test amount l = locks-of-add h i l in
        let x : NextRecord = lock_record s h i (with_locks_of s h i l) in
        let none : part x ≡ 0 = ap (λ (b : Bool). pick b (amount x.kw) 0) (other h i (with_locks_of s h i l)) in
        either_way (λ (m : List NextRecord). sum_in test amount m ≡ sum_in test amount l) (ltb 0 (locked_of s h i)) (with_locks_of s h i l) x
        (λ _. omega (arith, sum-one-more (with_locks_of s h i l) x))
        (λ _. before)

    pub locks-add : (n : ℕ) (l : List NextRecord) → sum_in test amount (with_locks s n l) ≡ sum_in test amount l
    unfolding with_locks
    locks-add zero l = refl
    locks-add (suc h) l = locks-of-add h (interties s) (with_locks s h l) ∙ locks-add h l
