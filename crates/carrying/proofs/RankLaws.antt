-- No rank stands twice for a holder among the records of next year's sheet.
use Rattle.std.proofs.Common.{ℕ, zero, suc, ◌+◌, ◌≤◌, ◌<◌, ◌≡◌, refl, ap, Bool, true, false, ◌&&◌, List, [], ◌∷◌, ◌++◌, arith, eqb, ltb, length}
use Rattle.base.specs.Choice.{pick}
use Rattle.base.proofs.SumLaws.{sum_to-zeros}
use Rattle.sheet_records.specs.Sheet.{count, how_many, sum_over, is_new_use}
use Rattle.base.proofs.ChoiceLaws.{equal-three}
use Rattle.state.specs.Layout.{interties, holders, locked_of}
use Rattle.carrying.specs.NextRecord.{NextRecord, record_in}
use Rattle.carrying.specs.NextRecords.{kept, highest, lock_record, with_locks_of, with_locks, next_records}
use Rattle.carrying.proofs.RecordLaws.{either_way}
use Rattle.carrying.proofs.FitLaws.{below-highest}
use Rattle.carrying.proofs.RecordSums.{sum_in, sum-one-more, kept-most}

-- whether a record is holder h's New Use commitment with rank r
abbrev pub ranked : ℕ → ℕ → NextRecord → Bool
ranked h r x = eqb x.kind 6 && eqb x.holder h && eqb x.rank r

abbrev one : ℕ → ℕ
one q = 1

-- how many there are
abbrev pub times_ranked : ℕ → ℕ → List NextRecord → ℕ
times_ranked h r l = sum_in (ranked h r) one l

-- none above the highest
none_above : (h r : ℕ) (l : List NextRecord) → highest h l < r → times_ranked h r l ≡ 0
unfolding sum_in
none_above h r l above =
    sum_to-zeros (length l) (λ j. pick (ranked h r (record_in l j)) 1 0)
    (λ j b. go j b (ranked h r (record_in l j)) refl)
  where
    go : (j : ℕ) → j < length l → (t : Bool) → ranked h r (record_in l j) ≡ t → pick {A = ℕ} t 1 0 ≡ 0
    go j b true e =
        let x : NextRecord = record_in l j in
        let p = (equal-three x.kind 6 x.holder h x.rank r).0 e in
        let low : x.rank ≤ highest x.holder l = below-highest l j b p.0 in
        let same : highest x.holder l ≡ highest h l = ap (λ (k : ℕ). highest k l) p.1 in
        absurd (omega (arith, p.2))
    go j b false e = refl

-- each rank at most once, for the holders below H
abbrev Once : ℕ → List NextRecord → Type 0
Once H l = (h r : ℕ) → h < H → r < 256 → times_ranked h r l ≤ 1

module _ (s : List ℕ) where
  lock-once : (h i : ℕ) (l : List NextRecord) → Once (holders s) l → Once (holders s) (l ++ (lock_record s h i l ∷ []))
  lock-once h i l before h' r b low = rw (sum-one-more (ranked h' r) one l (lock_record s h i l)) (go (ranked h' r (lock_record s h i l)) refl)
    where
      go : (t : Bool) → ranked h' r (lock_record s h i l) ≡ t → times_ranked h' r l + pick {A = ℕ} t 1 0 ≤ 1
      go true e =
          let p = (equal-three 6 6 h h' (highest h l + 1) r).0 e in
          let same : highest h l ≡ highest h' l = ap (λ (k : ℕ). highest k l) p.1 in
          let none : times_ranked h' r l ≡ 0 = none_above h' r l (omega (arith, p.2)) in
          omega arith
      go false e = omega (arith, before h' r b low)

  locks-of-once : (h n : ℕ) (l : List NextRecord) → Once (holders s) l → Once (holders s) (with_locks_of s h n l)
  unfolding with_locks_of
  locks-of-once h zero l f = f
  locks-of-once h (suc i) l f =
      let before : Once (holders s) (with_locks_of s h i l) = locks-of-once h i l f in
      either_way (Once (holders s)) (ltb 0 (locked_of s h i)) (with_locks_of s h i l) (lock_record s h i (with_locks_of s h i l))
      (λ _. lock-once h i (with_locks_of s h i l) before)
      (λ _. before)

  locks-once : (n : ℕ) (l : List NextRecord) → Once (holders s) l → Once (holders s) (with_locks s n l)
  unfolding with_locks
  locks-once zero l f = f
  locks-once (suc h) l f = locks-of-once h (interties s) (with_locks s h l) (locks-once h l f)

  -- where no rank stands twice on the old sheet
  pub records-once : (sheet : List ℕ) → ((h r : ℕ) → h < holders s → r < 256 → how_many sheet (is_new_use h r) ≤ 1) →
      (h r : ℕ) → h < holders s → r < 256 → times_ranked h r (next_records sheet s) ≤ 1
  unfolding next_records sum_over
  records-once sheet old =
      locks-once (holders s) (kept sheet (count sheet))
      (λ h r b low.
      let most : times_ranked h r (kept sheet (count sheet)) ≤ how_many sheet (is_new_use h r) =
      kept-most (ranked h r) one sheet (is_new_use h r) (λ key q _. refl) (count sheet) in
      omega (arith, old h r b low))
