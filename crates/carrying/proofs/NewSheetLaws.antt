-- Reading a new sheet gives its sizes, its number of records, and each record's key and quantity.
use Rattle.std.proofs.Common.{ℕ, ◌≤◌, ◌<◌, ◌≡◌, sym, ap, ◌∙◌, Bool, List, map, arith, length}
use lib.ListN.{length-map, get_or-map}
use Rattle.base.specs.Choice.{pick}
use Rattle.base.specs.Sums.{sum_to}
use Rattle.base.proofs.SumLaws.{sum_to-same}
use Rattle.sheet_records.specs.Sheet.{most_word, size_of, interties, holders, count, key_at, kw_at, sum_over}
use Rattle.sheet_records.proofs.BytesLaws.{sheet-length, sheet-interties, sheet-holders, sheet-count, sheet-key, sheet-kw}
use Rattle.carrying.specs.NextRecord.{NextRecord, key_of, quantity_of, record_in}
use Rattle.carrying.specs.NewSheet.{new_sheet}
use Rattle.carrying.proofs.RecordLaws.{no_record}
use Rattle.carrying.proofs.RecordSums.{sum_in}

module _ (I H : ℕ) (l : List NextRecord) where
  abbrev s : List ℕ
  s = new_sheet I H l

  abbrev keys : List ℕ
  keys = map key_of l

  abbrev kws : List ℕ
  kws = map quantity_of l

  size : length keys ≡ length l
  size = length-map l key_of

  even : length kws ≡ length keys
  even = length-map l quantity_of ∙ sym size

  pub new-length : length s ≡ size_of (length l)
  unfolding new_sheet
  new-length = sheet-length I H keys kws even ∙ ap size_of size

  pub new-interties : I ≤ 48 → interties s ≡ I
  unfolding new_sheet
  new-interties few = sheet-interties I H keys kws even (omega arith)

  pub new-holders : H ≤ 32 → holders s ≡ H
  unfolding new_sheet
  new-holders few = sheet-holders I H keys kws even (omega arith)

  pub new-count : length l ≤ 1024 → count s ≡ length l
  unfolding new_sheet
  new-count few = sheet-count I H keys kws even (rw size few) ∙ size

  -- where keys and quantities fit 32 bits
  module _ (few : length l ≤ 1024) (low : (k : ℕ) → k < length l → (key_of (record_in l k) ≤ most_word) × ((record_in l k).kw ≤ most_word)) where
    pub new-key : (k : ℕ) → k < length l → key_at s k ≡ key_of (record_in l k)
    unfolding new_sheet
    new-key k b =
        let there = get_or-map key_of l k no_record in
        sheet-key I H keys kws even k (rw size b) (rw there (low k b).0) ∙ there

    pub new-kw : (k : ℕ) → k < length l → kw_at s k ≡ (record_in l k).kw
    unfolding new_sheet
    new-kw k b =
        let there = get_or-map quantity_of l k no_record in
        sheet-kw I H keys kws even (rw size few) k (rw size b) (rw there (low k b).1) ∙ there

    -- a sum over the records that are read is one over those that were written
    pub new-sum : (test : ℕ → Bool) (own : NextRecord → Bool) (amount : ℕ → ℕ) → ((k : ℕ) → k < length l → test (key_of (record_in l k)) ≡ own (record_in l k)) →
        sum_over s test (λ k. amount (kw_at s k)) ≡ sum_in own amount l
    unfolding sum_over sum_in
    new-sum test own amount same =
        ap (λ (n : ℕ). sum_to n (λ k. pick (test (key_at s k)) (amount (kw_at s k)) 0)) (new-count few)
        ∙ sum_to-same (length l) (λ k. pick (test (key_at s k)) (amount (kw_at s k)) 0) (λ k. pick (own (record_in l k)) (amount (record_in l k).kw) 0)
        (λ k b.
        ap (λ (x : ℕ). pick (test x) (amount (kw_at s k)) 0) (new-key k b)
        ∙ ap (λ (t : Bool). pick t (amount (kw_at s k)) 0) (same k b)
        ∙ ap (λ (q : ℕ). pick (own (record_in l k)) (amount q) 0) (new-kw k b))
