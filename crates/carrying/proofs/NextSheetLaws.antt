-- What carry writes is a sheet that is not refused, and the records read from it are those that next year is to have.
use Rattle.std.proofs.Common.{ℕ, ◌+◌, ◌*◌, ◌≤◌, ◌<◌, ◌≡◌, refl, ap, ◌∙◌, Bool, true, false, ◌&&◌, ◌||◌, List, ◌++◌, arith, eqb, leb, length, drop, eqb-true, leb-true, leb-false, le-leb, le-ltb, eq-eqb, ne_eqb}
use borrow.Author.Tests.{not-false}
use Rattle.base.specs.Sums.{all_to}
use Rattle.base.specs.Words.{at}
use Rattle.base.proofs.ChoiceLaws.{or_left, or_right, equal-two, four, all-four}
use Rattle.base.proofs.SumLaws.{sum_to-le, all_to-each, all_to-all, each-pair, all-pairs, all-le}
use Rattle.sheet_keys.specs.Key.{kind_of, holder_of, intertie_of, rank_of, years_of, key_from}
use Rattle.sheet_records.specs.Sheet as Sheet
use Rattle.sheet_records.specs.Sheet.{size_of, count, key_at, kw_at, sum_over, how_many, is_limit, is_load_share, is_new_use, limit, outside, existing, existing_on}
use Rattle.sheet_records.specs.Refusal.{bad_length, bad_sizes, record_stands, records_stand, one_limit_each, one_load_share_each, no_rank_twice, rules_hold, limits_hold, sheet_refusal}
use Rattle.sheet_reading.proofs.SheetLaws as SheetLaws
use Rattle.sheet_reading.proofs.SheetLaws.{Stands, standing}
use Rattle.state.specs.Layout.{interties, holders}
use Rattle.state.proofs.OrderlyLaws.{Orderly}
use Rattle.call.proofs.LadderLaws.{none_first, none-second, not-whenever}
use Rattle.carrying.specs.NextRecord.{NextRecord, key_of, record_in}
use Rattle.carrying.specs.NextRecords.{kept, highest, next_records}
use Rattle.carrying.specs.NewSheet.{new_sheet}
use Rattle.carrying.specs.Carry.{early_refusal, sizes_differ, does_not_fit, carry_refusal, carried}
use Rattle.carrying.proofs.FitLaws.{records_fit, rank-fits, fitting}
use Rattle.carrying.proofs.RecordSums.{sum_in, kept_same, kept-most, locks-add}
use Rattle.carrying.proofs.StandLaws.{fields_stand, fields-rule, keep-rules}
use Rattle.carrying.proofs.RankLaws.{records-once}
use Rattle.carrying.proofs.NewSheetLaws.{new-length, new-interties, new-holders, new-count, new-key, new-kw, new-sum}
use Rattle.carrying.proofs.CarryLaws.{sheet-stands, state-stands}

-- a key of fields within their widths is taken apart again
record Again (key k h i r y : ℕ) : Type 0 where
  kind-is : kind_of key ≡ k
  holder-is : holder_of key ≡ h
  intertie-is : intertie_of key ≡ i
  rank_is : rank_of key ≡ r
  years-is : years_of key ≡ y
  small : key ≤ 4_294_967_295

again : (k h i r y : ℕ) → k < 16 → h < 64 → i < 64 → r < 256 → y < 256 → Again (key_from k h i r y) k h i r y
again k h i r y bk bh bi br by =
    record {
      kind-is = omega arith;
      holder-is = omega arith;
      intertie-is = omega arith;
      rank_is = omega arith;
      years-is = omega arith;
      small = omega arith;
    }

fields-by : (I H key q k h i r y : ℕ) → Again key k h i r y → fields_stand I H k h i r y q ≡ true → record_stands I H key q ≡ true
fields-by I H key q k h i r y a t = fields-rule I H key q ∙ rw (a.kind-is, a.holder-is, a.intertie-is, a.rank_is, a.years-is) t

test_by : (F : ℕ → ℕ → ℕ → ℕ → Bool) (key k h i r y : ℕ) → Again key k h i r y → F (kind_of key) (holder_of key) (intertie_of key) (rank_of key) ≡ F k h i r
test_by F key k h i r y a = rw (a.kind-is, a.holder-is, a.intertie-is, a.rank_is) refl

-- the rules of a sheet that stands
record Rules (s : List ℕ) : Type 0 where
  one-limit : (i : ℕ) → i < Sheet.interties s → how_many s (is_limit i) ≡ 1
  one-load-share : (h : ℕ) → h < Sheet.holders s → how_many s (is_load_share h) ≤ 1
  one_rank : (h r : ℕ) → h < Sheet.holders s → r < 256 → how_many s (is_new_use h r) ≤ 1

rules : (s : List ℕ) → sheet_refusal s ≡ 0 → Rules s
unfolding rules_hold one_limit_each one_load_share_each no_rank_twice
rules s e =
    let all = four (records_stand s) (one_limit_each s) (one_load_share_each s) (no_rank_twice s) (SheetLaws.conditions s e).2 in
    record {
      one-limit = λ i b. eqb-true (how_many s (is_limit i)) 1 (all_to-each (Sheet.interties s) (λ i. eqb (how_many s (is_limit i)) 1) all.1 i b);
      one-load-share = λ h b. leb-true (how_many s (is_load_share h)) 1 (all_to-each (Sheet.holders s) (λ h. leb (how_many s (is_load_share h)) 1) all.2 h b);
      one_rank = λ h r b c.
          leb-true (how_many s (is_new_use h r)) 1 (each-pair (Sheet.holders s) 256 (λ h r. leb (how_many s (is_new_use h r)) 1) all.3 h r b c);
    }

module _ (sheet state output : List ℕ) (bytes : (i : ℕ) → at sheet i < 256) (e : carry_refusal sheet state output ≡ 0) where
  abbrev records : List NextRecord
  records = next_records sheet state

  abbrev I : ℕ
  I = interties state

  abbrev H : ℕ
  H = holders state

  -- the sheet that is written
  abbrev new : List ℕ
  new = new_sheet I H records

  early : early_refusal sheet state ≡ 0
  unfolding carry_refusal
  early = none_first (early_refusal sheet state) _ e

  passes : sizes_differ sheet state || does_not_fit H records (length output) ≡ false
  unfolding carry_refusal
  passes = not-whenever (sizes_differ sheet state || does_not_fit H records (length output)) 14 (omega arith) (none-second (early_refusal sheet state) _ e)

  same-sizes : (Sheet.interties sheet ≡ I) × (Sheet.holders sheet ≡ H)
  unfolding sizes_differ
  same-sizes =
      (equal-two (Sheet.interties sheet) I (Sheet.holders sheet) H).0
      (not-false (eqb (Sheet.interties sheet) I && eqb (Sheet.holders sheet) H) (or_left (sizes_differ sheet state) (does_not_fit H records (length output)) passes))

  fits : (length records ≤ 1024) × (all_to H (λ h. leb (highest h records) 255) ≡ true) × (size_of (length records) ≤ length output)
  fits = fitting H records (length output) (or_right (sizes_differ sheet state) (does_not_fit H records (length output)) passes)

  order : Orderly state
  order = state-stands sheet state early

  old : Stands sheet
  old = standing sheet (sheet-stands sheet state early)

  old-rules : Rules sheet
  old-rules = rules sheet (sheet-stands sheet state early)

  -- each record's fields, taken out of its key
  record-again : (j : ℕ) → j < length records →
      let x : NextRecord = record_in records j in
      Again (key_of x) x.kind x.holder x.intertie x.rank x.years
  record-again j b =
      let x : NextRecord = record_in records j in
      let fit = records_fit state order sheet bytes in
      let f = fit j b in
      again x.kind x.holder x.intertie x.rank x.years
      f.kind-low f.holder-low f.intertie-low (rank-fits H records fit fits.1 j b) f.years-low

  -- each record keeps the rule of its kind, by its key
  keeps-rule : (j : ℕ) → j < length records → record_stands I H (key_of (record_in records j)) (record_in records j).kw ≡ true
  keeps-rule j b =
      let x : NextRecord = record_in records j in
      fields-by I H (key_of x) x.kw x.kind x.holder x.intertie x.rank x.years (record-again j b)
      (keep-rules state order sheet old same-sizes.0 same-sizes.1 j b)

  record_small : (j : ℕ) → j < length records → (key_of (record_in records j) ≤ 4_294_967_295) × ((record_in records j).kw ≤ 4_294_967_295)
  record_small j b =
      let x : NextRecord = record_in records j in
      let k = SheetLaws.kept I H (key_of x) x.kw (keeps-rule j b) in
      ((record-again j b).small, omega (arith, k.modest))

  -- what reading the sheet gives
  pub next-interties : Sheet.interties new ≡ I
  next-interties = new-interties I H records order.interties-most

  pub next-holders : Sheet.holders new ≡ H
  next-holders = new-holders I H records order.holders-most

  pub next-count : count new ≡ length records
  next-count = new-count I H records fits.0

  pub next-key : (k : ℕ) → k < length records → key_at new k ≡ key_of (record_in records k)
  next-key = new-key I H records fits.0 record_small

  pub next-kw : (k : ℕ) → k < length records → kw_at new k ≡ (record_in records k).kw
  next-kw = new-kw I H records fits.0 record_small

  -- a sum over the new sheet's records by a test of the fields, and over the old sheet's
  module _ (F : ℕ → ℕ → ℕ → ℕ → Bool) (amount : ℕ → ℕ) where
    abbrev of_key : ℕ → Bool
    of_key key = F (kind_of key) (holder_of key) (intertie_of key) (rank_of key)

    abbrev of_record : NextRecord → Bool
    of_record x = F x.kind x.holder x.intertie x.rank

    by_records : sum_over new of_key (λ k. amount (kw_at new k)) ≡ sum_in of_record amount records
    by_records =
        new-sum I H records fits.0 record_small of_key of_record amount
        (λ j b.
        let x : NextRecord = record_in records j in
        test_by F (key_of x) x.kind x.holder x.intertie x.rank x.years (record-again j b))

    -- of a kind other than 6
    module _ (no-lock : (h i r : ℕ) → F 6 h i r ≡ false) where
      kept-records : sum_in of_record amount records ≡ sum_in of_record amount (kept sheet (count sheet))
      unfolding next_records
      kept-records = locks-add of_record amount state (λ h i l. no-lock h i (highest h l + 1)) H (kept sheet (count sheet))

      sum-most : sum_over new of_key (λ k. amount (kw_at new k)) ≤ sum_over sheet of_key (λ k. amount (kw_at sheet k))
      unfolding sum_over
      sum-most = rw (by_records ∙ kept-records) (kept-most of_record amount sheet of_key (λ key q _. refl) (count sheet))

      sum_same : ((key : ℕ) → 3 < kind_of key → of_key key ≡ false) → sum_over new of_key (λ k. amount (kw_at new k)) ≡ sum_over sheet of_key (λ k. amount (kw_at sheet k))
      unfolding sum_over
      sum_same drops =
          by_records ∙ kept-records
          ∙ kept_same of_record amount sheet of_key (λ key q _. refl)
          (λ key f. drops key (leb-false (kind_of key) 3 (or_left (leb (kind_of key) 3) (leb 2 (years_of key)) f))) (count sheet)

  -- of kinds 1, 2 and 3
  of-kind : (n : ℕ) (G : ℕ → ℕ → ℕ → Bool) (amount : ℕ → ℕ) → n ≤ 3 →
      sum_over new (λ key. eqb (kind_of key) n && G (holder_of key) (intertie_of key) (rank_of key)) (λ k. amount (kw_at new k))
      ≡ sum_over sheet (λ key. eqb (kind_of key) n && G (holder_of key) (intertie_of key) (rank_of key)) (λ k. amount (kw_at sheet k))
  of-kind n G amount low =
      sum_same (λ k h i r. eqb k n && G h i r) amount
      (λ h i r. rw (ne_eqb 6 n (omega arith)) refl)
      (λ key late. rw (ne_eqb (kind_of key) n (omega arith)) refl)

  limit-same : (i : ℕ) → limit new i ≡ limit sheet i
  unfolding limit
  limit-same i = of-kind 1 (λ h i' r. eqb i' i) (λ q. q) (omega arith)

  outside-same : (i : ℕ) → outside new i ≡ outside sheet i
  unfolding outside
  outside-same i = of-kind 2 (λ h i' r. eqb i' i) (λ q. q) (omega arith)

  existing-most : (h i : ℕ) → existing new h i ≤ existing sheet h i
  unfolding existing
  existing-most h i = sum-most (λ k h' i' r. eqb k 4 && eqb h' h && eqb i' i) (λ q. q) (λ h i r. refl)

  existing-on-most : (i : ℕ) → existing_on new i ≤ existing_on sheet i
  unfolding existing_on
  existing-on-most i =
      rw (next-holders, same-sizes.1) (sum_to-le H (λ h. existing new h i) (λ h. existing sheet h i) (λ h _. existing-most h i))

  rank-once : (h r : ℕ) → h < H → r < 256 → how_many new (is_new_use h r) ≤ 1
  rank-once h r b c =
      rw (by_records (λ k h' i r'. eqb k 6 && eqb h' h && eqb r' r) (λ q. 1))
      (records-once state sheet (λ h r b c. old-rules.one_rank h r (rw same-sizes.1 b) c) h r b c)

  -- refusal 1
  new-length-good : bad_length new ≡ false
  unfolding bad_length
  new-length-good =
      let few = fits.0 in
      rw (
        new-length I H records,
        next-count,
        le-ltb (size_of (length records)) 12 (omega arith),
        le-ltb 1024 (length records) few,
        eq-eqb (size_of (length records)) (12 + 8 * length records) refl,
      ) refl

  -- refusal 2
  new-sizes-good : bad_sizes new ≡ false
  unfolding bad_sizes
  new-sizes-good =
      rw (
        next-interties,
        next-holders,
        le-leb 1 I order.interties-least,
        le-leb I 48 order.interties-most,
        le-leb 1 H order.holders-least,
        le-leb H 32 order.holders-most,
      ) refl

  -- refusal 3
  new-rules-hold : rules_hold new ≡ true
  unfolding rules_hold records_stand one_limit_each one_load_share_each no_rank_twice
  new-rules-hold =
      all-four (records_stand new) (one_limit_each new) (one_load_share_each new) (no_rank_twice new)
      (all_to-all (count new) (λ k. record_stands (Sheet.interties new) (Sheet.holders new) (key_at new k) (kw_at new k))
      (λ k b.
      let c : k < length records = rw (← next-count) b in
      rw (next-interties, next-holders, next-key k c, next-kw k c) (keeps-rule k c)))
      (all_to-all (Sheet.interties new) (λ i. eqb (how_many new (is_limit i)) 1)
      (λ i b.
      eq-eqb (how_many new (is_limit i)) 1
      (of-kind 1 (λ h i' r. eqb i' i) (λ q. 1) (omega arith) ∙ old-rules.one-limit i (rw (same-sizes.0, ← next-interties) b))))
      (all_to-all (Sheet.holders new) (λ h. leb (how_many new (is_load_share h)) 1)
      (λ h b.
      le-leb (how_many new (is_load_share h)) 1
      (rw (of-kind 3 (λ h' i r. eqb h' h) (λ q. 1) (omega arith)) (old-rules.one-load-share h (rw (same-sizes.1, ← next-holders) b)))))
      (all-pairs (Sheet.holders new) 256 (λ h r. leb (how_many new (is_new_use h r)) 1)
      (λ h r b c. le-leb (how_many new (is_new_use h r)) 1 (rank-once h r (rw (← next-holders) b) c)))

  -- refusal 4
  new-limits-hold : limits_hold new ≡ true
  unfolding limits_hold
  new-limits-hold =
      all-le (Sheet.interties new) (λ i. outside new i + existing_on new i) (limit new)
      (λ i b. omega (arith, limit-same i, outside-same i, existing-on-most i, old.within-limit i (rw (same-sizes.0, ← next-interties) b)))

  -- nothing refuses the sheet that is written
  pub next-sheet-stands : sheet_refusal new ≡ 0
  unfolding sheet_refusal
  next-sheet-stands = rw (new-length-good, new-sizes-good, new-rules-hold, new-limits-hold) refl

  -- it is what stands in the first bytes of the output, and the later bytes are as they were
  pub carried-sheet : (carried sheet state output).output ≡ new ++ drop (size_of (length records)) output
  unfolding carried
  carried-sheet = rw e (ap (λ (k : ℕ). new ++ drop k output) (new-length I H records))
