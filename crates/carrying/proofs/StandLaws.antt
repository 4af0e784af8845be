-- Each record of next year's sheet keeps the rule of its kind.
use Rattle.std.proofs.Common.{ℕ, ◌+◌, ◌-◌, ◌≤◌, ◌<◌, ◌≡◌, refl, sym, ◌∙◌, Bool, true, false, ◌&&◌, List, arith, eqb, ltb, leb, le-leb, lt-ltb, ne_eqb, leb-true, leb-false, ltb-true}
use Rattle.base.specs.Choice.{pick}
use Rattle.base.proofs.ChoiceLaws.{and_both, both}
use Rattle.base.proofs.SumLaws.{sum_to-term}
use Rattle.sheet_keys.specs.Key.{kind_of, holder_of, intertie_of, rank_of, years_of}
use Rattle.sheet_records.specs.Sheet as Sheet
use Rattle.sheet_records.specs.Refusal.{within, repeatable, record_stands}
use Rattle.sheet_reading.proofs.SheetLaws.{Stands}
use Rattle.state.specs.Layout.{interties, holders, placed_of, locked_of, term_of}
use Rattle.state.proofs.OrderlyLaws.{Orderly}
use Rattle.carrying.specs.NextRecord.{NextRecord}
use Rattle.carrying.specs.NextRecords.{yearless, goes_on, next_record, highest, lock_record, next_records}
use Rattle.carrying.proofs.RecordLaws.{AllRecords, records-all}

-- the rule of a record's kind, over its fields
unfoldable pub fields_stand : ℕ → ℕ → ℕ → ℕ → ℕ → ℕ → ℕ → ℕ → Bool
fields_stand I H k h i r y q =
    pick (eqb k 1) (eqb h 0 && ltb i I && eqb r 0 && eqb y 0 && leb q 20_000_000)
    (pick (eqb k 2) (eqb h 0 && ltb i I && eqb r 0 && eqb y 0 && repeatable q)
    (pick (eqb k 3) (ltb h H && eqb i 0 && eqb r 0 && eqb y 0 && leb q 100_000_000)
    (pick (within 4 5 k) (ltb h H && ltb i I && eqb r 0 && within 1 30 y && repeatable q)
    (pick (eqb k 6) (ltb h H && ltb i I && leb 1 r && within 1 30 y && repeatable q)
    false))))

pub fields-rule : (I H key q : ℕ) → record_stands I H key q ≡ fields_stand I H (kind_of key) (holder_of key) (intertie_of key) (rank_of key) (years_of key) q
unfolding record_stands fields_stand
fields-rule I H key q = refl

abbrev pub keeps_rule : ℕ → ℕ → NextRecord → Bool
keeps_rule I H x = fields_stand I H x.kind x.holder x.intertie x.rank x.years x.kw

-- the fourth of five tests exchanged
fourth : (p w w' e : Bool) → (w ≡ true → w' ≡ true) → p && w && e ≡ true → p && w' && e ≡ true
fourth p w w' e f t =
    let q = (both (p && w) e).0 t in
    let r = (both p w).0 q.0 in
    and_both (p && w') e (and_both p w' r.0 (f r.1)) q.1

-- a year less of two or more
stands-less : (I H k h i r y q : ℕ) → 3 < k → 2 ≤ y → fields_stand I H k h i r y q ≡ true → fields_stand I H k h i r (y - 1) q ≡ true
unfolding fields_stand
stands-less I H k h i r y q late two t =
    rw (ne_eqb k 1 (omega arith), ne_eqb k 2 (omega arith), ne_eqb k 3 (omega arith))
    (go (within 4 5 k) (eqb k 6) (rw (ne_eqb k 1 (omega arith), ne_eqb k 2 (omega arith), ne_eqb k 3 (omega arith)) at t))
  where
    less : within 1 30 y ≡ true → within 1 30 (y - 1) ≡ true
    less t = rw (le-leb 1 (y - 1) (omega arith), le-leb (y - 1) 30 (omega (arith, leb-true y 30 ((both (leb 1 y) (leb y 30)).0 t).1))) refl

    stood : Bool → ℕ → Bool
    stood ranked y = ltb h H && ltb i I && ranked && within 1 30 y && repeatable q

    go : (b c : Bool) → pick b (stood (eqb r 0) y) (pick c (stood (leb 1 r) y) false) ≡ true → pick b (stood (eqb r 0) (y - 1)) (pick c (stood (leb 1 r) (y - 1)) false) ≡ true
    go true c e = fourth (ltb h H && ltb i I && eqb r 0) (within 1 30 y) (within 1 30 (y - 1)) (repeatable q) less e
    go false true e = fourth (ltb h H && ltb i I && leb 1 r) (within 1 30 y) (within 1 30 (y - 1)) (repeatable q) less e
    go false false e = e

-- a record that goes on stands as it is written
next-stands : (I H key q : ℕ) → goes_on key ≡ true → record_stands I H key q ≡ true → keeps_rule I H (next_record key q) ≡ true
next-stands I H key q on t = go (yearless key) refl on (sym (fields-rule I H key q) ∙ t)
  where
    stood : ℕ → Bool
    stood y = fields_stand I H (kind_of key) (holder_of key) (intertie_of key) (rank_of key) y q

    go : (b : Bool) → yearless key ≡ b → goes_on key ≡ true → stood (years_of key) ≡ true → stood (pick (yearless key) (years_of key) (years_of key - 1)) ≡ true
    go true e on t = rw e t
    go false e on t =
        let two : leb 2 (years_of key) ≡ true = rw e at on in
        rw e
        (stands-less I H (kind_of key) (holder_of key) (intertie_of key) (rank_of key) (years_of key) q
        (leb-false (kind_of key) 3 e) (leb-true 2 (years_of key) two) t)

-- a lock stands as a New Use commitment
module _ (s : List ℕ) (o : Orderly s) where
  locked-small : (h i : ℕ) → h < holders s → i < interties s → locked_of s h i ≤ 20_000_000
  locked-small h i a b =
      omega (arith, o.locked-most h i a b, sum_to-term (holders s) (λ h. placed_of s h i) h a, o.balance i b, o.limit-most i b)

  lock-stands : (h i : ℕ) (l : List NextRecord) → h < holders s → i < interties s → ltb 0 (locked_of s h i) ≡ true → keeps_rule (interties s) (holders s) (lock_record s h i l) ≡ true
  unfolding fields_stand
  lock-stands h i l a b t =
      let some = ltb-true 0 (locked_of s h i) t in
      let term = o.term-range h i a b some in
      rw (
        lt-ltb h (holders s) a,
        lt-ltb i (interties s) b,
        le-leb 1 (highest h l + 1) (omega arith),
        le-leb 1 (term_of s h i) term.0,
        le-leb (term_of s h i) 30 term.1,
        le-leb 1 (locked_of s h i) some,
        le-leb (locked_of s h i) 20_000_000 (locked-small h i a b),
      ) refl

  pub keep-rules : (sheet : List ℕ) → Stands sheet → Sheet.interties sheet ≡ interties s → Sheet.holders sheet ≡ holders s →
      AllRecords (λ x. keeps_rule (interties s) (holders s) x ≡ true) (next_records sheet s)
  keep-rules sheet old eI eH =
      records-all (λ x. keeps_rule (interties s) (holders s) x ≡ true) s lock-stands sheet
      (λ k b on. next-stands (interties s) (holders s) (Sheet.key_at sheet k) (Sheet.kw_at sheet k) on (rw (← eI, ← eH) (old.each-record k b)))
