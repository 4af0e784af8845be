-- The call by cases: refused by 1 to 7, refused by 14, or carried.
use Rattle.std.proofs.Common.{ℕ, ◌≤◌, ◌<◌, arith, ◌≡◌, refl, sym, ap, ◌∙◌, Bool, true, false, ◌&&◌, ◌||◌, not, ◌≢◌, List, eqb, ltb, length, ne_eqb, le-ltb}
use Rattle.base.specs.Choice.{pick}
use Rattle.base.specs.Words.{at}
use Rattle.base.specs.Answers.{refused, granted}
use Rattle.base.specs.declared.refusals.Refusal.{Refusal}
use Rattle.base.specs.Refused.{number_of}
use Rattle.base.proofs.RefusedLaws.{numbered}
use Rattle.sheet_records.specs.Sheet as Sheet
use Rattle.sheet_records.specs.Sheet.{size_of}
use Rattle.sheet_records.specs.Bytes.{sheet_bytes, with_sheet}
use Rattle.sheet_records.specs.Refusal.{bad_length, sheet_refusal}
use Rattle.sheet_reading.proofs.SheetLaws.{conditions, standing, first-words}
use Rattle.state.specs.Layout as Layout
use Rattle.state.specs.Orderly.{state_refusal}
use Rattle.state.proofs.OrderlyLaws.{Orderly, refusal-none}
use Rattle.call.proofs.LadderLaws.{none_first, none-second}
use Rattle.carrying.specs.NextRecord.{NextRecord}
use Rattle.carrying.specs.NextRecords.{kept, with_locks, next_records}
use Rattle.carrying.specs.NewSheet.{new_sheet}
use Rattle.carrying.specs.Carry.{early_refusal, sizes_differ, does_not_fit, carry_refusal, carried}
use Rattle.carrying.specs.Workers.Draft.{Drafted, DraftOf, Adds}
use Rattle.carrying.proofs.DraftLaws.{draft-few}
use Rattle.carrying.proofs.FitLaws.{records_fit, keys_same, fitting}

-- not both of two tests
not-both : (a b : Bool) → not a || not b ≡ not (a && b)
not-both true b = refl
not-both false b = refl

-- what refusals 1 to 7 let pass
module _ (sheet state : List ℕ) (e : early_refusal sheet state ≡ 0) where
  pub sheet-stands : sheet_refusal sheet ≡ 0
  unfolding early_refusal
  sheet-stands = none_first (sheet_refusal sheet) _ e

  pub state-stands : Orderly state
  unfolding early_refusal
  state-stands = (refusal-none state (none_first (state_refusal state) _ (none-second (sheet_refusal sheet) _ e))).1

  pub length_stands : bad_length sheet ≡ false
  length_stands = (conditions sheet sheet-stands).0

  pub few-records : Sheet.count sheet ≤ 1024
  few-records = (standing sheet sheet-stands).few-records

  pub size-there : ltb (length sheet) 12 ≡ false
  size-there = le-ltb (length sheet) 12 (first-words sheet sheet-stands)

  -- the sizes as they are read
  pub sizes_read : (i h I H : ℕ) →
      i ≡ pick (ltb (length sheet) 12) 0 (Sheet.interties sheet) → h ≡ pick (ltb (length sheet) 12) 0 (Sheet.holders sheet) →
      I ≡ Layout.interties state → H ≡ Layout.holders state → not (eqb i I) || not (eqb h H) ≡ sizes_differ sheet state
  unfolding sizes_differ
  sizes_read i h I H ei eh eI eH = rw (ei, eh, eI, eH, size-there) (not-both (eqb (Sheet.interties sheet) (Layout.interties state)) (eqb (Sheet.holders sheet) (Layout.holders state)))

module _ (sheet state output : List ℕ) where
  abbrev records : List NextRecord
  records = next_records sheet state

  -- what a call that is refused with a number answers, and the output as it was
  abbrev Refused : ℕ → Type 0
  Refused number = (refused number ≡ (carried sheet state output).answer) × (output ≡ (carried sheet state output).output)

  refused_by : (number : ℕ) → number ≢ 0 → number ≡ carry_refusal sheet state output → Refused number
  unfolding carried
  refused_by number some e = (rw (← e, ne_eqb number 0 some) refl, rw (← e, ne_eqb number 0 some) refl)

  -- by 1 to 7
  pub refused_early : (refusal : Refusal) → number_of refusal ≡ early_refusal sheet state → Refused (number_of refusal)
  unfolding carry_refusal
  refused_early refusal e =
      let some : number_of refusal ≢ 0 = λ z. omega (arith, numbered refusal) in
      refused_by (number_of refusal) some (rw (← e, ne_eqb (number_of refusal) 0 some) refl)

  -- and by 14, where the sizes differ
  pub refused_sizes : (differ : Bool) → 0 ≡ early_refusal sheet state → differ ≡ sizes_differ sheet state → differ ≡ true → Refused 14
  unfolding carry_refusal
  refused_sizes differ early e t = refused_by 14 (omega arith) (rw (← early, ← e, t) refl)

  -- a draft of what goes on and of the locks, with b for what its test gave
  module _ (early : early_refusal sheet state ≡ 0) (same : sizes_differ sheet state ≡ false)
      (kept_draft d : Drafted) (of : DraftOf (kept sheet (Sheet.count sheet)) kept_draft) (adds : Adds (with_locks state (Layout.holders state)) kept_draft d)
      (H : ℕ) (eH : H ≡ Layout.holders state) (b : Bool) (eb : (l : List NextRecord) → DraftOf l d → b ≡ does_not_fit H l (length output)) where
    drafted : DraftOf records d
    unfolding next_records
    drafted = adds (kept sheet (Sheet.count sheet)) of

    test-is : b ≡ does_not_fit (Layout.holders state) records (length output)
    test-is = eb records drafted ∙ ap (λ (k : ℕ). does_not_fit k records (length output)) eH

    pub refused_unfit : b ≡ true → Refused 14
    unfolding carry_refusal
    refused_unfit t = refused_by 14 (omega arith) (rw (early, same, ← test-is, t) refl)

    pub draft-fits : b ≡ false → (length d.keys ≤ 1024) × (size_of (length d.keys) ≤ length output)
    draft-fits f =
        let fits = fitting (Layout.holders state) records (length output) (sym test-is ∙ f) in
        rw (draft-few records d drafted) (fits.0, fits.2)

    pub draft-written : (I : ℕ) (written : List ℕ) → b ≡ false → ((i : ℕ) → at sheet i < 256) → I ≡ Layout.interties state →
        written ≡ with_sheet (sheet_bytes I H d.keys d.kws) output →
        (granted 0 0 ≡ (carried sheet state output).answer) × (written ≡ (carried sheet state output).output)
    unfolding carried carry_refusal new_sheet
    draft-written I written f bytes eI ew =
        let records-low = records_fit state (state-stands sheet state early) sheet bytes in
        let low = (fitting (Layout.holders state) records (length output) (sym test-is ∙ f)).1 in
        let keyed = drafted.keys-are ∙ keys_same (Layout.holders state) records records-low low in
        rw (early, same, ← test-is, f) (refl, ew ∙ rw (eI, eH, keyed, drafted.kws-are) refl)
