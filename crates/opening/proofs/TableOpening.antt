-- The tables of a reading say what the sheet says, so the steps give the same from either.
use Prim.Native.Nat.{ℕ, zero, suc, ◌≤◌, ◌<◌}
use mathlib.Core.Path.{◌≡◌, refl, sym, ap, ◌∙◌}
use mathlib.Core.Bool.{false}
use mathlib.Core.Logic.{◌≢◌, ◌⊎◌, inl, inr, ⊎_elim}
use mathlib.Core.List.{List}
use native.Mathlib.Omega.{arith}
use lib.Dec.{ltb}
use lib.ListN.{length}
use borrow.Author.Tests.{ne_eqb, lt-ltb, le-ltb}
use Rattle.base.specs.Choice.{pick}
use Rattle.base.specs.Words.{fill}
use Rattle.base.specs.Answers.{refused, granted}
use Rattle.base.proofs.ChoiceLaws.{pick-false}
use Rattle.base.proofs.SumLaws.{sum_to-same}
use Rattle.base.proofs.WordLaws.{fill-same}
use Rattle.base.specs.Limits.{state_words}
use Rattle.sheet_records.specs.Sheet as Sheet
use Rattle.sheet_records.specs.Refusal.{sheet_refusal}
use Rattle.sheet_reading.specs.declared.tables.Tables.{Tables}
use Rattle.sheet_reading.specs.Tables.{kw_table, intertie_table, ReadSheet}
use Rattle.sheet_reading.specs.Workers.Adding.{Filled}
use Rattle.sheet_reading.proofs.SheetLaws.{first-words, read-stands}
use Rattle.sheet_reading.proofs.TableLaws.{limit-at, outside-at, load-share-at, existing-at, pre-ra-at, new-use-kw-at, new-use-intertie-at}
use Rattle.steps.specs.Inputs.{Inputs, of_sheet}
use Rattle.steps.specs.Tables.{of_tables}
use Rattle.steps.specs.Valid.{Valid}
use Rattle.steps.specs.Step2.{available_total, load_share_quantity}
use Rattle.steps.specs.Step4a.{existing_on}
use Rattle.steps.proofs.AgreeLaws.{Agree, total-agree, quantity-agree, pre-ra-agree, new-use-agree, held-agree, share-agree, step7-agree, unassigned-agree}
use Rattle.steps.proofs.SheetValid.{valid-sheet}
use Rattle.opening.specs.Opened.{opened_state}
use Rattle.opening.specs.Open.{Outcome, open_refusal, opened, quantities_found}
use Rattle.opening.proofs.SameLaws.{SameFigures, same-opened}

-- inputs that agree give the same figures
agree-figures : (y z : Inputs) → Agree y z → SameFigures y z
agree-figures y z a =
    let few : (i : ℕ) → i < z.interties → i < 48 = λ i l. omega (arith, a.interties, a.few-interties) in
    let low : (h : ℕ) → h < z.holders → h < 32 = λ h l. omega (arith, a.holders, a.few-holders) in
    record {
      interties = a.interties;
      holders = a.holders;
      limit = λ i l. a.limit i (few i l);
      outside = λ i l. a.outside i (few i l);
      load-share = λ h l. a.load-share h (low h l);
      share = λ h l. share-agree y z a h;
      total = λ h l. step7-agree y z a h (low h l);
      hold = λ h l. held-agree y z a h (low h l);
      existing = λ h i k l. a.existing h i (low h k) (few i l);
      pre-ra = λ h i k l. pre-ra-agree y z a h i (few i l);
      new-use = λ h i k l. new-use-agree y z a h i (few i l);
      left = λ i l. unassigned-agree y z a i (few i l);
    }

-- the tables of a sheet that stands
module _ (s : List ℕ) (e : sheet_refusal s ≡ 0) where
  abbrev read : Inputs
  read = of_tables (Sheet.interties s) (Sheet.holders s) (kw_table s) (intertie_table s)

  tables_agree : Agree read (of_sheet s)
  tables_agree =
      let v = valid-sheet s e in
      record {
        interties = refl;
        holders = refl;
        few-interties = v.interties-most;
        few-holders = v.holders-most;
        limit = λ i l. limit-at s i (omega arith);
        outside = λ i l. outside-at s i (omega arith);
        load-share = λ h l. load-share-at s h (omega arith);
        existing = λ h i k l. existing-at s h i k (omega arith);
        pre-ra = λ h i k l. pre-ra-at s h i k (omega arith);
        new-use-kw = λ h r k l. new-use-kw-at s h r k l;
        new-use-intertie = λ h r k l. new-use-intertie-at s h r k l;
      }

  existing-same : (i : ℕ) → i < Sheet.interties s → existing_on read i ≡ existing_on (of_sheet s) i
  unfolding existing_on
  existing-same i l =
      let v = valid-sheet s e in
      sum_to-same (Sheet.holders s) _ _ (λ h k. tables_agree.existing h i (omega (arith, v.holders-most)) (omega (arith, v.interties-most)))

  pub tables-valid : Valid read
  tables-valid =
      let v = valid-sheet s e in
      let a = tables_agree in
      let low : (h : ℕ) → h < Sheet.holders s → h < 32 = λ h l. omega (arith, v.holders-most) in
      let few : (i : ℕ) → i < Sheet.interties s → i < 48 = λ i l. omega (arith, v.interties-most) in
      record {
        interties-least = v.interties-least;
        interties-most = v.interties-most;
        holders-least = v.holders-least;
        holders-most = v.holders-most;
        limit-most = λ i l. omega (arith, a.limit i (few i l), v.limit-most i l);
        load-share-most = λ h l. omega (arith, a.load-share h (low h l), v.load-share-most h l);
        fits = λ i l. omega (arith, a.outside i (few i l), existing-same i l, a.limit i (few i l), v.fits i l);
      }

pub zero_or : (n : ℕ) → (n ≡ 0) ⊎ (n ≢ 0)
zero_or zero = inl refl
zero_or (suc n) = inr (λ e. absurd (omega arith))

-- the call by cases: refused as the sheet is, refused with 5, opened
module _ (sheet s : List ℕ) where
  -- the sheet's own refusal comes first, and a state that is too short is looked at only where there is none
  sheet-first : sheet_refusal sheet ≢ 0 → open_refusal sheet s ≡ sheet_refusal sheet
  unfolding open_refusal
  sheet-first ne = rw (ne_eqb (sheet_refusal sheet) 0 ne) refl

  then-room : sheet_refusal sheet ≡ 0 → length s < 16000 → open_refusal sheet s ≡ 5
  unfolding open_refusal
  then-room e short = rw (e, lt-ltb (length s) state_words short) refl

  then-none : sheet_refusal sheet ≡ 0 → 16000 ≤ length s → open_refusal sheet s ≡ 0
  unfolding open_refusal
  then-none e long = rw (e, le-ltb (length s) state_words long) refl

  pub open-refused : sheet_refusal sheet ≢ 0 → opened sheet s ≡ record { answer = refused (sheet_refusal sheet); state = s }
  unfolding opened
  open-refused ne = rw (sheet-first ne, ne_eqb (sheet_refusal sheet) 0 ne) refl

  pub open-short : sheet_refusal sheet ≡ 0 → length s < 16000 → opened sheet s ≡ record { answer = refused 5; state = s }
  unfolding opened
  open-short e short = rw (then-room e short) refl

  pub open-granted : sheet_refusal sheet ≡ 0 → 16000 ≤ length s →
      opened sheet s ≡ record { answer = granted (available_total (of_sheet sheet)) 0; state = opened_state (of_sheet sheet) s }
  unfolding opened
  open-granted e long = rw (then-none e long) refl

  -- and the Load Share Quantities
  module _ (row : List ℕ) where
    pub found-refused : sheet_refusal sheet ≢ 0 → quantities_found sheet s row ≡ row
    unfolding quantities_found
    found-refused ne = rw (sheet-first ne, ne_eqb (sheet_refusal sheet) 0 ne) refl

    pub found-short : sheet_refusal sheet ≡ 0 → length s < 16000 → quantities_found sheet s row ≡ row
    unfolding quantities_found
    found-short e short = rw (then-room e short) refl

    pub found-granted : sheet_refusal sheet ≡ 0 → 16000 ≤ length s →
        quantities_found sheet s row ≡ fill (Sheet.holders sheet) (load_share_quantity (of_sheet sheet)) row
    unfolding quantities_found
    found-granted e long = rw (then-none e long) refl

  -- what the tables give is what the sheet gives
  module _ (e : sheet_refusal sheet ≡ 0) (long : 16000 ≤ length s) where
    open_done : (total : ℕ) (row found after : List ℕ) →
        (total ≡ available_total (read sheet e))
        × (found ≡ fill (Sheet.holders sheet) (load_share_quantity (read sheet e)) row)
        × (after ≡ opened_state (read sheet e) s) →
        (granted total 0 ≡ (opened sheet s).answer) × (after ≡ (opened sheet s).state) × (found ≡ quantities_found sheet s row)
    open_done total row found after r =
        let done = open-granted e long in
        let v = valid-sheet sheet e in (
          ap (λ (n : ℕ). granted n 0) (r.0 ∙ total-agree (read sheet e) (of_sheet sheet) (tables_agree sheet e)) ∙ sym (ap (λ (o : Outcome). o.answer) done),
          r.2 ∙ same-opened (read sheet e) (of_sheet sheet) (agree-figures (read sheet e) (of_sheet sheet) (tables_agree sheet e)) s ∙ sym (ap (λ (o : Outcome). o.state) done),
          r.1
              ∙ fill-same (Sheet.holders sheet) (load_share_quantity (read sheet e)) (load_share_quantity (of_sheet sheet)) row
              (λ h l. quantity-agree (read sheet e) (of_sheet sheet) (tables_agree sheet e) h (omega (arith, v.holders-most)))
              ∙ sym (found-granted row e long),
        )

-- a reading that refuses nothing, and the sizes it is asked for
module _ (sheet : List ℕ) (before now : Tables) (number : ℕ) (r : ReadSheet sheet before number now) (zero : number ≡ 0) where
  stands : sheet_refusal sheet ≡ 0
  stands = sym r.answer ∙ zero

  filled : Filled sheet now
  filled = (read-stands sheet before now number r zero).1

  module _ (I H : ℕ) (i : I ≡ pick (ltb (length sheet) 12) 0 (Sheet.interties sheet)) (h : H ≡ pick (ltb (length sheet) 12) 0 (Sheet.holders sheet)) where
    abbrev there : ltb (length sheet) 12 ≡ false
    there = le-ltb (length sheet) 12 (first-words sheet stands)

    same : of_tables I H now.kw now.interties ≡ read sheet stands
    same =
        ap (λ (n : ℕ). of_tables n H now.kw now.interties) (i ∙ pick-false _ _ _ there)
        ∙ ap (λ (n : ℕ). of_tables (Sheet.interties sheet) n now.kw now.interties) (h ∙ pick-false _ _ _ there)
        ∙ ap (λ l. of_tables (Sheet.interties sheet) (Sheet.holders sheet) l now.interties) filled.summed
        ∙ ap (λ l. of_tables (Sheet.interties sheet) (Sheet.holders sheet) (kw_table sheet) l) filled.placed

    pub read-valid : Valid (of_tables I H now.kw now.interties)
    read-valid = rw same (tables-valid sheet stands)

    pub read_opened : (s row : List ℕ) → 16000 ≤ length s → (total : ℕ) (found after : List ℕ) →
        (total ≡ available_total (of_tables I H now.kw now.interties))
        × (found ≡ fill H (load_share_quantity (of_tables I H now.kw now.interties)) row)
        × (after ≡ opened_state (of_tables I H now.kw now.interties) s) →
        (granted total 0 ≡ (opened sheet s).answer) × (after ≡ (opened sheet s).state) × (found ≡ quantities_found sheet s row)
    read_opened s row long total found after e =
        open_done sheet s stands long total row found after (
          e.0 ∙ ap (λ (z : Inputs). available_total z) same,
          e.1 ∙ ap (λ (z : Inputs). fill z.holders (load_share_quantity z) row) same,
          e.2 ∙ ap (λ (z : Inputs). opened_state z s) same,
        )

-- over 16,000 words the refusal is the sheet's
pub whole-number : (sheet s : List ℕ) → 16000 ≤ length s → (opened sheet s).answer.refusal ≡ sheet_refusal sheet
whole-number sheet s long =
    ⊎_elim
    (λ (e : sheet_refusal sheet ≡ 0). ap (λ (o : Outcome). o.answer.refusal) (open-granted sheet s e long) ∙ sym e)
    (λ (ne : sheet_refusal sheet ≢ 0). ap (λ (o : Outcome). o.answer.refusal) (open-refused sheet s ne))
    (zero_or (sheet_refusal sheet))
