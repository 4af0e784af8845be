-- The balances of the year hold after every list of calls on a state that a sheet opened to.
use Prim.Native.Nat.{ℕ, zero, suc, ◌+◌, ◌≤◌, ◌<◌}
use mathlib.Core.Path.{◌≡◌, refl, ap, ◌∙◌}
use mathlib.Core.List.{List, []}
use native.Mathlib.Omega.{arith}
use lib.Dec.{ltb, eqb, eqb-suc-zero}
use lib.ListN.{length}
use borrow.Author.Tests.{ltb-false}
use Rattle.base.specs.Choice.{pick}
use Rattle.base.specs.Sums.{sum_to}
use Rattle.base.specs.Words.{at}
use Rattle.base.proofs.SumLaws.{sum_to-zeros}
use Rattle.sheet_records.specs.Refusal.{sheet_refusal}
use Rattle.steps.specs.Inputs.{Inputs, of_sheet}
use Rattle.steps.specs.Valid.{Valid}
use Rattle.steps.proofs.BoundLaws.{balance}
use Rattle.steps.proofs.SheetValid.{valid-sheet}
use Rattle.base.specs.Limits.{state_words}
use Rattle.state.specs.Layout.{place, interties, holders, locked_of, of_holder}
use Rattle.state.proofs.FrameLaws.{same-interties, same-holders}
use Rattle.call.proofs.LadderLaws.{not-whenever}
use Rattle.opening.specs.Opened.{opened_state}
use Rattle.opening.specs.Open.{open_refusal, opened}
use Rattle.opening.proofs.OpenedLaws.{Opened, opened-state}
use Rattle.opening.proofs.StartLaws.{opened-orderly}
use Rattle.balances.specs.Calls.{Call, after}
use Rattle.balances.specs.Amounts.{locked, closed}
use Rattle.balances.specs.Balances.{Balances, StillSays, YearBalances}
use Rattle.balances.proofs.ChangeLaws.{Ready, Change}
use Rattle.balances.proofs.ListLaws.{added_by_all, change-list}

-- what a sheet that opens says: the sheet stands, and the state is long enough
none_open : (n words : ℕ) → pick (eqb n 0) (pick (ltb words state_words) 5 0) n ≡ 0 → (n ≡ 0) × (state_words ≤ words)
none_open zero words e = (refl, ltb-false words state_words (not-whenever (ltb words state_words) 5 (omega arith) e))
none_open (suc n) words e = absurd (omega (arith, rw eqb-suc-zero at e))

pub opening-stands : (sheet words : List ℕ) → open_refusal sheet words ≡ 0 → (sheet_refusal sheet ≡ 0) × (state_words ≤ length words)
unfolding open_refusal
opening-stands sheet words e = none_open (sheet_refusal sheet) (length words) e

pub opened-granted : (sheet words : List ℕ) → open_refusal sheet words ≡ 0 → (opened sheet words).state ≡ opened_state (of_sheet sheet) words
unfolding opened
opened-granted sheet words e = rw e

module _ (y : Inputs) (v : Valid y) (calls : List Call) {s : List ℕ} (o : Opened y s) where
  abbrev t : List ℕ
  t = after calls s

  start : Ready s
  start = record { long = o.long; orderly = opened-orderly y v s o }

  change : Change s t (added_by_all y.interties calls s)
  change = change-list y.interties calls start o.interties-are

  -- a holder and an intertie of the sheet are of the state, and have a column
  among : (h : ℕ) → h < y.holders → h < holders s
  among h l = rw o.holders-are l

  inside : (i : ℕ) → i < y.interties → i < interties s
  inside i l = rw o.interties-are l

  holder-column : (h : ℕ) → h < y.holders → h < 32
  holder-column h l = omega (arith, v.holders-most)

  column : (i : ℕ) → i < y.interties → i < 48
  column i l = omega (arith, v.interties-most)

  -- a word that opening wrote
  stays : (r c : ℕ) → r < 103 → c < 48 → at t (place r c) ≡ at s (place r c)
  stays r c l m = change.opening.same r c (omega arith) l m

  -- nothing is locked at first
  none-locked : (h : ℕ) → h < y.holders → of_holder locked_of s h ≡ 0
  none-locked h k =
      ap (λ (n : ℕ). sum_to n (λ i. locked_of s h i)) o.interties-are
      ∙ sum_to-zeros y.interties (λ i. locked_of s h i) (λ i l. o.locked h i k l)

  locked-sum : (h : ℕ) → h < y.holders → of_holder locked_of t h ≡ locked calls s h
  locked-sum h k = omega (arith, change.locks h (among h k), none-locked h k)

  pub still-says : StillSays y calls s t
  still-says =
      record {
        interties-are = same-interties change.opening ∙ o.interties-are;
        holders-are = same-holders change.opening ∙ o.holders-are;
        limit = λ i l. stays 1 i (omega arith) (column i l) ∙ o.limit i l;
        outside = λ i l. stays 2 i (omega arith) (column i l) ∙ o.outside i l;
        load-share = λ h k. stays 3 h (omega arith) (omega (arith, holder-column h k)) ∙ o.load-share h k;
        step5-share = λ h k. stays 4 h (omega arith) (omega (arith, holder-column h k)) ∙ o.step5-share h k;
        step7-total = λ h k. stays 5 h (omega arith) (omega (arith, holder-column h k)) ∙ o.step7-total h k;
        reserved = λ h k. stays 6 h (omega arith) (omega (arith, holder-column h k)) ∙ o.reserved h k;
        pre-ra = λ h i k l. stays (39 + h) i (omega (arith, holder-column h k)) (column i l) ∙ o.pre-ra h i k l;
        new-use = λ h i k l. stays (71 + h) i (omega (arith, holder-column h k)) (column i l) ∙ o.new-use h i k l;
        locked-words = locked-sum;
      }

  -- the four lines
  pub balances : Balances y calls s t
  balances =
      record {
        intertie = λ i l.
            omega (
              arith,
              balance y v i l,
              o.unassigned-is i l,
              change.on-intertie i (inside i l),
              ap (λ (n : ℕ). sum_to n (λ h. closed y.interties calls s h i)) o.holders-are,
            );
        existing = λ h i k l. stays (7 + h) i (omega (arith, holder-column h k)) (column i l) ∙ o.existing h i k l;
        holder = λ h k.
            omega (
              arith,
              o.unplaced h k,
              change.of-holder h (among h k),
              ap (λ (n : ℕ). sum_to n (λ i. closed y.interties calls s h i)) o.interties-are,
            );
        three_quarters = λ h k some.
            omega (
              arith,
              change.three_quarters h (among h k) (omega arith),
              locked-sum h k,
              still-says.reserved h k,
              still-says.step7-total h k,
            );
      }

-- what a sheet that opens says: what the steps read of it is in range, and every word of the state is what they give
opening-says : (sheet words : List ℕ) → open_refusal sheet words ≡ 0 → Valid (of_sheet sheet) × Opened (of_sheet sheet) (opened sheet words).state
opening-says sheet words e =
    let stands = opening-stands sheet words e in
    let v : Valid (of_sheet sheet) = valid-sheet sheet stands.0 in
    (v, rw (opened-granted sheet words e) (opened-state (of_sheet sheet) v.interties-most v.holders-most words stands.1))

pub opening-ready : (sheet words : List ℕ) → open_refusal sheet words ≡ 0 → Ready (opened sheet words).state
opening-ready sheet words e = let says = opening-says sheet words e in start (of_sheet sheet) says.0 [] says.1

pub balances-hold : YearBalances
balances-hold sheet words calls e =
    let y : Inputs = of_sheet sheet in
    let says = opening-says sheet words e in
    record { balances = balances y says.0 calls says.1; words-say = still-says y says.0 calls says.1 }
