-- Table 5 of the operator's filing (docs/RULES.md, "Examples"): 500 MW in all, and four holders with load shares of 53, 40, 5 and
-- 2 per cent that have 15, 75, 10 and 100 MW after Steps 3 and 4. On the sheet the 500 MW are one intertie's, and what the
-- holders have are existing contracts.
use Prim.Native.Nat.{ℕ, ◌+◌, ◌/◌, ◌≤◌, ◌<◌}
use mathlib.Core.Path.{◌≡◌, refl, sym, ap, ◌∙◌}
use mathlib.Core.List.{List, [], ◌∷◌, ◌++◌, map}
use lib.ListN.{length, replicate}
use Rattle.base.specs.Answers.{granted}
use Rattle.base.specs.Limits.{state_words}
use Rattle.base.specs.Sums.{sum_to, all_to}
use Rattle.base.specs.Words.{at, tab}
use Rattle.base.proofs.WordLaws.{at-tab, tab-same, tab-at}
use Rattle.sheet_records.specs.Sheet.{word_at, sum_over, limit, outside, load_share, existing, pre_ra, new_use_kw}
use Rattle.sheet_records.specs.Sheet as Sheet
use Rattle.sheet_records.specs.Refusal.{bad_length, bad_sizes, record_stands, records_stand, one_limit_each, one_load_share_each, no_rank_twice, rules_hold, limits_hold, sheet_refusal}
use Rattle.step_5.specs.Round.{gross_remaining, eligible_loads, excludes, newly_excluded, round_marks}
use Rattle.step_5.specs.Shares.{rounds, settled, share_of, step5_shares}
use Rattle.steps.specs.Inputs.{Inputs, of_sheet}
use Rattle.steps.specs.Step2.{available, available_total, all_load_shares, load_share_quantity}
use Rattle.steps.specs.Step4a.{existing_on}
use Rattle.steps.specs.Step5to7.{held, step5_share, step7_total}
use Rattle.steps.proofs.SheetValid.{valid-sheet}
use Rattle.state.specs.Layout.{step7_total_of}
use Rattle.state_rows.specs.Rows.{fill_row}
use Rattle.opening.specs.Open.{Outcome, opened}
use Rattle.opening.proofs.OpenedLaws.{opened-state}
use Rattle.opening.proofs.TableOpening.{open-granted}
use Rattle.posting.specs.Rows.{posting_numbers}
use Rattle.posting.specs.Post.{Posted, posted}
use Rattle.posting.proofs.Examples.{bytes_of, sheet_of, entry, Figures, Says, rows_of, posting-of, reserved-are, shares-are, line}
use Rattle.text.specs.Ascii.{ascii}
use Rattle.text.specs.Decimal.{decimal_to}
use Rattle.text.specs.Lines.{figure, figures_of, line_of, each}
use Rattle.posting_text.specs.Text.{text_of}
use Rattle.posting_text.specs.Workers.Columns.{intertie_by_rows, holder_by_rows, lines_text}
use Rattle.posting_text.proofs.PostedLaws.{text-by-rows}
use Rattle.examples.proofs.Printed.{Printed, printed}

unfoldable pub sheet5 : List ℕ
sheet5 =
    sheet_of 1 4
    (entry 1 0 0 0 500_000
    ∷ entry 3 0 0 0 53
    ∷ entry 3 1 0 0 40
    ∷ entry 3 2 0 0 5
    ∷ entry 3 3 0 0 2
    ∷ entry 4 0 0 1 15_000
    ∷ entry 4 1 0 1 75_000
    ∷ entry 4 2 0 1 10_000
    ∷ entry 4 3 0 1 100_000
    ∷ [])

abbrev figures5 : Figures
figures5 =
    record {
      total = 500_000;
      limits = 500_000 ∷ [];
      outsides = 0 ∷ [];
      existing = 200_000 ∷ [];
      left = 300_000 ∷ [];
      load_shares = 53 ∷ 40 ∷ 5 ∷ 2 ∷ [];
      quantities = 265_000 ∷ 200_000 ∷ 25_000 ∷ 10_000 ∷ [];
      reserved = 15_000 ∷ 75_000 ∷ 10_000 ∷ 100_000 ∷ [];
      shares = 201_326 ∷ 88_265 ∷ 10_408 ∷ 0 ∷ [];
    }

says-5 : Says sheet5 (of_sheet sheet5) figures5
unfolding bytes_of sheet_of sheet5 sum_to all_to tab word_at sum_over limit outside load_share existing pre_ra new_use_kw Sheet.existing_on existing_on available available_total all_load_shares load_share_quantity bad_length bad_sizes record_stands records_stand one_limit_each one_load_share_each no_rank_twice rules_hold limits_hold sheet_refusal gross_remaining eligible_loads excludes newly_excluded round_marks rounds settled share_of step5_shares
says-5 =
    record {
      stands = refl;
      no-pre-ra = λ h i. refl;
      no-new-use = λ h r. refl;
      total = refl;
      limits = refl;
      outsides = refl;
      existing = refl;
      left = refl;
      load-shares = refl;
      quantities = refl;
      reserved = refl;
      shares = refl;
    }

posted-5 : (l : List ℕ) → posted sheet5 l ≡ record { answer = granted 500_000 0; lines = rows_of figures5 l }
posted-5 l = posting-of sheet5 figures5 says-5 l

-- the posting: of a holder its load share, Load Share Quantity, what it has after Steps 3 and 4, and its Step 5 share
pub record Posting (p : Posted) : Type 0 where
  pub t : p.answer ≡ granted 500_000 0
  pub intertie-0 : line 0 6 0 p.lines ≡ 500_000 ∷ 0 ∷ 200_000 ∷ 0 ∷ 0 ∷ 300_000 ∷ []
  pub holder-0 : line 6 4 0 p.lines ≡ 53 ∷ 265_000 ∷ 15_000 ∷ 201_326 ∷ []
  pub holder-1 : line 6 4 1 p.lines ≡ 40 ∷ 200_000 ∷ 75_000 ∷ 88_265 ∷ []
  pub holder-2 : line 6 4 2 p.lines ≡ 5 ∷ 25_000 ∷ 10_000 ∷ 10_408 ∷ []
  pub holder-3 : line 6 4 3 p.lines ≡ 2 ∷ 10_000 ∷ 100_000 ∷ 0 ∷ []

read_back : (f : ℕ → ℕ) → Posting (record { answer = granted 500_000 0; lines = rows_of figures5 (tab 480 f) })
unfolding tab fill_row
read_back f = record { t = refl; intertie-0 = refl; holder-0 = refl; holder-1 = refl; holder-2 = refl; holder-3 = refl }

posting-5 : (l : List ℕ) → length l ≡ posting_numbers → Posting (posted sheet5 l)
posting-5 l long =
    let whole : l ≡ tab 480 (at l) = sym (tab-at l) ∙ ap (λ n. tab n (at l)) long in
    rw (posted-5 l, whole) (read_back (at l))

-- the lines that `post` prints
abbrev pub printed5 : List ℕ
printed5 =
    ascii "T 500000\n"
    ++ ascii "I 0 500000 0 200000 0 0 300000\n"
    ++ ascii "H 0 53 265000 15000 201326\n"
    ++ ascii "H 1 40 200000 75000 88265\n"
    ++ ascii "H 2 5 25000 10000 10408\n"
    ++ ascii "H 3 2 10000 100000 0\n"

text-5 : text_of sheet5 ≡ printed5
unfolding bytes_of sheet_of sheet5 word_at fill_row tab decimal_to figure figures_of line_of each intertie_by_rows holder_by_rows lines_text
text-5 = text-by-rows sheet5 says-5.stands ∙ rw (posted-5 (replicate 480 0)) refl

-- a holder's Step 7 total is what it holds and its Step 5 share
holders-5 : (of_sheet sheet5).holders ≡ 4
unfolding bytes_of sheet_of sheet5 word_at
holders-5 = refl

total-is : (h : ℕ) → h < 4 → step7_total (of_sheet sheet5) h ≡ at figures5.reserved h + at figures5.shares h
unfolding step7_total
total-is h l =
    let y : Inputs = of_sheet sheet5 in
    let here : h < y.holders = rw holders-5 l in
    let has : held y h ≡ at figures5.reserved h =
    sym (at-tab y.holders (held y) h here) ∙ ap (λ (k : List ℕ). at k h) (reserved-are sheet5 y figures5 says-5) in
    let gets : step5_share y h ≡ at figures5.shares h =
    sym (at-tab y.holders (step5_share y) h here) ∙ ap (λ (k : List ℕ). at k h) (shares-are sheet5 y figures5 says-5) in
    rw (has, gets) refl

totals-5 : (s : List ℕ) → state_words ≤ length s →
    tab 4 (step7_total_of (opened sheet5 s).state) ≡ 216_326 ∷ 163_265 ∷ 20_408 ∷ 100_000 ∷ []
unfolding tab
totals-5 s long =
    let v = valid-sheet sheet5 says-5.stands in
    let o = opened-state (of_sheet sheet5) v.interties-most v.holders-most s long in
    ap (λ (n : Outcome). tab 4 (step7_total_of n.state)) (open-granted sheet5 s says-5.stands long)
    ∙ tab-same 4 _ (λ h. at figures5.reserved h + at figures5.shares h) (λ h l. o.step7-total h (rw holders-5 l) ∙ total-is h l)

-- kW as the filing prints them: tenths of a MW, to the nearest
abbrev pub tenths : ℕ → ℕ
tenths kw = (kw + 50) / 100

pub record Table5 : Type 0 where
  -- what `post` answers, whatever stood in the ten rows before, and what it prints
  pub posting : (l : List ℕ) → length l ≡ posting_numbers → Posting (posted sheet5 l)
  pub text : Printed sheet5 printed5
  -- the Step 7 totals of the state that opening leaves
  pub totals : (s : List ℕ) → state_words ≤ length s →
      tab 4 (step7_total_of (opened sheet5 s).state) ≡ 216_326 ∷ 163_265 ∷ 20_408 ∷ 100_000 ∷ []
  -- the filing's "RIC assignment" is the Step 5 share: 201.3, 88.3 and 10.4 MW, and none
  pub remaining : map tenths (201_326 ∷ 88_265 ∷ 10_408 ∷ 0 ∷ []) ≡ 2_013 ∷ 883 ∷ 104 ∷ 0 ∷ []
  -- its "Actual allocation" is the Step 7 total: 216.3, 163.3, 20.4 and 100 MW
  pub actual : map tenths (216_326 ∷ 163_265 ∷ 20_408 ∷ 100_000 ∷ []) ≡ 2_163 ∷ 1_633 ∷ 204 ∷ 1_000 ∷ []

pub table-5 : Table5
table-5 =
    record {
      posting = posting-5;
      text = printed sheet5 printed5 text-5;
      totals = totals-5;
      remaining = refl;
      actual = refl;
    }
