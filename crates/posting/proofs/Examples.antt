-- What `post` answers of a sheet with existing contracts alone, by the figures of its records, whatever stood in the ten rows
-- before; and so of case i (docs/RULES.md, "Examples"). (The operator's table, in examples' Filing, is another sheet: what both
-- share stands here, and each has its own figures.)
use Prim.Native.Nat.{ℕ, ◌+◌, ◌-◌, ◌*◌, ◌/◌, ◌%◌, ◌≤◌, ◌<◌, min}
use mathlib.Core.Path.{◌≡◌, refl, sym, ap, ◌∙◌}
use mathlib.Core.List.{List, [], ◌∷◌, ◌++◌, map}
use native.Mathlib.Omega.{arith}
use lib.Dec.{eqb}
use lib.ListN.{length}
use Rattle.base.specs.Sums.{sum_to, all_to}
use Rattle.base.specs.Words.{at, tab}
use Rattle.base.specs.Answers.{granted}
use Rattle.base.proofs.ChoiceLaws.{pick-by}
use Rattle.base.proofs.SumLaws.{sum_to-zeros, sum_to-same}
use Rattle.base.proofs.WordLaws.{length-tab, at-tab, tab-same, tab-at}
use Rattle.state.specs.Layout.{place}
use Rattle.sheet_records.specs.declared.reader.Record.{Record}
use Rattle.sheet_records.specs.Sheet.{word_at, sum_over, limit, outside, load_share, existing, pre_ra, new_use_kw}
use Rattle.sheet_records.specs.Sheet as Sheet
use Rattle.sheet_records.specs.Refusal.{bad_length, bad_sizes, record_stands, records_stand, one_limit_each, one_load_share_each, no_rank_twice, rules_hold, limits_hold, sheet_refusal}
use Rattle.step_4b.proofs.Promise.{asked_at, asked_on}
use Rattle.step_4b.proofs.Promise as NewUse
use Rattle.step_5.specs.Shares.{step5_shares}
use Rattle.step_5.proofs.Examples as Step5
use Rattle.steps.specs.Inputs.{Inputs, of_sheet}
use Rattle.steps.specs.Step2.{available, available_total, all_load_shares, load_share_quantity}
use Rattle.steps.specs.Step4a.{existing_on, pre_ra_claim, pre_ra_granted}
use Rattle.steps.specs.Step4b.{allowance, cover, new_use_kept, new_use_claim, new_use_granted}
use Rattle.steps.specs.Step5to7.{held_on, held, reserved_on, step5_share, unassigned}
use Rattle.steps.proofs.BoundLaws.{pre-ra-claimed, new-use-claimed}
use Rattle.state_rows.specs.Rows.{fill_row}
use Rattle.opening.proofs.WriteLaws.{row_same}
use Rattle.posting.specs.Post.{pre_ra_on, new_use_on, intertie_lines, holder_lines, Posted, posted}
use Rattle.posting.proofs.PostLaws.{post-done}

-- words as bytes, the low byte first
unfoldable pub bytes_of : List ℕ → List ℕ
bytes_of [] = []
bytes_of (w ∷ words) = w % 256 ∷ w / 256 % 256 ∷ w / 65_536 % 256 ∷ w / 16_777_216 ∷ bytes_of words

-- a sheet: I, H and K, then the keys, then the quantities
unfoldable pub sheet_of : ℕ → ℕ → List Record → List ℕ
sheet_of I H records = bytes_of (I ∷ H ∷ length records ∷ map (λ r. r.key) records ++ map (λ r. r.kw) records)

-- a record by its kind, holder, intertie, years and quantity; none here has a rank
abbrev pub entry : ℕ → ℕ → ℕ → ℕ → ℕ → Record
entry kind holder intertie years kilowatts = record { key = kind + 16 * holder + 1024 * intertie + 16_777_216 * years; kw = kilowatts }

-- limit 110,000, outside 10,000, load shares 50,000, 30,000, 20,000, holder 2 existing 30,000, years 1
unfoldable pub sheet_i : List ℕ
sheet_i =
    sheet_of 1 3
    (entry 1 0 0 0 110_000
    ∷ entry 2 0 0 0 10_000
    ∷ entry 3 0 0 0 50_000
    ∷ entry 3 1 0 0 30_000
    ∷ entry 3 2 0 0 20_000
    ∷ entry 4 2 0 1 30_000
    ∷ [])

pub sheet-bytes : sheet_i ≡ 1 ∷ 0 ∷ 0 ∷ 0 ∷ 3 ∷ 0 ∷ 0 ∷ 0 ∷ 6 ∷ 0 ∷ 0 ∷ 0 ∷ 1 ∷ 0 ∷ 0 ∷ 0 ∷ 2 ∷ 0 ∷ 0 ∷ 0 ∷ 3 ∷ 0 ∷ 0 ∷ 0 ∷ 19 ∷ 0 ∷ 0 ∷ 0 ∷ 35 ∷ 0 ∷ 0 ∷ 0 ∷ 36 ∷ 0 ∷ 0 ∷ 1 ∷ 176 ∷ 173 ∷ 1 ∷ 0 ∷ 16 ∷ 39 ∷ 0 ∷ 0 ∷ 80 ∷ 195 ∷ 0 ∷ 0 ∷ 48 ∷ 117 ∷ 0 ∷ 0 ∷ 32 ∷ 78 ∷ 0 ∷ 0 ∷ 48 ∷ 117 ∷ 0 ∷ 0 ∷ []
unfolding bytes_of sheet_of sheet_i
sheet-bytes = refl

-- what a posting says: T, a figure for each intertie (limit, outside, E, unassigned), and one for each holder (load share, Load Share
-- Quantity, reserved, Step 5 share)
pub record Figures : Type 0 where
  pub total : ℕ
  pub limits : List ℕ
  pub outsides : List ℕ
  pub existing : List ℕ
  pub left : List ℕ
  pub load_shares : List ℕ
  pub quantities : List ℕ
  pub reserved : List ℕ
  pub shares : List ℕ

-- a sheet stands, has existing contracts alone, and its records give these figures
pub record Says (s : List ℕ) (y : Inputs) (f : Figures) : Type 0 where
  pub stands : sheet_refusal s ≡ 0
  pub no-pre-ra : (h i : ℕ) → y.pre_ra h i ≡ 0
  pub no-new-use : (h r : ℕ) → y.new_use_kw h r ≡ 0
  pub total : available_total y ≡ f.total
  pub limits : tab y.interties y.limit ≡ f.limits
  pub outsides : tab y.interties y.outside ≡ f.outsides
  pub existing : tab y.interties (existing_on y) ≡ f.existing
  pub left : tab y.interties (λ i. available y i - existing_on y i) ≡ f.left
  pub load-shares : tab y.holders y.load_share ≡ f.load_shares
  pub quantities : tab y.holders (load_share_quantity y) ≡ f.quantities
  pub reserved : tab y.holders (λ h. sum_to y.interties (y.existing h)) ≡ f.reserved
  pub shares : step5_shares f.total f.reserved f.load_shares ≡ f.shares

-- a row of the posting by its numbers
abbrev pub row_of : ℕ → List ℕ → List ℕ → List ℕ
row_of row numbers l = fill_row row (length numbers) (at numbers) l

row_is : (row n : ℕ) (f : ℕ → ℕ) (numbers l m : List ℕ) → tab n f ≡ numbers → l ≡ m → fill_row row n f l ≡ row_of row numbers m
row_is row n f numbers l m e same =
    let size : n ≡ length numbers = sym (length-tab n f) ∙ ap length e in
    row_same row n (length numbers) f (at numbers) l m size
    (λ c k. sym (at-tab n f c (omega (arith, size, k))) ∙ ap (λ (t : List ℕ). at t c) e)
    same

-- the ten rows
abbrev pub rows_of : Figures → List ℕ → List ℕ
rows_of f l =
    row_of 9 f.shares
    (row_of 8 f.reserved
    (row_of 7 f.quantities
    (row_of 6 f.load_shares
    (row_of 5 f.left
    (row_of 4 (tab (length f.limits) (λ i. 0))
    (row_of 3 (tab (length f.limits) (λ i. 0))
    (row_of 2 f.existing
    (row_of 1 f.outsides
    (row_of 0 f.limits l)))))))))

module _ (s : List ℕ) (y : Inputs) (f : Figures) (o : Says s y f) where
  -- nobody has Pre-RA or New Use commitments: nothing is claimed, and a share-out grants no more than is claimed
  pre-ra-none : (h i : ℕ) → h < y.holders → pre_ra_granted y h i ≡ 0
  unfolding pre_ra_claim
  pre-ra-none h i l = omega (arith, pre-ra-claimed y h i l, o.no-pre-ra h i)

  asked-none : (h i r : ℕ) → r ≤ 256 → asked_on (tab 256 (y.new_use_kw h)) (tab 256 (y.new_use_intertie h)) r i ≡ 0
  asked-none h i r few =
      sum_to-zeros r (asked_at (tab 256 (y.new_use_kw h)) (tab 256 (y.new_use_intertie h)) i)
      (λ k l.
      let none : at (tab 256 (y.new_use_kw h)) k ≡ 0 = at-tab 256 (y.new_use_kw h) k (omega arith) ∙ o.no-new-use h k in
      pick-by (λ (n : ℕ). n ≡ 0) (eqb (at (tab 256 (y.new_use_intertie h)) k) i) (at (tab 256 (y.new_use_kw h)) k) 0 (λ _. none) (λ _. refl))

  new-use-none : (h i : ℕ) → h < y.holders → new_use_granted y h i ≡ 0
  unfolding new_use_claim new_use_kept
  new-use-none h i l =
      let kw : List ℕ = tab 256 (y.new_use_kw h) in
      let places : List ℕ = tab 256 (y.new_use_intertie h) in
      let p = NewUse.promise kw places (allowance y h) (cover y h) 48 in
      omega (
        arith,
        new-use-claimed y h i l,
        p.within i,
        p.falls i,
        asked-none h i (min (length kw) (length places)) (omega (arith, length-tab 256 (y.new_use_kw h))),
      )

  pre-ra-on : (i : ℕ) → pre_ra_on y i ≡ 0
  unfolding pre_ra_on
  pre-ra-on i = sum_to-zeros y.holders (λ h. pre_ra_granted y h i) (λ h l. pre-ra-none h i l)

  new-use-on : (i : ℕ) → new_use_on y i ≡ 0
  unfolding new_use_on
  new-use-on i = sum_to-zeros y.holders (λ h. new_use_granted y h i) (λ h l. new-use-none h i l)

  -- what is held is the existing contracts
  held_on-is : (h i : ℕ) → h < y.holders → held_on y h i ≡ y.existing h i
  unfolding held_on
  held_on-is h i l = omega (arith, pre-ra-none h i l, new-use-none h i l)

  held-is : (h : ℕ) → h < y.holders → held y h ≡ sum_to y.interties (y.existing h)
  unfolding held
  held-is h l = sum_to-same y.interties (held_on y h) (y.existing h) (λ i k. held_on-is h i l)

  left_is : (i : ℕ) → i < y.interties → unassigned y i ≡ available y i - existing_on y i
  unfolding unassigned reserved_on existing_on
  left_is i k = ap (λ (n : ℕ). available y i - n) (sum_to-same y.holders (λ h. held_on y h i) (λ h. y.existing h i) (λ h l. held_on-is h i l))

  pub reserved-are : tab y.holders (held y) ≡ f.reserved
  reserved-are = tab-same y.holders (held y) (λ h. sum_to y.interties (y.existing h)) held-is ∙ o.reserved

  pub shares-are : tab y.holders (step5_share y) ≡ f.shares
  unfolding step5_share step5_shares
  shares-are =
      let found : step5_shares (available_total y) (tab y.holders (held y)) (tab y.holders y.load_share) ≡ f.shares =
      rw (o.total, reserved-are, o.load-shares) o.shares in
      let size : length f.shares ≡ y.holders =
      sym (ap length found) ∙ length-tab _ _ ∙ length-tab y.holders (held y) in
      ap (λ (k : List ℕ). tab y.holders (at k)) found ∙ ap (λ (n : ℕ). tab n (at f.shares)) (sym size) ∙ tab-at f.shares

  none-on : (g : ℕ → ℕ) → ((i : ℕ) → g i ≡ 0) → tab y.interties g ≡ tab (length f.limits) (λ i. 0)
  none-on g none =
      let size : length f.limits ≡ y.interties = sym (ap length o.limits) ∙ length-tab y.interties y.limit in
      tab-same y.interties g (λ i. 0) (λ i k. none i) ∙ ap (λ (n : ℕ). tab n (λ i. 0)) (sym size)

  rows_are : (l : List ℕ) → holder_lines y (intertie_lines y l) ≡ rows_of f l
  unfolding intertie_lines holder_lines
  rows_are l =
      row_is 9 _ _ _ _ _ shares-are
      (row_is 8 _ _ _ _ _ reserved-are
      (row_is 7 _ _ _ _ _ o.quantities
      (row_is 6 _ _ _ _ _ o.load-shares
      (row_is 5 _ _ _ _ _ (tab-same y.interties (unassigned y) (λ i. available y i - existing_on y i) left_is ∙ o.left)
      (row_is 4 _ _ _ _ _ (none-on (new_use_on y) new-use-on)
      (row_is 3 _ _ _ _ _ (none-on (pre_ra_on y) pre-ra-on)
      (row_is 2 _ _ _ _ _ o.existing (row_is 1 _ _ _ _ _ o.outsides (row_is 0 _ _ _ _ _ o.limits refl)))))))))

-- the posting of a sheet that says these figures
pub posting-of : (s : List ℕ) (f : Figures) → Says s (of_sheet s) f → (l : List ℕ) →
    posted s l ≡ record { answer = granted f.total 0; lines = rows_of f l }
posting-of s f o l = post-done s l o.stands ∙ rw (o.total, rows_are s (of_sheet s) f o l) refl

abbrev pub figures_i : Figures
figures_i =
    record {
      total = 100_000;
      limits = 110_000 ∷ [];
      outsides = 10_000 ∷ [];
      existing = 30_000 ∷ [];
      left = 70_000 ∷ [];
      load_shares = 50_000 ∷ 30_000 ∷ 20_000 ∷ [];
      quantities = 50_000 ∷ 30_000 ∷ 20_000 ∷ [];
      reserved = 0 ∷ 0 ∷ 30_000 ∷ [];
      shares = 43_750 ∷ 26_250 ∷ 0 ∷ [];
    }

pub says-i : Says sheet_i (of_sheet sheet_i) figures_i
unfolding bytes_of sheet_of sheet_i sum_to all_to tab word_at sum_over limit outside load_share existing pre_ra new_use_kw Sheet.existing_on existing_on available available_total all_load_shares load_share_quantity bad_length bad_sizes record_stands records_stand one_limit_each one_load_share_each no_rank_twice rules_hold limits_hold sheet_refusal
says-i =
    record {
      stands = refl;
      no-pre-ra = λ h i. refl;
      no-new-use = λ h r. refl;
      total = refl;
      limits = refl;
      outsides = refl;
      existing = refl;
      left = refl;
      load-shares = refl;
      quantities = refl;
      reserved = refl;
      shares = (Step5.cases).i;
    }

-- the sheet stands
pub stands-i : sheet_refusal sheet_i ≡ 0
stands-i = says-i.stands

-- the ten rows
unfoldable pub lines_i : List ℕ → List ℕ
lines_i l = rows_of figures_i l

pub posted-i : (l : List ℕ) → posted sheet_i l ≡ record { answer = granted 100_000 0; lines = lines_i l }
unfolding lines_i
posted-i l = posting-of sheet_i figures_i says-i l

-- the numbers of a line: so many rows from the first on, in the column of its intertie or holder
abbrev pub line : ℕ → ℕ → ℕ → List ℕ → List ℕ
line first rows column l = tab rows (λ r. at l (place (first + r) column))

pub record CaseI (p : Posted) : Type 0 where
  pub t : p.answer ≡ granted 100_000 0
  pub intertie-0 : line 0 6 0 p.lines ≡ 110_000 ∷ 10_000 ∷ 30_000 ∷ 0 ∷ 0 ∷ 70_000 ∷ []
  pub holder-0 : line 6 4 0 p.lines ≡ 50_000 ∷ 50_000 ∷ 0 ∷ 43_750 ∷ []
  pub holder-1 : line 6 4 1 p.lines ≡ 30_000 ∷ 30_000 ∷ 0 ∷ 26_250 ∷ []
  pub holder-2 : line 6 4 2 p.lines ≡ 20_000 ∷ 20_000 ∷ 30_000 ∷ 0 ∷ []

read_back : (f : ℕ → ℕ) → CaseI (record { answer = granted 100_000 0; lines = lines_i (tab 480 f) })
unfolding tab fill_row lines_i
read_back f = record { t = refl; intertie-0 = refl; holder-0 = refl; holder-1 = refl; holder-2 = refl }

pub case-i : (l : List ℕ) → length l ≡ 480 → CaseI (posted sheet_i l)
case-i l long =
    let whole : l ≡ tab 480 (at l) = sym (tab-at l) ∙ ap (λ n. tab n (at l)) long in
    rw (posted-i l, whole) (read_back (at l))
