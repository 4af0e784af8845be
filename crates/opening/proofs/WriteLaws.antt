-- Rows and tables that say what the steps give are written as the opened state.
use Prim.Native.Nat.{ℕ, ◌+◌, ◌≤◌, ◌<◌}
use mathlib.Core.Path.{◌≡◌, refl, ap, ◌∙◌}
use mathlib.Core.List.{List}
use native.Mathlib.Nat.{mod-eq_of_lt}
use native.Mathlib.Omega.{arith}
use Rattle.state_rows.specs.Rows.{fill_row, fill_pairs}
use Rattle.state_rows.proofs.RowLaws.{fill_row-same, fill_pairs-same}
use Rattle.steps.specs.Inputs.{Inputs}
use Rattle.sheet_reading.specs.declared.tables.Tables.{Tables}
use Rattle.steps.specs.Valid.{Valid}
use Rattle.steps.specs.Step4a.{pre_ra_granted}
use Rattle.steps.specs.Step4b.{new_use_granted}
use Rattle.steps.specs.Step5to7.{held_on, held, step5_share, step7_total, unassigned}
use Rattle.steps.proofs.BoundLaws.{held-on-most, held-most, share-most, step7-total-most, unassigned-most, limit-parts}
use Rattle.steps_2_to_4.specs.Workers.Vectors.{Row, Pairs}
use Rattle.steps_2_to_4.specs.Reserved.{inputs}
use Rattle.opened_state.specs.declared.Figures.{Figures}
use Rattle.opened_state.specs.Write.{low, sizes_written, figures_written, reserved_written, stage_written, rows_cleared, pairs_cleared, state_written}
use Rattle.opening.specs.Opened.{size_words, figure_words, reserved_words, stage_words, cleared_words, opened_state}

pub row_same : (row m n : ℕ) (f g : ℕ → ℕ) (s t : List ℕ) → m ≡ n → ((c : ℕ) → c < n → f c ≡ g c) → s ≡ t → fill_row row m f s ≡ fill_row row n g t
row_same row m n f g s t size same e = ap (λ k. fill_row row k f s) size ∙ fill_row-same row n f g s same ∙ ap (fill_row row n g) e

pub pairs-same : (field m n k l : ℕ) (f g : ℕ → ℕ → ℕ) (s t : List ℕ) → m ≡ k → n ≡ l → ((h i : ℕ) → h < k → i < l → f h i ≡ g h i) → s ≡ t →
    fill_pairs field m n f s ≡ fill_pairs field k l g t
pairs-same field m n k l f g s t rows columns same e =
    ap (λ j. fill_pairs field j n f s) rows ∙ ap (λ j. fill_pairs field k j f s) columns ∙ fill_pairs-same field k l f g s same ∙ ap (fill_pairs field k l g) e

-- a number that is a word
low-is : (n m : ℕ) → n ≡ m → m ≤ 960000000 → low n ≡ m
low-is n m e most = mod-eq_of_lt (omega arith) ∙ e

-- rows and tables that say what the steps give from y
pub record Given (y : Inputs) (f : Figures) : Type 0 where
  pub share : Row y.holders f.shares (step5_share y)
  pub total : Row y.holders f.totals (step7_total y)
  pub hold : Row y.holders f.held (held y)
  pub granted : Pairs y.holders y.interties f.pre_ra (pre_ra_granted y)
  pub kept : Pairs y.holders y.interties f.new_use (new_use_granted y)
  pub remain : Row y.interties f.unassigned (unassigned y)

module _ (tables : Tables) (I H : ℕ) (v : Valid (inputs tables I H)) (f : Figures) (g : Given (inputs tables I H) f) where
  abbrev y : Inputs
  y = inputs tables I H

  -- E, P and N of a pair are words
  pair_small : (h i : ℕ) → h < H → i < I → y.existing h i + pre_ra_granted y h i + new_use_granted y h i ≤ 960000000
  unfolding held_on
  pair_small h i k l = omega (arith, held-on-most y v h i k l)

  figures-same : (s t : List ℕ) → s ≡ t → figures_written tables I H f s ≡ figure_words y t
  unfolding figure_words
  figures-same s t e =
      row_same 6 _ _ _ _ _ _ refl (λ h l. low-is _ _ (g.hold h l) (held-most y v h l))
      (row_same 5 _ _ _ _ _ _ refl (λ h l. low-is _ _ (g.total h l) (step7-total-most y v h l))
      (row_same 4 _ _ _ _ _ _ refl (λ h l. low-is _ _ (g.share h l) (share-most y v h l))
      (row_same 3 _ _ _ _ _ _ refl (λ h l. low-is (y.load_share h) _ refl (omega (arith, v.load-share-most h l)))
      (row_same 2 _ _ _ _ _ _ refl (λ i l. low-is (y.outside i) _ refl (omega (arith, limit-parts y v i l, v.limit-most i l)))
      (row_same 1 _ _ _ _ _ _ refl (λ i l. low-is (y.limit i) _ refl (omega (arith, v.limit-most i l))) e)))))

  reserved-same : (s t : List ℕ) → s ≡ t → reserved_written tables I H f s ≡ reserved_words y t
  unfolding reserved_words
  reserved-same s t e =
      pairs-same 71 _ _ _ _ _ _ _ _ refl refl (λ h i k l. low-is _ _ (g.kept h i k l) (omega (arith, pair_small h i k l)))
      (pairs-same 39 _ _ _ _ _ _ _ _ refl refl (λ h i k l. low-is _ _ (g.granted h i k l) (omega (arith, pair_small h i k l)))
      (pairs-same 7 _ _ _ _ _ _ _ _ refl refl (λ h i k l. low-is (y.existing h i) _ refl (omega (arith, pair_small h i k l))) e))

  stage-same : (s t : List ℕ) → s ≡ t → stage_written I H f s ≡ stage_words y t
  unfolding stage_words
  stage-same s t e =
      row_same 105 _ _ _ _ _ _ refl (λ h l. low-is _ _ (g.share h l) (share-most y v h l))
      (row_same 104 _ _ _ _ _ _ refl (λ i l. low-is _ _ (g.remain i l) (omega (arith, unassigned-most y v i l))) (rw e refl))

  cleared-same : (s t : List ℕ) → s ≡ t → pairs_cleared I H (rows_cleared H s) ≡ cleared_words y t
  unfolding cleared_words
  cleared-same s t e = rw e refl

  sizes-same : (s : List ℕ) → sizes_written I H s ≡ size_words y s
  unfolding size_words
  sizes-same s = refl

  pub opened-written : (s : List ℕ) → state_written tables I H f s ≡ opened_state y s
  unfolding opened_state
  opened-written s = cleared-same _ _ (stage-same _ _ (reserved-same _ _ (figures-same _ _ (sizes-same s))))
