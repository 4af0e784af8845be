-- What is written to the 16,000 words of a state leaves those after them.
use Prim.Native.Nat.{ℕ, zero, suc, ◌+◌, ◌≤◌, ◌<◌}
use mathlib.Core.Path.{◌≡◌, refl, ap, ◌∙◌}
use mathlib.Core.List.{List, ◌++◌}
use native.Mathlib.Omega.{arith}
use lib.ListN.{length, set, length-set}
use Rattle.std.proofs.lemmas.List.{set-append_left}
use Rattle.sheet_reading.specs.declared.tables.Tables.{Tables}
use Rattle.state.specs.Layout.{place}
use Rattle.state_rows.specs.Rows.{fill_row, fill_pairs}
use Rattle.state_rows.proofs.RowLaws.{length-fill_row, length-fill_pairs}
use Rattle.opened_state.specs.declared.Figures.{Figures}
use Rattle.opened_state.specs.Write.{sizes_written, figures_written, reserved_written, stage_written, rows_cleared, pairs_cleared, state_written}

-- a change of a state that keeps its length, and the words past the first 16,000
pub record Front (f : List ℕ → List ℕ) : Type 0 where
  pub size : (s : List ℕ) → length (f s) ≡ length s
  pub rest : (s t : List ℕ) → 16000 ≤ length s → f (s ++ t) ≡ f s ++ t

-- one after the other
both : (f g : List ℕ → List ℕ) → Front f → Front g → Front (λ s. f (g s))
both f g p q =
    record {
      size = λ s. p.size (g s) ∙ q.size s;
      rest = λ s t l. ap f (q.rest s t l) ∙ p.rest (g s) t (omega (arith, q.size s));
    }

word-front : (at x : ℕ) → at < 16000 → Front (λ s. set s at x)
word-front at x l = record { size = λ s. length-set s at x; rest = λ s t long. set-append_left s t at x (omega arith) }

row-rest : (row n : ℕ) (f : ℕ → ℕ) (s t : List ℕ) → row < 333 → n ≤ 48 → 16000 ≤ length s → fill_row row n f (s ++ t) ≡ fill_row row n f s ++ t
unfolding fill_row
row-rest row zero f s t r most long = refl
row-rest row (suc n) f s t r most long =
    ap (λ (l : List ℕ). set l (place row n) (f n)) (row-rest row n f s t r (omega arith) long)
    ∙ set-append_left (fill_row row n f s) t (place row n) (f n) (omega (arith, length-fill_row row n f s))

row-front : (row n : ℕ) (f : ℕ → ℕ) → row < 333 → n ≤ 48 → Front (fill_row row n f)
row-front row n f r most = record { size = λ s. length-fill_row row n f s; rest = λ s t long. row-rest row n f s t r most long }

pairs-rest : (field m n : ℕ) (f : ℕ → ℕ → ℕ) (s t : List ℕ) → field + m ≤ 333 → n ≤ 48 → 16000 ≤ length s →
    fill_pairs field m n f (s ++ t) ≡ fill_pairs field m n f s ++ t
unfolding fill_pairs
pairs-rest field zero n f s t r most long = refl
pairs-rest field (suc m) n f s t r most long =
    ap (fill_row (field + m) n (f m)) (pairs-rest field m n f s t (omega arith) most long)
    ∙ row-rest (field + m) n (f m) (fill_pairs field m n f s) t (omega arith) most (omega (arith, length-fill_pairs field m n f s))

pairs-front : (field m n : ℕ) (f : ℕ → ℕ → ℕ) → field + m ≤ 333 → n ≤ 48 → Front (fill_pairs field m n f)
pairs-front field m n f r most =
    record { size = λ s. length-fill_pairs field m n f s; rest = λ s t long. pairs-rest field m n f s t r most long }

-- the whole opened state
module _ (tables : Tables) (I H : ℕ) (figures : Figures) (few : I ≤ 48) (small : H ≤ 32) where
  holder-row : (row : ℕ) (f : ℕ → ℕ) → row < 333 → Front (fill_row row H f)
  holder-row row f r = row-front row H f r (omega (arith, small))

  pair-rows : (field : ℕ) (f : ℕ → ℕ → ℕ) → field ≤ 301 → Front (fill_pairs field H I f)
  pair-rows field f l = pairs-front field H I f (omega (arith, small)) few

  sizes-front : Front (sizes_written I H)
  sizes-front = both _ _ (word-front _ H (omega arith)) (word-front _ I (omega arith))

  figures-front : Front (figures_written tables I H figures)
  figures-front =
      both _ _ (holder-row 6 _ (omega arith))
      (both _ _ (holder-row 5 _ (omega arith))
      (both _ _ (holder-row 4 _ (omega arith))
      (both _ _ (holder-row 3 _ (omega arith)) (both _ _ (row-front 2 I _ (omega arith) few) (row-front 1 I _ (omega arith) few)))))

  reserved-front : Front (reserved_written tables I H figures)
  reserved-front = both _ _ (pair-rows 71 _ (omega arith)) (both _ _ (pair-rows 39 _ (omega arith)) (pair-rows 7 _ (omega arith)))

  stage-front : Front (stage_written I H figures)
  stage-front =
      both _ _ (holder-row 105 _ (omega arith))
      (both _ _ (row-front 104 I _ (omega arith) few) (both _ _ (word-front _ 0 (omega arith)) (word-front _ _ (omega arith))))

  rows-front : Front (rows_cleared H)
  rows-front = both _ _ (holder-row 108 _ (omega arith)) (both _ _ (holder-row 107 _ (omega arith)) (holder-row 106 _ (omega arith)))

  pairs-cleared-front : Front (pairs_cleared I H)
  pairs-cleared-front =
      both _ _ (pair-rows 237 _ (omega arith))
      (both _ _ (pair-rows 205 _ (omega arith))
      (both _ _ (pair-rows 173 _ (omega arith)) (both _ _ (pair-rows 141 _ (omega arith)) (pair-rows 109 _ (omega arith)))))

  pub state-front : Front (state_written tables I H figures)
  state-front =
      both _ _ pairs-cleared-front
      (both _ _ rows-front (both _ _ stage-front (both _ _ reserved-front (both _ _ figures-front sizes-front))))
