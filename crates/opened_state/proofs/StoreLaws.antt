-- What a stored row or table leaves, where it fits.
use Prim.Native.Nat.{ℕ, ◌+◌, ◌-◌, ◌≤◌, ◌<◌}
use mathlib.Core.Path.{◌≡◌, sym, ap, ◌∙◌}
use mathlib.Core.List.{List}
use native.Mathlib.Nat.{le_of_eq}
use native.Mathlib.Omega.{arith}
use lib.ListN.{length, replicate, length-replicate, get_or-replicate}
use borrow.Rule.Slice.PartMut.{mid_of, mid_len}
use lib.Seq.{get_or-take, get_or-drop}
use Rattle.base.specs.Choice.{pick}
use Rattle.base.specs.Words.{at}
use Rattle.base.proofs.ChoiceLaws.{pick_true}
use Rattle.state_rows.specs.Rows.{fill_row, fill_pairs, fit_row, fit_pairs, cleared_pairs}
use Rattle.state_rows.proofs.RowLaws.{fill_row-same}
use Rattle.state_rows.proofs.FitLaws.{row_fits, pairs-fit, cleared-pairs}
use Rattle.opened_state.specs.Write.{low, row_low, pair_low}

pub stored_row : (s after values : List ℕ) (row n : ℕ) →
    after ≡ pick (fit_row (length s) row n (length values)) (fill_row row n (row_low values) s) s →
    length s ≡ 16000 → row < 333 → n ≤ 48 → n ≤ length values → after ≡ fill_row row n (row_low values) s
stored_row s after values row n e long whole narrow filled =
    e ∙ pick_true _ _ _ (row_fits (length s) row n (length values) (record { long = le_of_eq (sym long); whole = whole; narrow = narrow; filled = filled }))

-- a row of the sheet's kilowatts
pub stored-slots : (s after kw : List ℕ) (row n slot k : ℕ) →
    after ≡ pick (fit_row (length s) row n (length (mid_of slot k kw))) (fill_row row n (row_low (mid_of slot k kw)) s) s →
    length s ≡ 16000 → row < 333 → n ≤ 48 → slot + n ≤ 12481 → length kw ≡ 12481 → k ≡ length kw - slot →
    after ≡ fill_row row n (λ c. low (at kw (slot + c))) s
stored-slots s after kw row n slot k e long whole narrow inside size rest =
    stored_row s after (mid_of slot k kw) row n e long whole narrow (omega (arith, mid_len slot (length kw) kw (omega arith), ap (λ j. length (mid_of slot j kw)) rest))
    ∙ fill_row-same row n (row_low (mid_of slot k kw)) (λ c. low (at kw (slot + c))) s
    (λ c l. ap low (get_or-take k _ c 0 (omega arith) ∙ get_or-drop slot kw c 0))

pub stored-pairs : (s after values : List ℕ) (field m n : ℕ) →
    after ≡ pick (fit_pairs (length s) field m n (length values)) (fill_pairs field m n (pair_low values) s) s →
    length s ≡ 16000 → field ≤ 300 → m ≤ 32 → n ≤ 48 → 1536 ≤ length values → after ≡ fill_pairs field m n (pair_low values) s
stored-pairs s after values field m n e long below few narrow filled =
    e ∙ pick_true _ _ _ (pairs-fit (length s) field m n (length values) (record { long = le_of_eq (sym long); low = below; few = few; narrow = narrow; filled = filled }))

-- a row and a table of zeros
zero_word : (size c : ℕ) → c < size → at (replicate size 0) c ≡ 0
zero_word size c l = get_or-replicate size c 0 0 l

pub cleared-row : (s after : List ℕ) (row n : ℕ) →
    after ≡ pick (fit_row (length s) row n (length {A = ℕ} (replicate 48 0))) (fill_row row n (row_low (replicate 48 0)) s) s →
    length s ≡ 16000 → row < 333 → n ≤ 48 → after ≡ fill_row row n (λ c. 0) s
cleared-row s after row n e long whole narrow =
    stored_row s after (replicate 48 0) row n e long whole narrow (omega (arith, length-replicate {A = ℕ} 48 0))
    ∙ fill_row-same row n (row_low (replicate 48 0)) (λ c. 0) s (λ c l. ap low (zero_word 48 c (omega arith)))

-- a field of the pairs at 0
pub zeros : (s after : List ℕ) (field m n : ℕ) → after ≡ cleared_pairs field m n s → length s ≡ 16000 → field ≤ 300 → m ≤ 32 → n ≤ 48 →
    after ≡ fill_pairs field m n (λ h i. 0) s
zeros s after field m n e long low few narrow = cleared-pairs s after field m n e (le_of_eq (sym long)) low few narrow
