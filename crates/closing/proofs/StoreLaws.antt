-- What a row that is stored and a field that is raised leave, where they fit and their numbers are words.
use Prim.Native.Nat.{ℕ, ◌+◌, ◌*◌, ◌%◌, ◌≤◌, ◌<◌}
use mathlib.Core.Path.{◌≡◌, ap, ◌∙◌}
use mathlib.Core.List.{List}
use native.Mathlib.Nat.{mod-eq_of_lt}
use native.Mathlib.Omega.{arith}
use lib.ListN.{length}
use Rattle.base.specs.Choice.{pick}
use Rattle.base.specs.Words.{at}
use Rattle.base.proofs.ChoiceLaws.{pick_true}
use Rattle.intertie_shares.specs.Pairs.{at_pair}
use Rattle.state.specs.Layout.{place}
use Rattle.state_rows.specs.Rows.{fill_row, fill_pairs, fit_row, fit_pairs}
use Rattle.state_rows.proofs.RowLaws.{fill_row-same, fill_pairs-same}
use Rattle.state_rows.proofs.FitLaws.{row_fits, pairs-fit}

pub stored_row : (s after values : List ℕ) (row n : ℕ) (f : ℕ → ℕ) →
    after ≡ pick (fit_row (length s) row n (length values)) (fill_row row n (λ c. at values c % 4294967296) s) s →
    16000 ≤ length s → row < 333 → n ≤ 48 → n ≤ length values →
    ((c : ℕ) → c < n → at values c ≡ f c) → ((c : ℕ) → c < n → f c ≤ 960000000) → after ≡ fill_row row n f s
stored_row s after values row n f e long whole narrow filled is small =
    e ∙ pick_true _ _ _ (row_fits (length s) row n (length values) (record { long = long; whole = whole; narrow = narrow; filled = filled }))
    ∙ fill_row-same row n (λ c. at values c % 4294967296) f s (λ c l. mod-eq_of_lt (omega (arith, is c l, small c l)) ∙ is c l)

-- a field that is raised by a table
pub raised-pairs : (s after values : List ℕ) (field m n : ℕ) (f : ℕ → ℕ → ℕ) →
    after ≡ pick (fit_pairs (length s) field m n (length values)) (fill_pairs field m n (λ h i. (at s (place (field + h) i) + at values (48 * h + i) % 4294967296) % 4294967296) s) s →
    16000 ≤ length s → field ≤ 300 → m ≤ 32 → n ≤ 48 → 1536 ≤ length values →
    ((h i : ℕ) → h < m → i < n → at s (place (field + h) i) + at_pair values h i ≡ f h i) → ((h i : ℕ) → h < m → i < n → f h i ≤ 960000000) → after ≡ fill_pairs field m n f s
raised-pairs s after values field m n f e long low few narrow filled is small =
    e ∙ pick_true _ _ _ (pairs-fit (length s) field m n (length values) (record { long = long; low = low; few = few; narrow = narrow; filled = filled }))
    ∙ fill_pairs-same field m n (λ h i. (at s (place (field + h) i) + at values (48 * h + i) % 4294967296) % 4294967296) f s
    (λ h i k l.
    let value : at values (48 * h + i) % 4294967296 ≡ at values (48 * h + i) = mod-eq_of_lt (omega (arith, is h i k l, small h i k l)) in
    ap (λ v. (at s (place (field + h) i) + v) % 4294967296) value ∙ mod-eq_of_lt (omega (arith, is h i k l, small h i k l)) ∙ is h i k l)
