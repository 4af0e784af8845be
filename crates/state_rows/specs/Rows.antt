-- Whole rows of a state, written at once.
use Rattle.std.specs.Prelude.{ℕ, zero, suc, ◌+◌, ◌%◌, List, Bool, ◌&&◌, leb, ltb, length, set}
use Rattle.base.specs.Choice.{pick}
use Rattle.base.specs.Limits.{most_interties, most_holders, most_pairs, state_words}
use Rattle.base.specs.Words.{at}
use Rattle.state.specs.Layout.{row_words, place, last_row, whole_rows}

-- s with f c at column c of a row, for each c below n
unfoldable pub fill_row : ℕ → ℕ → (ℕ → ℕ) → List ℕ → List ℕ
fill_row row zero f s = s
fill_row row (suc n) f s = set (fill_row row n f s) (place row n) (f n)

-- s with f h i at holder h and intertie i of the field of pairs that starts at a row, for each h below m and i below n
unfoldable pub fill_pairs : ℕ → ℕ → ℕ → (ℕ → ℕ → ℕ) → List ℕ → List ℕ
fill_pairs field zero n f s = s
fill_pairs field (suc m) n f s = fill_row (field + m) n (f m) (fill_pairs field m n f s)

-- the low 32 bits of a number
abbrev pub low32 : ℕ → ℕ
low32 n = n % 4294967296

-- whether a row of n values fits: a state of so many words, a row that it has whole, at most 48 columns, and as many values
abbrev pub fit_row : ℕ → ℕ → ℕ → ℕ → Bool
fit_row words row n values = leb state_words words && ltb row whole_rows && leb n row_words && leb n values

-- whether a field of the pairs fits: a state of so many words, rows that it has whole, at most 32 holders and 48 interties
abbrev pub fit_field : ℕ → ℕ → ℕ → ℕ → Bool
fit_field words field m n = leb state_words words && leb field last_row && leb m most_holders && leb n most_interties

-- whether a table of the pairs fits: 48 values for each of 32 holders
abbrev pub fit_pairs : ℕ → ℕ → ℕ → ℕ → ℕ → Bool
fit_pairs words field m n values = fit_field words field m n && leb most_pairs values

-- What the calls leave of a state s; what does not fit leaves it as it was.

-- values over the first n columns of a row
abbrev pub stored_row : ℕ → ℕ → List ℕ → List ℕ → List ℕ
stored_row row n values s = pick (fit_row (length s) row n (length values)) (fill_row row n (λ c. low32 (at values c)) s) s

-- a table of the pairs, 48 values a holder, in the field that starts at a row
abbrev pub stored_pairs : ℕ → ℕ → ℕ → List ℕ → List ℕ → List ℕ
stored_pairs field m n table s =
    pick (fit_pairs (length s) field m n (length table)) (fill_pairs field m n (λ h i. low32 (at table (place h i))) s) s

-- the field that starts at a row raised by a table of the pairs, in 32 bits
abbrev pub raised_pairs : ℕ → ℕ → ℕ → List ℕ → List ℕ → List ℕ
raised_pairs field m n table s =
    pick (fit_pairs (length s) field m n (length table))
    (fill_pairs field m n (λ h i. low32 (at s (place (field + h) i) + low32 (at table (place h i)))) s)
    s

-- the pairs of the field that starts at a row at 0
abbrev pub cleared_pairs : ℕ → ℕ → ℕ → List ℕ → List ℕ
cleared_pairs field m n s = pick (fit_field (length s) field m n) (fill_pairs field m n (λ h i. 0) s) s
