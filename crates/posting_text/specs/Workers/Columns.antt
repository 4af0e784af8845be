-- A posting's text by its rows of numbers, as the code writes it.
use Rattle.std.specs.Prelude.{ℕ, ◌+◌, List, [], ◌∷◌, ◌++◌, length, get_or, replicate}
use Rattle.base.specs.Words.{at, tab}
use Rattle.text.specs.Lines.{each}
use Rattle.state.specs.Layout.{place}
use Rattle.posting.specs.Rows.{limit_line, load_share_line, posting_numbers}
use Rattle.posting.specs.Post.{Posted, posted}
use Rattle.posting_text.specs.Text.{letter_t, letter_i, letter_h, line}

-- the most bytes of a line, and of a posting
abbrev pub long_bytes : ℕ
long_bytes = 149

abbrev pub text_bytes : ℕ
text_bytes = 12069

-- the most rows that have figures of one line
abbrev pub line_rows : ℕ
line_rows = 6

-- the figures of intertie or holder n in the first so many rows
abbrev pub figures_by : List (List ℕ) → ℕ → ℕ → List ℕ
figures_by rows count n = tab count (λ r. at (get_or rows r []) n)

-- its line: a letter, n, and its figure in each row
abbrev pub line_by : ℕ → List (List ℕ) → ℕ → List ℕ
line_by letter rows n = line letter (n ∷ figures_by rows (length rows) n)

module _ (l : List ℕ) where
  -- the same of so many rows of a posting, from one on
  abbrev pub by_rows : ℕ → ℕ → ℕ → ℕ → List ℕ
  by_rows letter first count n = line letter (n ∷ tab count (λ r. at l (place (first + r) n)))

  -- the line of intertie i, and that of holder h
  unfoldable pub intertie_by_rows : ℕ → List ℕ
  intertie_by_rows i = by_rows letter_i limit_line 6 i

  unfoldable pub holder_by_rows : ℕ → List ℕ
  holder_by_rows h = by_rows letter_h load_share_line 4 h

-- T, then the lines of I interties and of H holders
unfoldable pub lines_text : ℕ → ℕ → ℕ → List ℕ → List ℕ
lines_text I H total l = line letter_t (total ∷ []) ++ each I (intertie_by_rows l) ++ each H (holder_by_rows l)

-- the posting of a sheet into zeros
abbrev pub fresh : List ℕ → Posted
fresh sheet = posted sheet (replicate posting_numbers 0)
