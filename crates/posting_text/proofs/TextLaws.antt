-- How long the lines are, and the figures of one.
use Rattle.base.proofs.Prelude.{ℕ, zero, suc, ◌+◌, ◌≤◌, ◌≡◌, refl, sym, ap, ◌∙◌, List, [], ◌∷◌, ◌++◌, arith, length, at, tab}
use Rattle.std.proofs.Common.{drop, length-take-le, get_or-drop, get_or-take}
use Rattle.std.specs.Simd.{first_chunks}
use lib.ListN.{get_or, length-drop}
use borrow.Rule.Slice.PartMut.{mid_of}
use Rattle.base.proofs.VectorLaws.{at-row, length-rows}
use Rattle.base.proofs.WordLaws.{length-tab, tab-same}
use Rattle.state.specs.Layout.{place}
use Rattle.text.specs.Written.{appended}
use Rattle.text.specs.Lines.{blank, line_of, bounded_line, each}
use Rattle.text.proofs.EachLaws.{each_same}
use Rattle.text.proofs.LineLaws.{length-line, line-stands}
use Rattle.posting_text.specs.Text.{line}
use Rattle.posting_text.specs.Workers.Columns.{figures_by, line_by, by_rows}

-- a line of one number
pub length-short : (letter n : ℕ) → length (line_of (letter ∷ []) blank (n ∷ [])) ≤ 23
length-short letter n = omega (arith, length-line (letter ∷ []) blank (n ∷ []))

-- one word more in a table
tab-next : (n : ℕ) (f : ℕ → ℕ) → tab (suc n) f ≡ tab n f ++ f n ∷ []
unfolding tab
tab-next zero f = refl
tab-next (suc n) f = ap (λ (l : List ℕ). f 0 ∷ l) (tab-next n (λ k. f (suc k)))

-- what a line says of intertie or holder n: n, and its figures in so many rows
module _ (rows : List (List ℕ)) where
  abbrev pub figures : ℕ → ℕ → List ℕ
  figures count n = n ∷ figures_by rows count n

  pub length-figures : (count n : ℕ) → length (figures count n) ≡ count + 1
  length-figures count n = omega (arith, length-tab count (λ r. at (get_or rows r []) n))

  -- one more
  pub figures-next : (n count figure : ℕ) (k m : List ℕ) → figure ≡ at (get_or rows count []) n → k ≡ figures count n → m ≡ k ++ figure ∷ [] →
      m ≡ figures (count + 1) n
  figures-next n count figure k m here before after =
      let more : count + 1 ≡ suc count = omega arith in
      after
      ∙ ap (λ (t : List ℕ). t ++ figure ∷ []) before
      ∙ ap (λ (x : ℕ). figures count n ++ x ∷ []) here
      ∙ sym (ap (λ (t : List ℕ). n ∷ t) (tab-next count (λ r. at (get_or rows r []) n)))
      ∙ ap (λ (c : ℕ). figures c n) (sym more)

  -- a line has at most six figures after its number, and `text` puts it
  pub rows-few : (letter : ℕ) → length rows ≤ 6 → (n : ℕ) → length (line_by letter rows n) ≤ 149
  rows-few letter few n = omega (arith, length-line (letter ∷ []) blank (figures (length rows) n), length-figures (length rows) n)

  pub one-put : (n letter count : ℕ) (numbers before after : List ℕ) → count ≡ length rows → length rows ≤ 6 → numbers ≡ figures count n →
      after ≡ appended 12069 (bounded_line (letter ∷ []) blank numbers) before → after ≡ appended 12069 (line_by letter rows n) before
  one-put n letter count numbers before after last few are put =
      put
      ∙ ap (λ (k : List ℕ). appended 12069 (bounded_line (letter ∷ []) blank k) before) (are ∙ ap (λ (r : ℕ). figures r n) last)
      ∙ ap (λ (t : List ℕ). appended 12069 t before)
      (line-stands (letter ∷ []) blank (figures (length rows) n) (omega arith) (omega (arith, length-figures (length rows) n)))

-- a line of so many rows of a posting
pub by-rows-few : (l : List ℕ) (letter first count n : ℕ) → count ≤ 6 → length (by_rows l letter first count n) ≤ 149
by-rows-few l letter first count n few =
    let figures = tab count (λ r. at l (place (first + r) n)) in
    omega (arith, length-line (letter ∷ []) blank (n ∷ figures), length-tab count (λ r. at l (place (first + r) n)))

-- the lines of so many rows of a posting, from one on
module _ (letter first count I k : ℕ) (l : List ℕ) (table : List (List ℕ)) (cut : table ≡ first_chunks 48 k l) (inside : first + count ≤ k) (few : I ≤ 48) where
  pub part-size : length (mid_of first count table) ≡ count
  part-size = length-take-le count (drop first table) (omega (arith, length-drop first table, ap length cut, length-rows 48 k l))

  pub part-lines : each I (line_by letter (mid_of first count table)) ≡ each I (by_rows l letter first count)
  part-lines =
      each_same I (line_by letter (mid_of first count table)) (by_rows l letter first count)
      (λ n b.
      ap (λ (c : ℕ). line letter (n ∷ figures_by (mid_of first count table) c n)) part-size
      ∙ ap (λ (t : List ℕ). line letter (n ∷ t))
      (tab-same count (λ r. at (get_or (mid_of first count table) r []) n) (λ r. at l (place (first + r) n))
      (λ r low.
      ap (λ (w : List ℕ). at w n) (get_or-take count (drop first table) r [] low ∙ get_or-drop first table r [] ∙ ap (λ (t : List (List ℕ)). get_or t (first + r) []) cut)
      ∙ at-row 48 k (first + r) n l (omega arith) (omega arith))))
