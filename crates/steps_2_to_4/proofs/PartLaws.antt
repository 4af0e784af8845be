-- A table of the pairs whose rows are written one by one, each lent as a part.
use Prim.Native.Nat.{ℕ, ◌+◌, ◌-◌, ◌*◌, ◌≤◌, ◌<◌}
use mathlib.Core.Path.{◌≡◌, sym, ap, ◌∙◌}
use mathlib.Core.List.{List}
use mathlib.Core.Logic.{⊎_elim}
use native.Mathlib.Numerals.{add-one}
use native.Mathlib.Omega.{arith}
use lib.ListN.{length}
use borrow.Rule.Slice.PartMut.{mid_of, put_mid, same_len_mid, mid_len}
use Rattle.base.specs.Words.{at, tab}
use Rattle.base.proofs.SumLaws.{below_suc}
use Rattle.base.proofs.WordLaws.{at-tab}
use Rattle.base.proofs.VectorLaws.{at_part, at-before-part, at_mid}
use Rattle.intertie_shares.specs.Pairs.{pair_at}
use Rattle.steps_2_to_4.specs.Workers.Vectors.{Pairs}

-- after m holders: the rows of the table are those of f
pub record Rows (f : ℕ → ℕ → ℕ) (holders : ℕ) (first table : List ℕ) (m : ℕ) : Type 0 where
  pub inside : m ≤ holders
  pub size : length table ≡ length first
  pub filled : Pairs m 48 table f

module _ (f : ℕ → ℕ → ℕ) (holders : ℕ) (first : List ℕ) where
  pub rows_next : (table part : List ℕ) (m a e : ℕ) → Rows f holders first table m → m < holders → a ≡ 48 * m → e ≡ a + 48 → 48 * holders ≤ length first →
      length part ≡ 48 → ((i : ℕ) → i < 48 → at part i ≡ f m i) → Rows f holders first (put_mid a (e - a) table part) (m + 1)
  rows_next table part m a e s l start end room size same =
      let inside : a ≤ length table = omega (arith, s.size) in
      record {
        inside = omega arith;
        size =
            same_len_mid a (e - a) table part (size ∙ sym (mid_len a e table (omega (arith, s.size)) ∙ (omega arith))) ∙ s.size;
        filled = λ h i k b.
            ⊎_elim
            (λ (last : h ≡ m).
            let here : pair_at h i ≡ a + i = omega arith in
            ap (at (put_mid a (e - a) table part)) here ∙ at_part a (e - a) table part i inside (omega arith)
            ∙ same i b ∙ ap (λ j. f j i) (sym last))
            (λ (before : h < m).
            at-before-part a (e - a) table part (pair_at h i) inside (omega arith) ∙ s.filled h i before b)
            (below_suc (rw (add-one m) at k));
      }

-- a row of differences between two parts of a list
pub part-row : (l last : List ℕ) (a b j k n : ℕ) → last ≡ tab n (λ c. at (mid_of a j l) c - at (mid_of b k l) c) → n ≡ 48 → 48 ≤ j → 48 ≤ k →
    (i : ℕ) → i < 48 → at last i ≡ at l (a + i) - at l (b + i)
part-row l last a b j k n e size p q i h =
    ap (λ m. at m i) e ∙ at-tab n _ i (omega arith)
    ∙ ap (λ x. x - at (mid_of b k l) i) (at_mid a j l i (omega arith))
    ∙ ap (λ x. at l (a + i) - x) (at_mid b k l i (omega arith))
