-- A row as a list of its words, and what a chain over it comes to.
use Rattle.std.proofs.Common.{◌≡◌, ℕ, ◌+◌, ◌-◌, ◌<◌, ◌≤◌, true, ◌&&◌, eqb, leb, List, [], ◌∷◌, length, refl, sym, ap, ◌∙◌, arith}
use Rattle.std.specs.List.{fold, list_all, sum}
use lib.Bits.{bit_or}
use mathlib.Core.Bool.{and_assoc, and-true}
use borrow.Rule.Slice.PartMut.{mid_of, mid_len}
use Rattle.base.specs.Sums.{sum_to, all_to}
use Rattle.base.specs.Words.{at, tab}
use Rattle.base.proofs.ListLaws.{fold_turns, all_places}
use Rattle.base.proofs.SumLaws.{sum_to-zero, sum_to-suc, sum_to-same, all_to-same}
use Rattle.base.proofs.TestLaws.{or-none}
use Rattle.base.proofs.VectorLaws.{at_mid}
use Rattle.base.proofs.WordLaws.{at-tab, tab-at, tab-same}

-- the words from a up to e
pub row_is : (s : List ℕ) (a e n : ℕ) → e ≡ a + n → e ≤ length s → mid_of a (e - a) s ≡ tab n (λ c. at s (a + c))
row_is s a e n end inside =
    let size : length (mid_of a (e - a) s) ≡ n = mid_len a e s inside ∙ (omega arith) in
    sym (tab-at (mid_of a (e - a) s))
    ∙ ap (λ k. tab k (at (mid_of a (e - a) s))) size
    ∙ tab-same n (at (mid_of a (e - a) s)) (λ c. at s (a + c)) (λ c l. at_mid a (e - a) s c (omega arith))

-- a test of each
pub all_within : (most : ℕ) (row : List ℕ) →
    fold (λ within word. within && leb word most) true row ≡ all_to (length row) (λ c. leb (at row c) most)
unfolding all_to
all_within most row = fold_turns (λ within word. within && leb word most) (λ i. all_to i (λ c. leb (at row c) most)) row (λ i l. refl)

-- whether each is 0, from their bits together
clear_from : (bits : ℕ) (row : List ℕ) → eqb (fold (λ bits word. bit_or bits word) bits row) 0 ≡ (eqb bits 0 && list_all (λ word. leb word 0) row)
clear_from bits [] = sym (and-true (eqb bits 0))
clear_from bits (word ∷ row) =
    clear_from (bit_or bits word) row
    ∙ ap (λ b. b && list_all (λ word. leb word 0) row) (or-none bits word)
    ∙ and_assoc (eqb bits 0) (leb word 0) (list_all (λ word. leb word 0) row)

pub all-clear : (row : List ℕ) → eqb (fold (λ bits word. bit_or bits word) 0 row) 0 ≡ all_to (length row) (λ c. leb (at row c) 0)
all-clear row = clear_from 0 row ∙ all_places (λ word. leb word 0) row

-- their sum
pub summed : (row : List ℕ) → sum row ≡ sum_to (length row) (at row)
summed row =
    ap (λ n. fold (λ sum word. sum + word) n row) (sym (sum_to-zero (at row)))
    ∙ fold_turns (λ sum word. sum + word) (λ i. sum_to i (at row)) row (λ i l. sym (sum_to-suc i (at row)))

-- what is said of the words of a row, of the state's
module _ (n : ℕ) (f : ℕ → ℕ) (row : List ℕ) (is : (length row ≡ n) × (row ≡ tab n f)) where
  word-is : (i : ℕ) → i < n → at row i ≡ f i
  word-is i l = ap (λ r. at r i) is.1 ∙ at-tab n f i l

  pub row-within : (most : ℕ) → all_to (length row) (λ c. leb (at row c) most) ≡ all_to n (λ c. leb (f c) most)
  row-within most =
      ap (λ k. all_to k (λ c. leb (at row c) most)) is.0
      ∙ all_to-same n _ _ (λ i l. ap (λ w. leb w most) (word-is i l))

  pub row-sum : sum_to (length row) (at row) ≡ sum_to n f
  row-sum = ap (λ k. sum_to k (at row)) is.0 ∙ sum_to-same n (at row) f word-is
