-- What the tests of a row and of a table of the pairs say.
use Prim.Native.Nat.{ℕ, ◌≤◌, ◌<◌}
use mathlib.Core.Path.{◌≡◌, ◌∙◌}
use mathlib.Core.List.{List}
use lib.ListN.{length}
use mathlib.Core.Bool.{true, ◌&&◌}
use lib.Dec.{leb, ltb}
use borrow.Author.Tests.{leb-true, ltb-true, le-leb, lt-ltb}
use Rattle.base.proofs.ChoiceLaws.{and_left, and_right, pick_true}
use Rattle.base.specs.Limits.{state_words}
use Rattle.state_rows.specs.Rows.{fill_pairs, fit_row, fit_field, fit_pairs, cleared_pairs}

pub record FitRow (words row n values : ℕ) : Type 0 where
  pub long : state_words ≤ words
  pub whole : row < 333
  pub narrow : n ≤ 48
  pub filled : n ≤ values

-- what the test of a row says where it holds
pub fits-row : (words row n values : ℕ) → fit_row words row n values ≡ true → FitRow words row n values
fits-row words row n values e =
    let e₃ = and_left (leb state_words words && ltb row 333 && leb n 48) (leb n values) e in
    let e₂ = and_left (leb state_words words && ltb row 333) (leb n 48) e₃ in
    record {
      long = leb-true state_words words (and_left (leb state_words words) (ltb row 333) e₂);
      whole = ltb-true row 333 (and_right (leb state_words words) (ltb row 333) e₂);
      narrow = leb-true n 48 (and_right (leb state_words words && ltb row 333) (leb n 48) e₃);
      filled = leb-true n values (and_right (leb state_words words && ltb row 333 && leb n 48) (leb n values) e);
    }

pub row_fits : (words row n values : ℕ) → FitRow words row n values → fit_row words row n values ≡ true
row_fits words row n values f =
    rw (le-leb state_words words f.long, lt-ltb row 333 f.whole, le-leb n 48 f.narrow, le-leb n values f.filled)

pub record FitField (words field m n : ℕ) : Type 0 where
  pub long : state_words ≤ words
  pub low : field ≤ 300
  pub few : m ≤ 32
  pub narrow : n ≤ 48

-- what the test of a field says where it holds
pub fits-field : (words field m n : ℕ) → fit_field words field m n ≡ true → FitField words field m n
fits-field words field m n e =
    let e₃ = and_left (leb state_words words && leb field 300 && leb m 32) (leb n 48) e in
    let e₂ = and_left (leb state_words words && leb field 300) (leb m 32) e₃ in
    record {
      long = leb-true state_words words (and_left (leb state_words words) (leb field 300) e₂);
      low = leb-true field 300 (and_right (leb state_words words) (leb field 300) e₂);
      few = leb-true m 32 (and_right (leb state_words words && leb field 300) (leb m 32) e₃);
      narrow = leb-true n 48 (and_right (leb state_words words && leb field 300 && leb m 32) (leb n 48) e);
    }

pub field_fits : (words field m n : ℕ) → FitField words field m n → fit_field words field m n ≡ true
field_fits words field m n f =
    rw (
      le-leb state_words words f.long,
      le-leb field 300 f.low,
      le-leb m 32 f.few,
      le-leb n 48 f.narrow,
    )

pub record FitPairs (words field m n values : ℕ) : Type 0 where
  pub long : state_words ≤ words
  pub low : field ≤ 300
  pub few : m ≤ 32
  pub narrow : n ≤ 48
  pub filled : 1536 ≤ values

-- what the test of a table of the pairs says where it holds
pub fits-pairs : (words field m n values : ℕ) → fit_pairs words field m n values ≡ true → FitPairs words field m n values
fits-pairs words field m n values e =
    let f = fits-field words field m n (and_left (fit_field words field m n) (leb 1536 values) e) in
    record {
      long = f.long;
      low = f.low;
      few = f.few;
      narrow = f.narrow;
      filled = leb-true 1536 values (and_right (fit_field words field m n) (leb 1536 values) e);
    }

pub pairs-fit : (words field m n values : ℕ) → FitPairs words field m n values → fit_pairs words field m n values ≡ true
pairs-fit words field m n values f =
    let inside : FitField words field m n = record { long = f.long; low = f.low; few = f.few; narrow = f.narrow } in
    rw (field_fits words field m n inside, le-leb 1536 values f.filled)

-- a field that fits is cleared
pub cleared-pairs : (s after : List ℕ) (field m n : ℕ) → after ≡ cleared_pairs field m n s →
    state_words ≤ length s → field ≤ 300 → m ≤ 32 → n ≤ 48 → after ≡ fill_pairs field m n (λ h i. 0) s
cleared-pairs s after field m n e long low few narrow =
    e ∙ pick_true _ _ _ (field_fits (length s) field m n (record { long = long; low = low; few = few; narrow = narrow }))
