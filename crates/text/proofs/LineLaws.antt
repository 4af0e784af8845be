-- How long a line is, and its figures one by one.
use Prim.Native.Nat.{ℕ, ◌+◌, ◌*◌, ◌≤◌, ◌<◌}
use mathlib.Core.Path.{◌≡◌, refl, sym, ap, ◌∙◌}
use mathlib.Core.Bool.{false}
use mathlib.Core.List.{List, [], ◌∷◌, ◌++◌, append-nil, append_assoc}
use native.Mathlib.Numerals.{add-one}
use native.Mathlib.Omega.{arith}
use lib.Dec.{leb}
use lib.ListN.{length, length-append, take}
use lib.Seq.{take-suc}
use borrow.Author.Tests.{le-leb, lt-leb}
use Rattle.base.specs.Words.{at}
use Rattle.base.proofs.ChoiceLaws.{and-false}
use Rattle.text.specs.Lines.{line_end, figure, figures_of, line_of, bounded_line}
use Rattle.text.proofs.DecimalLaws.{length-decimal}

pub length-figure : (separator n : ℕ) → length (figure separator n) ≤ 21
unfolding figure
length-figure separator n = omega (arith, length-decimal 19 n)

pub length-figures : (separator : ℕ) (numbers : List ℕ) → length (figures_of separator numbers) ≤ 21 * length numbers
unfolding figures_of
length-figures separator [] = omega arith
length-figures separator (n ∷ numbers) =
    omega (arith, length-append (figure separator n) (figures_of separator numbers), length-figure separator n, length-figures separator numbers)

pub length-line : (label : List ℕ) (separator : ℕ) (numbers : List ℕ) → length (line_of label separator numbers) ≤ length label + 21 * length numbers + 1
unfolding line_of
length-line label separator numbers =
    omega (
      arith,
      length-append (label ++ figures_of separator numbers) (line_end ∷ []),
      length-append label (figures_of separator numbers),
      length-figures separator numbers,
    )

-- figures after others
pub figures-append : (separator : ℕ) (a b : List ℕ) → figures_of separator (a ++ b) ≡ figures_of separator a ++ figures_of separator b
unfolding figures_of
figures-append separator [] b = refl
figures-append separator (n ∷ a) b = rw (figures-append separator a b) (sym (append_assoc (figure separator n) (figures_of separator a) (figures_of separator b)))

-- one figure more
pub figures-turn : (separator : ℕ) (numbers : List ℕ) (i : ℕ) → i < length numbers →
    figures_of separator (take (i + 1) numbers) ≡ figures_of separator (take i numbers) ++ figure separator (at numbers i)
unfolding figures_of
figures-turn separator numbers i inside =
    ap (figures_of separator) (ap (λ (k : ℕ). take k numbers) (add-one i) ∙ take-suc numbers i 0 inside)
    ∙ figures-append separator (take i numbers) (at numbers i ∷ [])
    ∙ ap (λ (t : List ℕ). figures_of separator (take i numbers) ++ t) (append-nil (figure separator (at numbers i)))

-- a line within its bounds, and one past them
module _ (label : List ℕ) (separator : ℕ) (numbers : List ℕ) where
  pub line-stands : length label ≤ 20 → length numbers ≤ 8 → bounded_line label separator numbers ≡ line_of label separator numbers
  unfolding bounded_line
  line-stands short few = rw (le-leb (length label) 20 short, le-leb (length numbers) 8 few) refl

  pub label-over : 20 < length label → bounded_line label separator numbers ≡ []
  unfolding bounded_line
  label-over long = rw (lt-leb (length label) 20 long) refl

  pub figures-over : 8 < length numbers → bounded_line label separator numbers ≡ []
  unfolding bounded_line
  figures-over many = rw (lt-leb (length numbers) 8 many, and-false (leb (length label) 20) false refl) refl
