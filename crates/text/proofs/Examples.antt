-- Texts read as numbers, cut into pieces, and a line.
use mathlib.Core.Path.{◌≡◌, refl}
use mathlib.Core.List.{[], ◌∷◌}
use lib.ListN.{replicate}
use Rattle.text.specs.Ascii.{ascii}
use Rattle.text.specs.Decimal.{decimal_to, all_digits, value, number_of}
use Rattle.text.specs.Lines.{blank, figure, figures_of, line_of, bounded_line}
use Rattle.text.specs.Pieces.{before, fields}
use Rattle.std.specs.Prelude.{Ok, Err}
use Rattle.text.specs.declared.reading.NumberError.TheVariants.{Over, Bad}

pub record Read : Type 0 where
  pub most : number_of (ascii "4294967295") ≡ Ok 4294967295
  pub over : number_of (ascii "4294967296") ≡ Err Over
  -- zeros in front count for nothing
  pub zeros : number_of (ascii "00000000000000000000012") ≡ Ok 12
  pub sign : number_of (ascii "-1") ≡ Err Bad
  pub empty : number_of [] ≡ Err Bad
  pub first : before blank (ascii "ab cd") ≡ 2
  pub pieces : fields blank (ascii "ab  cd ") ≡ ascii "ab" ∷ [] ∷ ascii "cd" ∷ [] ∷ []
  pub line : bounded_line (ascii "kW") blank (0 ∷ 18446744073709551615 ∷ []) ≡ ascii "kW 0 18446744073709551615\n"
  pub nine : bounded_line (ascii "kW") blank (replicate 9 0) ≡ []

pub texts : Read
unfolding decimal_to all_digits value number_of figure figures_of line_of bounded_line before fields
texts = record { most = refl; over = refl; zeros = refl; sign = refl; empty = refl; first = refl; pieces = refl; line = refl; nine = refl }
