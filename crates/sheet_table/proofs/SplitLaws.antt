-- Texts without a separator, and a line cut at its commas.
use Prim.Native.Nat.{ℕ, zero, suc, ◌-◌, ◌≤◌, ◌<◌}
use mathlib.Core.Path.{◌≡◌, refl, ap, ◌∙◌}
use mathlib.Core.Bool.{Bool, true, ◌&&◌}
use mathlib.Core.Logic.{◌≢◌}
use mathlib.Core.List.{List, [], ◌∷◌, ◌++◌, map, append_assoc, append-nil}
use native.Mathlib.Omega.{arith}
use lib.Dec.{eqb, leb}
use lib.ListN.{length}
use borrow.Author.Tests.{eq-eqb, ne_eqb, leb-true}
use Rattle.base.specs.Words.{at}
use Rattle.base.proofs.ChoiceLaws.{and_left, and_right, pick-by}
use Rattle.text.specs.Pieces.{fields}
use Rattle.text.specs.Decimal.{is_digit, all_digits, decimal}
use Rattle.text.specs.Lines.{line_end, figure, figures_of, line_of}
use Rattle.text.proofs.ReadLaws.{digits_decimal}
use Rattle.sheet_table.specs.Kinds.{name_of}
use Rattle.sheet_table.specs.Fields.{comma}
use Rattle.sheet_table.specs.Lines.{bare}
use Rattle.sheet_table.specs.Table.{label_of}

-- no byte of a text is the separator
abbrev pub Without : ℕ → List ℕ → Type 0
Without separator [] = 0 ≤ separator
Without separator (byte ∷ text) = (byte ≢ separator) × Without separator text

pub without-append : (separator : ℕ) (t u : List ℕ) → Without separator t → Without separator u → Without separator (t ++ u)
without-append separator [] u a b = b
without-append separator (byte ∷ t) u a b = (a.0, without-append separator t u a.1 b)

without_at : (separator : ℕ) (t : List ℕ) (i : ℕ) → 0 ≢ separator → Without separator t → at t i ≢ separator
without_at separator [] i some w = some
without_at separator (byte ∷ t) zero some w = w.0
without_at separator (byte ∷ t) (suc i) some w = without_at separator t i some w.1

-- such a text is one piece
pub fields-one : (separator : ℕ) (t : List ℕ) → Without separator t → fields separator t ≡ t ∷ []
unfolding fields
fields-one separator [] w = refl
fields-one separator (byte ∷ t) w = rw (ne_eqb byte separator w.0, fields-one separator t w.1) refl

pub fields-cut : (separator : ℕ) (t u : List ℕ) → Without separator t → fields separator (t ++ separator ∷ u) ≡ t ∷ fields separator u
unfolding fields
fields-cut separator [] u w = rw (eq-eqb separator separator refl) refl
fields-cut separator (byte ∷ t) u w = rw (ne_eqb byte separator w.0, fields-cut separator t u w.1) refl

-- digits and names have no byte below 48
digits-without : (separator : ℕ) (t : List ℕ) → separator < 48 → all_digits t ≡ true → Without separator t
unfolding all_digits
digits-without separator [] low all = omega arith
digits-without separator (byte ∷ t) low all = (
  let d : 48 ≤ byte = leb-true 48 byte (and_left (leb 48 byte) (leb byte 57) (and_left (is_digit byte) (all_digits t) all)) in omega arith,
  digits-without separator t low (and_right (is_digit byte) (all_digits t) all),
)

pub decimal-without : (separator n : ℕ) → separator < 48 → Without separator (decimal n)
decimal-without separator n low = digits-without separator (decimal n) low (digits_decimal 19 n)

high : List ℕ → Bool
high [] = true
high (byte ∷ text) = leb 48 byte && high text

high-without : (separator : ℕ) (t : List ℕ) → separator < 48 → high t ≡ true → Without separator t
unfolding high
high-without separator [] low all = omega arith
high-without separator (byte ∷ t) low all = (
  let h : 48 ≤ byte = leb-true 48 byte (and_left (leb 48 byte) (high t) all) in omega arith,
  high-without separator t low (and_right (leb 48 byte) (high t) all),
)

name-high : (kind : ℕ) → high (name_of kind) ≡ true
unfolding name_of high
name-high kind =
    let P : List ℕ → Type 0 = λ (t : List ℕ). high t ≡ true in
    pick-by P (eqb kind 1) _ _ (λ _. refl) (λ _.
    pick-by P (eqb kind 2) _ _ (λ _. refl) (λ _.
    pick-by P (eqb kind 3) _ _ (λ _. refl) (λ _.
    pick-by P (eqb kind 4) _ _ (λ _. refl) (λ _.
    pick-by P (eqb kind 5) _ _ (λ _. refl) (λ _.
    pick-by P (eqb kind 6) _ _ (λ _. refl) (λ _. refl))))))

pub label-without : (separator kind : ℕ) → separator < 48 → Without separator (label_of kind)
unfolding label_of
label-without separator kind low =
    pick-by (Without separator) (eqb (length (name_of kind)) 0) (decimal kind) (name_of kind)
    (λ _. decimal-without separator kind low)
    (λ _. high-without separator (name_of kind) low (name-high kind))

-- the figures of a line: no byte is a line end or a carriage return, and each is a field
figures-without : (separator : ℕ) (numbers : List ℕ) → separator < 44 → Without separator (figures_of comma numbers)
unfolding figures_of figure
figures-without separator [] low = omega arith
figures-without separator (n ∷ numbers) low =
    without-append separator (comma ∷ decimal n) (figures_of comma numbers) (omega arith, decimal-without separator n (omega arith)) (figures-without separator numbers low)

pub figures-fields : (t numbers : List ℕ) → Without comma t → fields comma (t ++ figures_of comma numbers) ≡ t ∷ map decimal numbers
unfolding figures_of figure
figures-fields t [] w = ap (fields comma) (append-nil t) ∙ fields-one comma t w
figures-fields t (n ∷ numbers) w =
    fields-cut comma t (decimal n ++ figures_of comma numbers) w
    ∙ ap (λ (l : List (List ℕ)). t ∷ l) (figures-fields (decimal n) numbers (decimal-without comma n (omega arith)))

-- a line without its end
abbrev pub body : List ℕ → List ℕ → List ℕ
body label numbers = label ++ figures_of comma numbers

module _ (label numbers : List ℕ) (w : (separator : ℕ) → separator < 48 → Without separator label) where
  body-without : (separator : ℕ) → separator < 44 → Without separator (body label numbers)
  body-without separator low = without-append separator label (figures_of comma numbers) (w separator (omega arith)) (figures-without separator numbers low)

  pub body-bare : bare (body label numbers) ≡ body label numbers
  body-bare =
      rw (ne_eqb (at (body label numbers) (length (body label numbers) - 1)) 13 (without_at 13 (body label numbers) (length (body label numbers) - 1) (omega arith) (body-without 13 (omega arith)))) refl

  pub body-fields : fields comma (body label numbers) ≡ label ∷ map decimal numbers
  body-fields = figures-fields label numbers (w comma (omega arith))

  pub line-cut : (u : List ℕ) → fields line_end (line_of label comma numbers ++ u) ≡ body label numbers ∷ fields line_end u
  unfolding line_of
  line-cut u =
      ap (fields line_end) (append_assoc (body label numbers) (line_end ∷ []) u)
      ∙ fields-cut line_end (body label numbers) u (body-without line_end (omega arith))
