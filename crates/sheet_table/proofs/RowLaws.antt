-- How long the lines of a table are, and what writing them leaves.
use Prim.Native.Nat.{ℕ, zero, suc, ◌+◌, ◌*◌, ◌/◌, ◌%◌, ◌^◌, ◌≤◌, ◌<◌}
use mathlib.Core.Path.{◌≡◌, refl, sym, ap, ◌∙◌}
use mathlib.Core.Bool.{true, false, not, ◌&&◌}
use mathlib.Core.List.{List, [], ◌∷◌, ◌++◌, append_assoc, append-nil}
use native.Mathlib.Nat.{pow-suc}
use native.Mathlib.Numerals.{add-one}
use native.Mathlib.Omega.{arith}
use lib.Dec.{ltb, leb, eqb}
use lib.ListN.{length, length-append}
use borrow.Author.Tests.{eq-eqb, ltb-false}
use Rattle.base.specs.Words.{at}
use Rattle.base.proofs.ChoiceLaws.{pick-by}
use Rattle.text.specs.Decimal.{digit, decimal, decimal_to}
use Rattle.text.specs.Lines.{line_end, figure, figures_of, line_of, bounded_line}
use Rattle.text.proofs.DecimalLaws.{decimal-of}
use Rattle.text.proofs.LineLaws.{line-stands}
use Rattle.text.specs.Written.{appended}
use Rattle.text.proofs.PutLaws.{appended-fits}
use Rattle.std.specs.Fmt as Fmt
use Rattle.base.specs.Kind.{number_of}
use Rattle.base.specs.declared.kinds.Kind.{Kind}
use Rattle.base.specs.declared.kinds.Kind.TheVariants.{Limit, OutsideRight, LoadShare, ExistingContract, PreRaCommitment, NewUseCommitment}
use Rattle.sheet_keys.specs.Key.{kind_of, holder_of, intertie_of, rank_of, years_of}
use Rattle.sheet_records.specs.Sheet.{count, key_at, kw_at}
use Rattle.sheet_records.specs.Refusal.{bad_length}
use Rattle.sheet_records.proofs.RefusalLaws.{whole as whole-sheet}
use Rattle.sheet_records.proofs.ReadingLaws.{word_below}
use Rattle.sheet_table.specs.Kinds.{name, name_of}
use Rattle.sheet_table.proofs.KindLaws.{no_name}
use Rattle.sheet_table.specs.Fields.{comma}
use Rattle.sheet_table.specs.Table.{label_of, row_of, rows_of}

-- a number of so many digits
few-digits : (k j n : ℕ) → n < 10 ^ suc j → length (decimal_to k n) ≤ suc j
unfolding decimal_to
few-digits zero j n small = omega arith
few-digits (suc k) zero n small =
    pick-by (λ (t : List ℕ). length t ≤ 1) (ltb n 10) (digit n ∷ []) (decimal_to k (n / 10) ++ (digit (n % 10) ∷ []))
    (λ _. omega arith)
    (λ e. absurd (omega (arith, ltb-false n 10 e)))
few-digits (suc k) (suc j) n small =
    let step : 10 ^ suc (suc j) ≡ 10 ^ suc j * 10 = pow-suc 10 (suc j) in
    pick-by (λ (t : List ℕ). length t ≤ suc (suc j)) (ltb n 10) (digit n ∷ []) (decimal_to k (n / 10) ++ (digit (n % 10) ∷ []))
    (λ _. omega arith)
    (λ _. omega (arith, length-append (decimal_to k (n / 10)) (digit (n % 10) ∷ []), few-digits k j (n / 10) (omega arith)))

few-figure : (separator j n : ℕ) → n < 10 ^ suc j → length (figure separator n) ≤ suc (suc j)
unfolding figure
few-figure separator j n small = omega (arith, few-digits 19 j n small)

name-few : (kind : ℕ) → length (name_of kind) ≤ 8
unfolding name_of
name-few kind =
    let P : List ℕ → Type 0 = λ (t : List ℕ). length t ≤ 8 in
    pick-by P (eqb kind 1) _ _ (λ _. omega arith) (λ _.
    pick-by P (eqb kind 2) _ _ (λ _. omega arith) (λ _.
    pick-by P (eqb kind 3) _ _ (λ _. omega arith) (λ _.
    pick-by P (eqb kind 4) _ _ (λ _. omega arith) (λ _.
    pick-by P (eqb kind 5) _ _ (λ _. omega arith) (λ _.
    pick-by P (eqb kind 6) _ _ (λ _. omega arith) (λ _. omega arith))))))

pub label-few : (kind : ℕ) → kind < 16 → length (label_of kind) ≤ 8
unfolding label_of
label-few kind low =
    pick-by (λ (t : List ℕ). length t ≤ 8) (eqb (length (name_of kind)) 0) (decimal kind) (name_of kind)
    (λ _. omega (arith, few-digits 19 1 kind (omega arith)))
    (λ _. name-few kind)

-- a line with its figures' lengths
line-length : (label : List ℕ) (separator : ℕ) (numbers : List ℕ) → length (line_of label separator numbers) ≡ length label + length (figures_of separator numbers) + 1
unfolding line_of
line-length label separator numbers =
    omega (arith, length-append (label ++ figures_of separator numbers) (line_end ∷ []), length-append label (figures_of separator numbers))

figures-cons : (separator n : ℕ) (numbers : List ℕ) → length (figures_of separator (n ∷ numbers)) ≡ length (figure separator n) + length (figures_of separator numbers)
unfolding figures_of
figures-cons separator n numbers = length-append (figure separator n) (figures_of separator numbers)

figures-none : (separator : ℕ) → length (figures_of separator []) ≡ 0
unfolding figures_of
figures-none separator = refl

pub sizes-few : (I H : ℕ) → I ≤ 4_294_967_295 → H ≤ 4_294_967_295 → length (line_of (decimal I) comma (H ∷ [])) ≤ 22
sizes-few I H i h =
    omega (
      arith,
      line-length (decimal I) comma (H ∷ []),
      figures-cons comma H [],
      figures-none comma,
      few-digits 19 9 I (omega arith),
      few-figure comma 9 H (omega arith),
    )

five-figures : (separator a b c d e : ℕ) → length (figures_of separator (a ∷ b ∷ c ∷ d ∷ e ∷ [])) ≡
    length (figure separator a) + length (figure separator b) + length (figure separator c) + length (figure separator d) + length (figure separator e)
five-figures separator a b c d e =
    omega (
      arith,
      figures-cons separator a (b ∷ c ∷ d ∷ e ∷ []),
      figures-cons separator b (c ∷ d ∷ e ∷ []),
      figures-cons separator c (d ∷ e ∷ []),
      figures-cons separator d (e ∷ []),
      figures-cons separator e [],
      figures-none separator,
    )

pub row-few : (key kw : ℕ) → key ≤ 4_294_967_295 → kw ≤ 4_294_967_295 → length (row_of key kw) ≤ 34
unfolding row_of
row-few key kw k q =
    omega (
      arith,
      line-length (label_of (kind_of key)) comma (holder_of key ∷ intertie_of key ∷ rank_of key ∷ years_of key ∷ kw ∷ []),
      five-figures comma (holder_of key) (intertie_of key) (rank_of key) (years_of key) kw,
      label-few (kind_of key) (omega arith),
      few-figure comma 1 (holder_of key) (omega arith),
      few-figure comma 1 (intertie_of key) (omega arith),
      few-figure comma 2 (rank_of key) (omega arith),
      few-figure comma 2 (years_of key) (omega arith),
      few-figure comma 9 kw (omega arith),
    )

pub rows_few : (sheet : List ℕ) (k : ℕ) → ((i : ℕ) → at sheet i < 256) → length (rows_of sheet k) ≤ 34 * k
unfolding rows_of
rows_few sheet zero bytes = omega arith
rows_few sheet (suc k) bytes =
    omega (
      arith,
      length-append (rows_of sheet k) (row_of (key_at sheet k) (kw_at sheet k)),
      rows_few sheet k bytes,
      row-few (key_at sheet k) (kw_at sheet k) (word_below sheet _ bytes) (word_below sheet _ bytes),
    )

-- the first line, with the digits of I as its label
pub sizes-put : (I H : ℕ) (label l m : List ℕ) → label ≡ Fmt.decimal I → I ≤ 4_294_967_295 → m ≡ appended 34838 (bounded_line label comma (H ∷ [])) l
    → m ≡ appended 34838 (line_of (decimal I) comma (H ∷ [])) l
sizes-put I H label l m spelled i put =
    let same : label ≡ decimal I = spelled ∙ decimal-of I (omega arith) in
    put
    ∙ ap (λ (t : List ℕ). appended 34838 t l) (line-stands label comma (H ∷ []) (omega (arith, ap length same, few-digits 19 9 I (omega arith))) (omega arith))
    ∙ ap (λ (t : List ℕ). appended 34838 (line_of t comma (H ∷ [])) l) same

-- the label of a kind that has a name, and of one that has none
own-label : (kind : Kind) → name kind ≡ label_of (number_of kind)
unfolding label_of name_of
own-label Limit = refl
own-label OutsideRight = refl
own-label LoadShare = refl
own-label ExistingContract = refl
own-label PreRaCommitment = refl
own-label NewUseCommitment = refl

pub label-name : (kind : Kind) (n : ℕ) (label : List ℕ) → number_of kind ≡ n → label ≡ name kind → label ≡ label_of n
label-name kind n label e is = is ∙ own-label kind ∙ ap label_of e

pub label-number : (n : ℕ) (label : List ℕ) → not (leb 1 n && leb n 6) ≡ true → n ≤ 4_294_967_295 → label ≡ Fmt.decimal n → label ≡ label_of n
unfolding label_of
label-number n label other small spelled =
    spelled ∙ decimal-of n (omega arith) ∙ rw (eq-eqb (length (name_of n)) 0 (ap length (no_name n other))) refl

-- the line of a record, with its label and its figures
module _ (key kw kind h i r y q : ℕ) (label : List ℕ) (k : kind ≡ kind_of key) (same : label ≡ label_of kind)
    (eh : h ≡ holder_of key) (ei : i ≡ intertie_of key) (er : r ≡ rank_of key) (ey : y ≡ years_of key) (eq : q ≡ kw) where
  row_is : line_of label comma (h ∷ i ∷ r ∷ y ∷ q ∷ []) ≡ row_of key kw
  unfolding row_of
  row_is = rw (same, k, eh, ei, er, ey, eq) refl

  pub row_put : (l m : List ℕ) → m ≡ appended 34838 (bounded_line label comma (h ∷ i ∷ r ∷ y ∷ q ∷ [])) l → m ≡ appended 34838 (row_of key kw) l
  row_put l m put =
      put
      ∙ ap (λ (t : List ℕ). appended 34838 t l)
      (line-stands label comma (h ∷ i ∷ r ∷ y ∷ q ∷ []) (omega (arith, ap length same, label-few kind (omega arith))) (omega arith) ∙ row_is)

-- a loop that puts the rows of a sheet after the first line: before the first turn, a turn, and after the last
pub rows_none : (sheet : List ℕ) (k : ℕ) (l : List ℕ) → k ≡ 0 → l ≡ l ++ rows_of sheet k
unfolding rows_of
rows_none sheet k l none = rw none (sym (append-nil l))

pub rows-turn : (sheet : List ℕ) (k j key kw : ℕ) (start l m : List ℕ) → ((i : ℕ) → at sheet i < 256) → bad_length sheet ≡ false → k < count sheet →
    key ≡ key_at sheet k → kw ≡ kw_at sheet k → j ≡ k + 1 → length start ≤ 22 → l ≡ start ++ rows_of sheet k → m ≡ appended 34838 (row_of key kw) l →
    m ≡ start ++ rows_of sheet j
unfolding rows_of
rows-turn sheet k j key kw start l m bytes passes inside ek eq ej short before put =
    let row : List ℕ = row_of (key_at sheet k) (kw_at sheet k) in
    let is : row_of key kw ≡ row = rw (ek, eq) refl in
    let fits : length l + length row ≤ 34838 =
    omega (
      arith,
      ap length before,
      length-append start (rows_of sheet k),
      rows_few sheet k bytes,
      row-few (key_at sheet k) (kw_at sheet k) (word_below sheet _ bytes) (word_below sheet _ bytes),
      (whole-sheet sheet (count sheet) passes refl).few,
    ) in
    rw (ej, add-one k) (
    put
    ∙ ap (λ (t : List ℕ). appended 34838 t l) is
    ∙ appended-fits 34838 row l fits
    ∙ ap (λ (t : List ℕ). t ++ row) before
    ∙ append_assoc start (rows_of sheet k) row
    )

pub rows_all : (sheet : List ℕ) (k : ℕ) (start l : List ℕ) → k ≡ count sheet → l ≡ start ++ rows_of sheet k → l ≡ start ++ rows_of sheet (count sheet)
rows_all sheet k start l end put = rw end at put
