-- What texts put after one another make.
use Prim.Native.Nat.{ℕ, ◌+◌, ◌-◌, ◌*◌, ◌^◌, ◌≤◌, ◌<◌}
use mathlib.Core.Path.{◌≡◌, refl, sym, ap, ◌∙◌}
use mathlib.Core.Bool.{true, false}
use mathlib.Core.List.{List, [], ◌∷◌, ◌++◌, append_assoc, append-nil}
use native.Mathlib.Decide.{dec_lt}
use native.Mathlib.Omega.{arith}
use lib.ListN.{length, length-append, take}
use lib.Seq.{length-take-le}
use lib.Dec.{leb}
use borrow.Author.Tests.{le-leb, lt-leb}
use Rattle.std.specs.Prelude.{◌↔◌, Result, Ok, Err, IsOk, OnOk, OnErr}
use Rattle.std.specs.Fmt as Fmt
use Rattle.base.specs.Words.{at}
use Rattle.base.proofs.ChoiceLaws.{pick-by}
use Rattle.text.specs.Written.{written, PutWithin, appended}
use Rattle.text.specs.Decimal.{decimal}
use Rattle.text.specs.Lines.{line_end, figure, figures_of, line_of, bounded_line}
use Rattle.text.proofs.DecimalLaws.{decimal-of}
use Rattle.text.proofs.LineLaws.{length-figure, length-figures, figures-turn, line-stands}

-- a text that there is room for, and one that there is none for
pub appended-fits : (room : ℕ) (text l : List ℕ) → length l + length text ≤ room → appended room text l ≡ l ++ text
unfolding appended
appended-fits room text l fit = rw (le-leb (length l + length text) room fit) refl

pub appended-over : (room : ℕ) (text l : List ℕ) → room < length l + length text → appended room text l ≡ l
unfolding appended
appended-over room text l over = rw (lt-leb (length l + length text) room over) refl

-- what trying to put a text after another leaves
pub appended-tried : {E : Type 0} (r : Result (Unit {0}) E) (room : ℕ) (text l m : List ℕ) →
    IsOk r ↔ (length l + length text ≤ room) → OnOk r (m ≡ l ++ text) → OnErr r (m ≡ l) → m ≡ appended room text l
appended-tried (Ok x) room text l m variant ok err = ok ∙ sym (appended-fits room text l (variant.0 refl))
appended-tried (Err e) room text l m variant ok err =
    elim (dec_lt room (length l + length text)) [
      | yes over ↦ err ∙ sym (appended-over room text l over)
      | no fits ↦ let wrong : false ≡ true = variant.1 (omega arith) in cc
    ]

-- a separator, then digits
pub figure_put : (separator number room : ℕ) (digits l m n : List ℕ) → number < 2 ^ 64 → digits ≡ Fmt.decimal number →
    length digits < room - length l → m ≡ l ++ (separator ∷ []) → n ≡ appended room digits m → n ≡ appended room (figure separator number) l
unfolding figure
figure_put separator number room digits l m n small is fit first second =
    let same : digits ≡ decimal number = is ∙ decimal-of number small in
    let whole : n ≡ m ++ digits = second ∙ appended-fits room digits m (omega (arith, ap length first, length-append l (separator ∷ []))) in
    let text : (l ++ (separator ∷ [])) ++ digits ≡ l ++ (separator ∷ digits) = append_assoc l (separator ∷ []) digits in
    whole
    ∙ ap (λ (t : List ℕ). t ++ digits) first
    ∙ text
    ∙ ap (λ (t : List ℕ). l ++ (separator ∷ t)) same
    ∙ sym (appended-fits room (separator ∷ decimal number) l (omega (arith, ap length same)))

pub figure_over : (separator number room : ℕ) (digits l : List ℕ) → number < 2 ^ 64 → digits ≡ Fmt.decimal number →
    room - length l ≤ length digits → length l ≤ room → l ≡ appended room (figure separator number) l
unfolding figure
figure_over separator number room digits l small is over within =
    let same : digits ≡ decimal number = is ∙ decimal-of number small in
    sym (appended-over room (separator ∷ decimal number) l (omega (arith, ap length same)))

-- a loop that puts figures into a line, which has room for them: before the first turn, and a turn
pub figures-none : (separator : ℕ) (l : List ℕ) → l ≡ l ++ figures_of separator []
unfolding figures_of
figures-none separator l = sym (append-nil l)

pub figures-next : (separator i : ℕ) (figures l m n : List ℕ) → i < length figures → length l + 21 * length figures ≤ 189 →
    m ≡ l ++ figures_of separator (take i figures) → n ≡ appended 189 (figure separator (at figures i)) m →
    n ≡ l ++ figures_of separator (take (i + 1) figures)
figures-next separator i figures l m n inside fit before turn =
    let some : List ℕ = figures_of separator (take i figures) in
    let next : List ℕ = figure separator (at figures i) in
    let fits : length m + length next ≤ 189 =
    omega (
      arith,
      ap length before,
      length-append l some,
      length-figures separator (take i figures),
      length-take-le i figures,
      length-figure separator (at figures i),
    ) in
    turn
    ∙ appended-fits 189 next m fits
    ∙ ap (λ (t : List ℕ). t ++ next) before
    ∙ append_assoc l some next
    ∙ ap (λ (t : List ℕ). l ++ t) (sym (figures-turn separator figures i inside))

-- the parts of a line, put into one that is empty
module _ (label : List ℕ) (separator : ℕ) (figures l m n : List ℕ) (short : length label ≤ 20) (few : length figures ≤ 8) (empty : l ≡ [])
    (first : m ≡ appended 189 label l) where
  pub label-put : m ≡ label
  label-put = first ∙ appended-fits 189 label l (omega (arith, ap length empty)) ∙ ap (λ (t : List ℕ). t ++ label) empty

  pub label-room : length m + 21 * length figures ≤ 189
  label-room = omega (arith, ap length label-put)

  module _ (second : n ≡ m ++ figures_of separator figures) where
    pub figures-room : length n < 189
    figures-room = omega (arith, ap length second, ap length label-put, length-append m (figures_of separator figures), length-figures separator figures)

    pub line-put : (whole : List ℕ) → whole ≡ n ++ (line_end ∷ []) → whole ≡ bounded_line label separator figures
    unfolding line_of
    line-put whole third =
        third
        ∙ ap (λ (t : List ℕ). t ++ (line_end ∷ [])) second
        ∙ ap (λ (t : List ℕ). (t ++ figures_of separator figures) ++ (line_end ∷ [])) label-put
        ∙ sym (line-stands label separator figures short few)

-- no text
pub appended-nothing : (room : ℕ) (l : List ℕ) → l ≡ appended room [] l
unfolding appended
appended-nothing room l = pick-by (λ (m : List ℕ). l ≡ m) (leb (length l + 0) room) (l ++ []) l (λ _. sym (append-nil l)) (λ _. refl)

-- a text from a place on, and the place after it
abbrev pub Put : ℕ → List ℕ → ℕ → List ℕ → List ℕ → Type 0
Put place text next l m = (next ≡ place + length text) × (m ≡ written place text l)

-- the same in bytes that are lent: a text that there is room for, and one that there is none for
pub put-fits : (place next : ℕ) (text l m : List ℕ) → place + length text ≤ length l → PutWithin place text next l m →
    Put place text next l m
put-fits place next text l m fit p = rw (le-leb (place + length text) (length l) fit) at p

pub fits-put : (place next : ℕ) (text l m : List ℕ) → place + length text ≤ length l → Put place text next l m →
    PutWithin place text next l m
fits-put place next text l m fit p = rw (le-leb (place + length text) (length l) fit) p

pub no_room : (place : ℕ) (text l : List ℕ) → length l < place + length text → PutWithin place text place l l
no_room place text l over = rw (lt-leb (place + length text) (length l) over) (refl, refl)
