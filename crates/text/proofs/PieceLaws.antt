-- Where the first separator stands, and the pieces of a text.
use Prim.Native.Nat.{ℕ, zero, suc, ◌+◌, ◌-◌, ◌≤◌, ◌<◌, zero-le}
use mathlib.Core.Path.{◌≡◌, refl, sym, ap, ◌∙◌}
use mathlib.Core.Bool.{Bool, true, false}
use mathlib.Core.Logic.{◌≢◌}
use mathlib.Core.List.{List, [], ◌∷◌}
use native.Mathlib.Numerals.{add-one}
use native.Mathlib.Omega.{arith}
use lib.Dec.{eqb, ltb, leb-suc-suc}
use lib.ListN.{length, take, drop, length-drop}
use lib.Seq.{take_all, length-take-le}
use borrow.Author.Tests.{eqb-true, eqb-false, eq-eqb, ne_eqb, lt-ltb, ltb-true, ltb-false}
use denote.Ref.{Bor}
use Rattle.std.specs.Prelude.{Option, Some, None}
use Rattle.std.specs.Option.{unwrap_or, option_map_or}
use Rattle.std.specs.Slice.{IsGetRangeResult}
use Rattle.std.specs.List.{position, position_or_len}
use Rattle.std.proofs.lemmas.List.Recursion.{is_position_or_len}
use Rattle.io.specs.Counts.{IsPrefixLen}
use Rattle.base.specs.Choice.{pick}
use Rattle.base.specs.Words.{at}
use Rattle.base.proofs.ChoiceLaws.{pick-by}
use Rattle.text.specs.Pieces.{before, joined, fields}

-- by cases of a test
pub by-test : {P : Type 0} (b : Bool) → (b ≡ true → P) → (b ≡ false → P) → P
by-test true t f = t refl
by-test false t f = f refl

-- at most the length
pub before-le : (separator : ℕ) (text : List ℕ) → before separator text ≤ length text
unfolding before
before-le separator [] = zero-le
before-le separator (byte ∷ text) =
    pick-by (λ (n : ℕ). n ≤ suc (length text)) (eqb byte separator) 0 (suc (before separator text))
    (λ _. zero-le)
    (λ _. omega (arith, before-le separator text))

-- by the first byte
pub before_here : (separator byte : ℕ) (text : List ℕ) → byte ≡ separator → before separator (byte ∷ text) ≡ 0
unfolding before
before_here separator byte text e = rw (eq-eqb byte separator e) refl

pub before-later : (separator byte : ℕ) (text : List ℕ) → byte ≢ separator → before separator (byte ∷ text) ≡ suc (before separator text)
unfolding before
before-later separator byte text other = rw (ne_eqb byte separator other) refl

pub before-none : (separator : ℕ) → before separator [] ≡ 0
unfolding before
before-none separator = refl

-- none of the bytes before it is the separator
pub before-other : (separator : ℕ) (text : List ℕ) (i : ℕ) → i < before separator text → at text i ≢ separator
before-other separator [] i h = absurd (omega (arith, before-none separator))
before-other separator (byte ∷ text) zero h =
    by-test (eqb byte separator)
    (λ e. absurd (omega (arith, before_here separator byte text (eqb-true byte separator e))))
    (λ e. eqb-false byte separator e)
before-other separator (byte ∷ text) (suc i) h =
    by-test (eqb byte separator)
    (λ e. absurd (omega (arith, before_here separator byte text (eqb-true byte separator e))))
    (λ e. before-other separator text i (omega (arith, before-later separator byte text (eqb-false byte separator e))))

-- and the byte after them is, where there is one
pub before_at : (separator : ℕ) (text : List ℕ) → before separator text < length text → at text (before separator text) ≡ separator
before_at separator [] h = absurd (omega (arith, before-none separator))
before_at separator (byte ∷ text) h =
    by-test (eqb byte separator)
    (λ e. rw (before_here separator byte text (eqb-true byte separator e)) (eqb-true byte separator e))
    (λ e.
    let later : before separator (byte ∷ text) ≡ suc (before separator text) =
    before-later separator byte text (eqb-false byte separator e) in
    rw later (before_at separator text (omega (arith, later))))

-- the library's search for the separator: the place that it finds, or the text's end
counted : (n : ℕ) (l : List ℕ) → n ≤ length l → IsPrefixLen n l
counted n l within = (within, sym (length-take-le n l within))

before-place : (separator : ℕ) (text : List ℕ) → before separator text ≡ position_or_len (λ byte. eqb byte separator) text
unfolding before
before-place separator text = is_position_or_len (before separator) (λ byte. eqb byte separator) refl (λ byte others. by-test (eqb byte separator) (λ e. rw e refl) (λ e. rw e (omega arith))) text

pub before_searched : (separator : ℕ) (text : List ℕ) (found : Option ℕ) → found ≡ position (λ byte. eqb byte separator) text →
    (unwrap_or found (length text) ≡ before separator text) × IsPrefixLen (unwrap_or found (length text)) text
before_searched separator text found is =
    let same : unwrap_or found (length text) ≡ before separator text = ap (λ o. unwrap_or o (length text)) is ∙ whole in
    (same, counted _ text (omega (arith, same, before-le separator text)))
  where
    whole : unwrap_or (position (λ byte. eqb byte separator) text) (length text) ≡ before separator text
    whole = rw (← before-place separator text)
        (by-test (ltb (before separator text) (length text))
        (λ e. rw e refl)
        (λ e. rw e (omega (arith, before-le separator text, ltb-false (before separator text) (length text) e))))

-- the first piece is what stands before the first separator; the others are the pieces of what stands after it
abbrev pub pieces_after : ℕ → List ℕ → List (List ℕ)
pieces_after separator text =
    pick (ltb (before separator text) (length text)) (fields separator (drop (suc (before separator text)) text)) []

pub fields-is : (separator : ℕ) (text : List ℕ) → fields separator text ≡ take (before separator text) text ∷ pieces_after separator text
unfolding before fields
fields-is separator [] = refl
fields-is separator (byte ∷ text) =
    by-test (eqb byte separator)
    (λ e. rw (e, lt-ltb 0 (suc (length text)) (omega arith)) refl)
    (λ e. rw (e, fields-is separator text, leb-suc-suc (suc (before separator text)) (length text)) refl)

-- what `piece_end` answers, from a place within the text and from one past it
abbrev pub Ends : (separator from : ℕ) (text : List ℕ) (end : ℕ) → Type 0
Ends separator from text end =
    (end ≡ from + before separator (drop from text)) × (from ≤ end) × (end ≤ from + (length text - from))

pub piece-within : (separator from size : ℕ) (text : List ℕ) → from ≤ length text →
    size ≡ before separator (take (length text - from) (drop from text)) → Ends separator from text (from + size)
piece-within separator from size text inside s =
    let is : size ≡ before separator (drop from text) =
    s ∙ ap (before separator) (take_all (length text - from) (drop from text) (omega (arith, length-drop from text))) in
    (ap (λ (k : ℕ). from + k) is, omega arith, omega (arith, before-le separator (drop from text), length-drop from text))

pub piece-past : (separator from : ℕ) (text : List ℕ) → length text < from → Ends separator from text from
piece-past separator from text past =
    let none : before separator (drop from text) ≤ 0 = omega (arith, before-le separator (drop from text), length-drop from text) in
    (omega arith, omega arith, omega arith)

-- the next piece before the others: what is left past its separator, where there is one
next : (separator end : ℕ) (text : List ℕ) (rest : Option (Bor (List ℕ))) → end ≡ before separator text → IsGetRangeResult text (end + 1) (length text) rest →
    fields separator text ≡ take end text ∷ option_map_or (λ r. fields separator r.now) rest []
next separator end text None e got =
    fields-is separator text
    ∙ by-test (ltb (before separator text) (length text))
    (λ t. let wrong : false ≡ true = got.1 (omega (arith, ltb-true (before separator text) (length text) t), omega arith) in cc)
    (λ f. rw (f, e) refl)
next separator end text (Some rest) e got =
    let after : rest.now ≡ drop (suc (before separator text)) text =
    got.0.2
    ∙ take_all (length text - (end + 1)) (drop (end + 1) text) (omega (arith, length-drop (end + 1) text))
    ∙ ap (λ (k : ℕ). drop k text) (add-one end ∙ ap suc e) in
    fields-is separator text
    ∙ by-test (ltb (before separator text) (length text))
    (λ t. rw (t, e, after) refl)
    (λ f. absurd (omega (arith, got.0.0, ltb-false (before separator text) (length text) f)))

pub next_piece : (separator end : ℕ) (left rest : Option (Bor (List ℕ))) (text : Bor (List ℕ)) → left ≡ Some text → end ≡ before separator text.now →
    IsGetRangeResult text.now (end + 1) (length text.now) rest →
    option_map_or (λ r. fields separator r.now) left [] ≡ take end text.now ∷ option_map_or (λ r. fields separator r.now) rest []
next_piece separator end left rest text is e got =
    ap (λ l. option_map_or (λ r. fields separator r.now) l []) is ∙ next separator end text.now rest e got

-- no more pieces than separators and one
length-joined : (b : Bool) (byte : ℕ) (pieces : List (List ℕ)) → length (joined b byte pieces) ≤ length pieces + 1
length-joined true byte pieces = omega arith
length-joined false byte [] = omega arith
length-joined false byte (piece ∷ pieces) = omega arith

pub length-fields : (separator : ℕ) (text : List ℕ) → length (fields separator text) ≤ length text + 1
unfolding fields
length-fields separator [] = omega arith
length-fields separator (byte ∷ text) = omega (arith, length-joined (eqb byte separator) byte (fields separator text), length-fields separator text)
