-- The fields of a line one by one.
use Prim.Native.Nat.{ℕ, zero, suc, ◌+◌, ◌≤◌, ◌<◌}
use mathlib.Core.Path.{◌≡◌, refl, sym, ap, ◌∙◌}
use mathlib.Core.List.{List, [], ◌∷◌, ◌++◌, append-nil, append_assoc}
use native.Mathlib.Numerals.{add-one}
use native.Mathlib.Omega.{arith}
use lib.Dec.{ltb}
use lib.ListN.{length, take, drop, get_or, set, drop_of_length-le}
use lib.Seq.{take_all, drop-cons, take-suc-set}
use borrow.Author.Tests.{ltb-false}
use denote.Ref.{Bor}
use Rattle.std.specs.Prelude.{Option, Some, None, Result, Ok, Err}
use Rattle.std.specs.Result.{result_unwrap_or}
use Rattle.std.specs.Option.{unwrap_or}
use Rattle.std.specs.Iterator.{YieldsFirstBy}
use Rattle.base.specs.Words.{at}
use Rattle.base.specs.Kind.{number_of as kind_number}
use Rattle.base.specs.declared.kinds.Kind.{Kind}
use Rattle.text.specs.Decimal.{number_of}
use Rattle.text.specs.Left.{pieces_left}
use Rattle.text.specs.declared.pieces.Pieces.{Pieces}
use Rattle.text.specs.declared.reading.NumberError.{NumberError}
use Rattle.text.specs.declared.reading.NumberError.TheVariants.{Over, Bad}
use Rattle.text.proofs.PieceLaws.{by-test}
use Rattle.sheet_table.specs.Kinds.{named}
use Rattle.sheet_table.specs.Fields.{within, kind_or, kind_in, flaw, with_number, numbers_in}
use Rattle.sheet_table.specs.declared.faults.Fault.{Fault}
use Rattle.sheet_table.specs.declared.faults.Fault.TheVariants.{WrongFields, TooLarge}
use Rattle.sheet_table.specs.declared.fields.Flaw.{Flaw}

-- the first piece, or an empty text, and the others
pub first-piece : (from past : Pieces) (found : Option (Bor (List ℕ))) (piece nothing : Bor (List ℕ)) → YieldsFirstBy (λ p. p.now) pieces_left from found past →
    piece ≡ unwrap_or found nothing → nothing.now ≡ [] → (piece.now ≡ get_or (pieces_left from) 0 []) × (pieces_left past ≡ drop 1 (pieces_left from))
first-piece from past None piece nothing step is empty =
    (ap (λ p. p.now) is ∙ empty ∙ sym (ap (λ l. get_or l 0 []) step.0), step.1 ∙ sym (ap (drop 1) step.0))
first-piece from past (Some first) piece nothing step is empty =
    (ap (λ p. p.now) is ∙ sym (ap (λ l. get_or l 0 []) step), sym (ap (drop 1) step))

-- a kind by its name, and by its number
pub kind-named : (field : List ℕ) (kind : Kind) (n : ℕ) → Some kind ≡ named field → n ≡ kind_number kind → Ok n ≡ kind_in field
unfolding kind_in
kind-named field kind n e is = ap Ok is ∙ ap (λ k. kind_or k (number_of field)) e

pub kind-numbered : (field : List ℕ) (r : Result ℕ NumberError) → None ≡ named field → r ≡ number_of field → r ≡ kind_in field
unfolding kind_in
kind-numbered field r e is = is ∙ ap (λ k. kind_or k (number_of field)) e

-- a number that is read is at most what it may be
pub within-most : (most n : ℕ) (number : Result ℕ NumberError) → Ok n ≡ within most number → n ≤ most
within-most most n (Ok m) e =
    by-test (ltb most m)
    (λ t. let wrong : Ok n ≡ Err TooLarge = e ∙ rw t refl in absurd (omega (arith, ap (λ r. result_unwrap_or r (suc n)) wrong)))
    (λ f.
    let same : Ok n ≡ Ok m = e ∙ rw f refl in
    omega (arith, ap (λ r. result_unwrap_or r 0) same, ltb-false most m f))
within-most most n (Err Over) e = absurd (omega (arith, ap (λ r. result_unwrap_or r (suc n)) e))
within-most most n (Err Bad) e = absurd (omega (arith, ap (λ r. result_unwrap_or r (suc n)) e))

-- numbers that were read, before those that a later reading gives
abbrev pub after : List ℕ → Result (List ℕ) Flaw → Result (List ℕ) Flaw
after front (Ok numbers) = Ok (front ++ numbers)
after front (Err first) = Err first

after-front : (front : List ℕ) (column n : ℕ) (later : Result (List ℕ) Flaw) → after front (with_number column (Ok n) later) ≡ after (front ++ (n ∷ [])) later
after-front front column n (Ok numbers) = ap Ok (sym (append_assoc front (n ∷ []) numbers))
after-front front column n (Err first) = refl

pub numbers_begin : (column : ℕ) (mosts values : List ℕ) (fields : List (List ℕ)) → numbers_in column mosts fields ≡ after (take 0 values) (numbers_in (column + 0) (drop 0 mosts) fields)
numbers_begin column mosts values fields =
    let all : column + 0 ≡ column = omega arith in
    ap (λ c. numbers_in c mosts fields) (sym all) ∙ same (numbers_in (column + 0) mosts fields)
  where
    same : (later : Result (List ℕ) Flaw) → later ≡ after (take 0 values) later
    same (Ok numbers) = refl
    same (Err first) = refl

-- the loop that reads them: what is left of the fields decides
module _ (column i : ℕ) (mosts values : List ℕ) (left : List (List ℕ)) (whole : Result (List ℕ) Flaw)
    (so_far : whole ≡ after (take i values) (numbers_in (column + i) (drop i mosts) left)) where
  pub numbers-lack : i < length mosts → left ≡ [] → Err (flaw (column + i) WrongFields) ≡ whole
  unfolding numbers_in
  numbers-lack inside none = sym (so_far ∙ rw (none, drop-cons mosts i 0 inside) refl)

  module _ (field : List ℕ) (others : List (List ℕ)) (are : left ≡ field ∷ others) where
    pub numbers-stop : i < length mosts → (fault : Fault) → Err fault ≡ within (at mosts i) (number_of field) → Err (flaw (column + i) fault) ≡ whole
    unfolding numbers_in
    numbers-stop inside fault bad = sym (so_far ∙ rw (are, drop-cons mosts i 0 inside, ← bad) refl)

    pub numbers-turn : i < length mosts → i < length values → (n : ℕ) → Ok n ≡ within (at mosts i) (number_of field) →
        whole ≡ after (take (i + 1) (set values i n)) (numbers_in (column + (i + 1)) (drop (i + 1) mosts) others)
    unfolding numbers_in
    numbers-turn inside room n good =
        let next : suc (column + i) ≡ column + (i + 1) = omega arith in
        so_far
        ∙ rw (are, drop-cons mosts i 0 inside, ← good) (after-front (take i values) (column + i) n (numbers_in (suc (column + i)) (drop (suc i) mosts) others))
        ∙ ap (λ front. after front (numbers_in (suc (column + i)) (drop (suc i) mosts) others)) (sym (ap (λ k. take k (set values i n)) (add-one i) ∙ take-suc-set values i n room))
        ∙ ap (λ k. after (take (i + 1) (set values i n)) (numbers_in k (drop (suc i) mosts) others)) next
        ∙ ap (λ k. after (take (i + 1) (set values i n)) (numbers_in (column + (i + 1)) (drop k mosts) others)) (sym (add-one i))

    numbers-over : length mosts ≤ i → Err (flaw (column + i) WrongFields) ≡ whole
    unfolding numbers_in
    numbers-over end = sym (so_far ∙ rw (are, drop_of_length-le mosts {i = i} end) refl)

    pub numbers-over-end : i ≡ length mosts → Err (flaw (column + length mosts) WrongFields) ≡ whole
    numbers-over-end end = ap (λ n. Err (flaw (column + n) WrongFields)) (sym end) ∙ numbers-over (omega (arith, end))

  pub numbers-end : length mosts ≤ i → length values ≡ length mosts → left ≡ [] → Ok values ≡ whole
  unfolding numbers_in
  numbers-end end size none =
      sym (so_far ∙ rw (none, drop_of_length-le mosts {i = i} end) (ap Ok (append-nil (take i values) ∙ take_all i values (omega arith))))

-- each is at most what it may be
pub numbers-within : (column : ℕ) (mosts values : List ℕ) (fields : List (List ℕ)) → Ok values ≡ numbers_in column mosts fields → (j : ℕ) → j < length mosts → at values j ≤ at mosts j
unfolding numbers_in
numbers-within column [] values fields e j h = absurd (omega arith)
numbers-within column (most ∷ mosts) values [] e j h = absurd (omega (arith, ap (λ r. length (result_unwrap_or r (0 ∷ values))) e))
numbers-within column (most ∷ mosts) values (field ∷ fields) e j h =
    go (within most (number_of field)) (numbers_in (suc column) mosts fields) refl refl (λ v is. numbers-within (suc column) mosts v fields is) e j h
  where
    go : (first : Result ℕ Fault) (later : Result (List ℕ) Flaw) → first ≡ within most (number_of field) → later ≡ numbers_in (suc column) mosts fields →
        ((v : List ℕ) → Ok v ≡ numbers_in (suc column) mosts fields → (k : ℕ) → k < length mosts → at v k ≤ at mosts k) →
        Ok values ≡ with_number column first later → (k : ℕ) → k < suc (length mosts) → at values k ≤ at (most ∷ mosts) k
    go (Ok n) (Ok numbers) is l rest e zero h =
        let same : values ≡ n ∷ numbers = ap (λ r. result_unwrap_or r values) e in
        rw same (within-most most n (number_of field) is)
    go (Ok n) (Ok numbers) is l rest e (suc k) h =
        let same : values ≡ n ∷ numbers = ap (λ r. result_unwrap_or r values) e in
        rw same (rest numbers l k (omega arith))
    go (Ok n) (Err first) is l rest e k h = absurd (omega (arith, ap (λ r. length (result_unwrap_or r (0 ∷ values))) e))
    go (Err fault) later is l rest e k h = absurd (omega (arith, ap (λ r. length (result_unwrap_or r (0 ∷ values))) e))
