-- The lines of a journal, one after the other.
use Prim.Native.Nat.{ℕ, suc, ◌+◌, ◌*◌, ◌/◌, ◌≤◌}
use mathlib.Core.Path.{◌≡◌, refl, sym, ap, ◌∙◌}
use mathlib.Core.List.{List, [], ◌∷◌, ◌++◌}
use native.Mathlib.Numerals.{add-one}
use native.Mathlib.Omega.{arith}
use lib.Dec.{ltb}
use lib.ListN.{length, take, drop, length-append, take-append-drop}
use borrow.Author.Tests.{ltb-true}
use borrow.Rule.Slice.PartMut.{put_mid}
use Rattle.std.specs.Prelude.{Option, Some, None, Result, Ok, Err}
use Rattle.std.specs.Result.{IsErrAnd, result_unwrap_or}
use Rattle.std.proofs.lemmas.Slice.{take-put_mid, drop-put_mid}
use Rattle.base.specs.CallKind.{number_of}
use Rattle.text.specs.Written.{written}
use Rattle.text.proofs.PieceLaws.{by-test}
use Rattle.text.proofs.WrittenLaws.{written_is, written_none, written-more}
use Rattle.journal.specs.Calls.{line_of}
use Rattle.journal.specs.Journals.{lines_of, counted, past_line, answer_from, answer_of, words_in, encoded_calls, left_by, calls_left}
use Rattle.journal.specs.declared.calls.Call.{Call}
use Rattle.journal.specs.declared.faults.Fault.{Fault}
use Rattle.journal.specs.declared.faults.Fault.TheVariants.{TooManyCalls}
use Rattle.journal.specs.declared.faults.Unreadable.{Unreadable}

-- words stored over a part of others
stored : (place k : ℕ) (text l : List ℕ) → k ≡ length text → place + length text ≤ length l → put_mid place k l text ≡ written place text l
stored place k text l size fit =
    let n : ℕ = place + length text in
    sym (take-append-drop n (put_mid place k l text))
    ∙ ap (λ (m : List ℕ). m ++ drop n (put_mid place k l text)) (take-put_mid place k l text n refl (omega arith))
    ∙ ap (λ (m : List ℕ). (take place l ++ text) ++ m) (drop-put_mid place k l text n (omega arith) (omega arith) (sym size))
    ∙ sym (written_is place text l fit)

-- the six words of a call
pub call-put : (call : Call) (place k kind : ℕ) (l m : List ℕ) → kind ≡ number_of call.kind → place + 6 ≤ length l →
    m ≡ kind ∷ call.a ∷ call.b ∷ call.c ∷ call.kw ∷ 0 ∷ [] → k ≡ 6 → put_mid place k l m ≡ written place (words_in (Ok (Some call))) l
call-put call place k kind l m is fit words size =
    ap (put_mid place k l) (words ∙ ap (λ (n : ℕ). n ∷ call.a ∷ call.b ∷ call.c ∷ call.kw ∷ 0 ∷ []) is)
    ∙ stored place k (words_in (Ok (Some call))) l size fit

-- a line without a call
pub none_put : (line : Result (Option Call) Fault) (place : ℕ) (l : List ℕ) → words_in line ≡ [] → (place ≡ place + length (words_in line)) × (l ≡ written place (words_in line) l)
none_put line place l none = (omega (arith, ap length none), sym (ap (λ (t : List ℕ). written place t l) none ∙ written_none place l))

-- the answer, line by line
module _ (room number count : ℕ) (line : List ℕ) (others : List (List ℕ)) where
  answer-stops : (fault : Fault) → Err fault ≡ counted room count (line_of line) → answer_from room number count (line ∷ others) ≡ Err (record { line = number; fault = fault })
  unfolding answer_from
  answer-stops fault e = ap (λ o. past_line number o (λ more. answer_from room (suc number) more others)) (sym e)

  answer-goes : (more : ℕ) → Ok more ≡ counted room count (line_of line) → answer_from room number count (line ∷ others) ≡ answer_from room (suc number) more others
  unfolding answer_from
  answer-goes more e = ap (λ o. past_line number o (λ n. answer_from room (suc number) n others)) (sym e)

answer-none : (room number count : ℕ) → answer_from room number count [] ≡ Ok count
unfolding answer_from
answer-none room number count = refl

-- a fault that `?` hands on
pub handed-fault : {A E : Type 0} (r : Result A E) (e : E) → IsErrAnd r (λ x. x ≡ e) → r ≡ Err e
handed-fault (Ok x) e same = absurd same
handed-fault (Err x) e same = ap Err same

-- an answer that is a count was one before its line had a number
abbrev goes_on : Result ℕ Unreadable → ℕ
goes_on (Ok n) = 1
goes_on (Err u) = 0

pub same-count : (number : ℕ) (r : Result ℕ Fault) (more : ℕ) → Ok more ≡ past_line number r (λ n. Ok n) → Ok more ≡ r
same-count number (Ok n) more e = ap (λ (o : Result ℕ Unreadable). Ok (result_unwrap_or o 0)) e
same-count number (Err fault) more e = absurd (omega (arith, ap goes_on e))

-- the loop of `check`, where so many lines were read and others are left
module _ (room place count : ℕ) (left : List (List ℕ)) (whole : Result ℕ Unreadable) (so_far : whole ≡ answer_from room (place + 1) count left) where
  module _ (line : List ℕ) (others : List (List ℕ)) (are : left ≡ line ∷ others) where
    pub check-stops : (fault : Fault) → Err fault ≡ counted room count (line_of line) → Err (record { line = place + 1; fault = fault }) ≡ whole
    check-stops fault e = sym (so_far ∙ ap (answer_from room (place + 1) count) are ∙ answer-stops room (place + 1) count line others fault e)

    pub check-turn : (more : ℕ) → Ok more ≡ counted room count (line_of line) → whole ≡ answer_from room (place + 1 + 1) more others
    check-turn more e =
        so_far
        ∙ ap (answer_from room (place + 1) count) are
        ∙ answer-goes room (place + 1) count line others more e
        ∙ ap (λ n. answer_from room n more others) (sym (add-one (place + 1)))

    pub check-fails : (r : Result ℕ Fault) (u : Unreadable) → r ≡ counted room count (line_of line) → Err u ≡ past_line (place + 1) r (λ n. Ok n) → Err u ≡ whole
    check-fails (Ok n) u is e = absurd (omega (arith, ap goes_on e))
    check-fails (Err fault) u is e = e ∙ check-stops fault is

  pub check-ends : left ≡ [] → Ok count ≡ whole
  check-ends none = sym (so_far ∙ ap (answer_from room (place + 1) count) none ∙ answer-none room (place + 1) count)

-- a call more at most
pub counted-most : (room count more : ℕ) (line : Result (Option Call) Fault) → Ok more ≡ counted room count line → more ≤ count + 1
counted-most room count more (Ok None) e = omega (arith, ap (λ r. result_unwrap_or r 0) e)
counted-most room count more (Ok (Some call)) e =
    by-test (ltb count room)
    (λ t. let same : Ok more ≡ Ok (suc count) = e ∙ rw t refl in omega (arith, ap (λ r. result_unwrap_or r 0) same))
    (λ f. let wrong : Ok more ≡ Err TooManyCalls = e ∙ rw f refl in omega (arith, ap (λ r. result_unwrap_or r 0) wrong))
counted-most room count more (Err fault) e = omega (arith, ap (λ r. result_unwrap_or r 0) e)

-- the words of lines, line by line
pub words-cons : (line : List ℕ) (others : List (List ℕ)) → encoded_calls (line ∷ others) ≡ words_in (line_of line) ++ encoded_calls others
unfolding encoded_calls
words-cons line others = refl

pub words-end : encoded_calls [] ≡ []
unfolding encoded_calls
words-end = refl

-- the loop of `put_calls`, where others are left
module _ (left : List (List ℕ)) (place : ℕ) (whole entry now : List ℕ) (fits : place + length (encoded_calls left) ≤ length entry)
    (so_far : written 0 whole entry ≡ written place (encoded_calls left) now) where
  module _ (line : List ℕ) (others : List (List ℕ)) (are : left ≡ line ∷ others) where
    here : encoded_calls left ≡ words_in (line_of line) ++ encoded_calls others
    here = ap encoded_calls are ∙ words-cons line others

    pub words-fit : place + length (words_in (line_of line)) ≤ length entry
    words-fit = omega (arith, fits, ap length here, length-append (words_in (line_of line)) (encoded_calls others))

    module _ (next : ℕ) (after : List ℕ) (n : next ≡ place + length (words_in (line_of line))) (put : after ≡ written place (words_in (line_of line)) now) where
      pub put-room : next + length (encoded_calls others) ≤ length entry
      put-room = omega (arith, fits, n, ap length here, length-append (words_in (line_of line)) (encoded_calls others))

      pub put-turn : written 0 whole entry ≡ written next (encoded_calls others) after
      put-turn =
          so_far
          ∙ ap (λ (t : List ℕ). written place t now) here
          ∙ sym (written-more place (words_in (line_of line)) (encoded_calls others) now)
          ∙ ap (λ (k : ℕ). written k (encoded_calls others) (written place (words_in (line_of line)) now)) (sym n)
          ∙ ap (written next (encoded_calls others)) (sym put)

  pub put-ends : left ≡ [] → now ≡ written 0 whole entry
  put-ends none = sym (so_far ∙ ap (λ (t : List ℕ). written place t now) (ap encoded_calls none ∙ words-end) ∙ written_none place now)

-- a call that is counted has six words and room
counts-one : (room count more : ℕ) (line : Result (Option Call) Fault) → count ≤ room → Ok more ≡ counted room count line →
    (6 * count + length (words_in line) ≡ 6 * more) × (more ≤ room)
counts-one room count more (Ok None) h e =
    let same : more ≡ count = ap (λ r. result_unwrap_or r more) e in
    (omega arith, omega arith)
counts-one room count more (Ok (Some call)) h e =
    by-test (ltb count room)
    (λ t.
    let one : Ok more ≡ Ok (suc count) = e ∙ rw t refl in
    let same : more ≡ suc count = ap (λ r. result_unwrap_or r more) one in
    (omega arith, omega (arith, ltb-true count room t)))
    (λ f.
    let wrong : Ok more ≡ Err TooManyCalls = e ∙ rw f refl in
    absurd (omega (arith, ap (λ r. result_unwrap_or r (suc more)) wrong)))
counts-one room count more (Err fault) h e = absurd (omega (arith, ap (λ r. result_unwrap_or r (suc more)) e))

-- where every line can be read, the calls are counted and have room
pub answer-counts : (room number count all : ℕ) (lines : List (List ℕ)) → count ≤ room → answer_from room number count lines ≡ Ok all →
    (6 * count + length (encoded_calls lines) ≡ 6 * all) × (all ≤ room)
answer-counts room number count all [] h e =
    let same : count ≡ all = ap (λ r. result_unwrap_or r 0) (sym (answer-none room number count) ∙ e) in
    (omega (arith, ap length words-end), omega arith)
answer-counts room number count all (line ∷ others) h e =
    by-outcome (counted room count (line_of line)) refl (λ more few goes. answer-counts room (suc number) more all others few goes)
  where
    by-outcome : (o : Result ℕ Fault) → o ≡ counted room count (line_of line) →
        ((more : ℕ) → more ≤ room → answer_from room (suc number) more others ≡ Ok all → (6 * more + length (encoded_calls others) ≡ 6 * all) × (all ≤ room)) →
        (6 * count + length (encoded_calls (line ∷ others)) ≡ 6 * all) × (all ≤ room)
    by-outcome (Ok more) is later =
        let one = counts-one room count more (line_of line) h is in
        let rest = later more one.1 (sym (answer-goes room number count line others more is) ∙ e) in
        (omega (arith, rest.0, one.0, ap length (words-cons line others), length-append (words_in (line_of line)) (encoded_calls others)), rest.1)
    by-outcome (Err fault) is later =
        let wrong = sym (answer-stops room number count line others fault is) ∙ e in
        absurd (omega (arith, ap (λ r. result_unwrap_or r (suc all)) wrong))

-- what `read_journal` leaves
module _ (text calls : List ℕ) where
  pub left_alone : (unreadable : Unreadable) → Err unreadable ≡ answer_of text calls → calls ≡ calls_left text calls
  unfolding calls_left
  left_alone unreadable e = ap (λ o. left_by o (written 0 (encoded_calls (lines_of text)) calls) calls) e

  module _ (count : ℕ) (e : Ok count ≡ answer_of text calls) where
    pub calls-fit : length (encoded_calls (lines_of text)) ≤ length calls
    calls-fit =
        let counts = answer-counts (length calls / 6) 1 0 count (lines_of text) (omega arith) (sym e) in
        omega (arith, counts.0, counts.1)

    pub left-written : (l : List ℕ) → l ≡ written 0 (encoded_calls (lines_of text)) calls → l ≡ calls_left text calls
    unfolding calls_left
    left-written l put = put ∙ ap (λ o. left_by o (written 0 (encoded_calls (lines_of text)) calls) calls) e
