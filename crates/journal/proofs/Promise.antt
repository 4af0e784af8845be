-- What a caller of `read_journal` builds on where no line has a fault: six words a call, in front, each of a known kind.
use Prim.Native.Nat.{ℕ, zero, suc, ◌+◌, ◌*◌, ◌/◌, ◌≤◌, ◌<◌}
use mathlib.Core.Path.{◌≡◌, refl, sym, ap, subst, ◌∙◌}
use mathlib.Core.Bool.{true, ◌&&◌}
use mathlib.Core.List.{List, [], ◌∷◌, ◌++◌}
use native.Mathlib.Nat.{add-zero}
use native.Mathlib.Omega.{arith}
use lib.Dec.{leb}
use lib.ListN.{length, take, drop}
use lib.Seq.{get_or-take, get_or-drop, take_at}
use borrow.Author.Tests.{le-leb}
use Rattle.std.specs.Prelude.{Option, Some, None, Result, Ok, Err}
use Rattle.base.specs.CallKind.{number_of}
use Rattle.base.specs.declared.encoding.CallKind.{CallKind}
use Rattle.base.specs.declared.encoding.CallKind.TheVariants.{Trade, Request, Close, Take, Move, Lock}
use Rattle.base.specs.Sums.{all_to}
use Rattle.base.specs.Words.{at}
use Rattle.base.proofs.ChoiceLaws.{and_both}
use Rattle.base.proofs.SumLaws.{all_to-all}
use Rattle.text.specs.Written.{written}
use Rattle.text.proofs.WrittenLaws.{written_is}
use Rattle.journal.specs.Calls.{line_of}
use Rattle.journal.specs.Journals.{lines_of, answer_of, words_in, encoded_calls, calls_left}
use Rattle.journal.specs.declared.calls.Call.{Call}
use Rattle.journal.specs.declared.faults.Fault.{Fault}
use Rattle.journal.proofs.JournalLaws.{answer-counts, calls-fit, left-written, words-cons, words-end}

-- a line's call has a known kind
abbrev Known : Result (Option Call) Fault → Type 0
Known (Ok None) = Unit
Known (Ok (Some call)) = (1 ≤ number_of call.kind) × (number_of call.kind ≤ 6)
Known (Err fault) = Unit

known-kind : (kind : CallKind) → (1 ≤ number_of kind) × (number_of kind ≤ 6)
known-kind Trade = (omega arith, omega arith)
known-kind Request = (omega arith, omega arith)
known-kind Close = (omega arith, omega arith)
known-kind Take = (omega arith, omega arith)
known-kind Move = (omega arith, omega arith)
known-kind Lock = (omega arith, omega arith)

known-line : (line : Result (Option Call) Fault) → Known line
known-line (Ok None) = tt
known-line (Ok (Some call)) = known-kind call.kind
known-line (Err fault) = tt

-- the first word of call n
known-after : (line : Result (Option Call) Fault) (others : List ℕ) → Known line → ((n : ℕ) → 6 * n < length others → (1 ≤ at others (6 * n)) × (at others (6 * n) ≤ 6)) →
    (n : ℕ) → 6 * n < length (words_in line ++ others) → (1 ≤ at (words_in line ++ others) (6 * n)) × (at (words_in line ++ others) (6 * n) ≤ 6)
known-after (Ok None) others known later n h = later n h
known-after (Err fault) others known later n h = later n h
known-after (Ok (Some call)) others known later zero h = known
known-after (Ok (Some call)) others known later (suc n) h =
    let six : 6 * suc n ≡ suc (suc (suc (suc (suc (suc (6 * n)))))) = omega arith in
    rw six (later n (omega arith))

pub kinds-known : (lines : List (List ℕ)) (n : ℕ) → 6 * n < length (encoded_calls lines) → (1 ≤ at (encoded_calls lines) (6 * n)) × (at (encoded_calls lines) (6 * n) ≤ 6)
kinds-known [] n h = absurd (omega (arith, ap length words-end))
kinds-known (line ∷ others) n h =
    subst (λ (l : List ℕ). (1 ≤ at l (6 * n)) × (at l (6 * n) ≤ 6)) (sym (words-cons line others))
    (known-after (line_of line) (encoded_calls others) (known-line (line_of line)) (kinds-known others) n (omega (arith, h, ap length (words-cons line others))))

-- where every line can be read
module _ (text calls : List ℕ) (count : ℕ) (stands : answer_of text calls ≡ Ok count) where
  pub six-words : length (encoded_calls (lines_of text)) ≡ 6 * count
  six-words =
      let counts = answer-counts (length calls / 6) 1 0 count (lines_of text) (omega arith) stands in
      omega (arith, counts.0)

  pub room_for : 6 * count ≤ length calls
  room_for = omega (arith, six-words, calls-fit text calls count (sym stands))

  -- the first words are the calls', the later ones stay
  pub calls-in-front : calls_left text calls ≡ encoded_calls (lines_of text) ++ drop (6 * count) calls
  calls-in-front =
      let fit : length (encoded_calls (lines_of text)) ≤ length calls = calls-fit text calls count (sym stands) in
      let size : 0 + length (encoded_calls (lines_of text)) ≡ 6 * count = omega (arith, six-words) in
      sym (left-written text calls count (sym stands) (written 0 (encoded_calls (lines_of text)) calls) refl)
      ∙ written_is 0 (encoded_calls (lines_of text)) calls (omega (arith, fit))
      ∙ ap (λ (n : ℕ). encoded_calls (lines_of text) ++ drop n calls) size

  pub front-calls : take (6 * count) (calls_left text calls) ≡ encoded_calls (lines_of text)
  front-calls = ap (take (6 * count)) calls-in-front ∙ take_at (encoded_calls (lines_of text)) (drop (6 * count) calls) (6 * count) six-words

  -- each call's kind is one of the six, as `lists` asks of the words of a list of calls
  pub kinds-accepted : all_to count (λ n. leb 1 (at (take 6 (drop (6 * n) (encoded_calls (lines_of text)))) 0) && leb (at (take 6 (drop (6 * n) (encoded_calls (lines_of text)))) 0) 6) ≡ true
  kinds-accepted =
      all_to-all count _
      (λ n l.
      let k : ℕ = at (take 6 (drop (6 * n) (encoded_calls (lines_of text)))) 0 in
      let is : k ≡ at (encoded_calls (lines_of text)) (6 * n) = get_or-take 6 (drop (6 * n) (encoded_calls (lines_of text))) 0 0 (omega arith) ∙ get_or-drop (6 * n) (encoded_calls (lines_of text)) 0 0 ∙ ap (at (encoded_calls (lines_of text))) (add-zero (6 * n)) in
      let known = kinds-known (lines_of text) n (omega (arith, six-words)) in
      and_both (leb 1 k) (leb k 6) (le-leb 1 k (omega (arith, is, known.0))) (le-leb k 6 (omega (arith, is, known.1))))
