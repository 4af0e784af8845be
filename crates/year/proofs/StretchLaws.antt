-- Calls run in stretches are the calls run as one list: what a stretch leaves is what the list leaves up to its end.
use Prim.Native.Nat.{ℕ, zero, suc, ◌+◌, ◌*◌, ◌-◌, ◌≤◌, ◌<◌}
use mathlib.Core.Path.{◌≡◌, refl, sym, ap, ◌∙◌}
use mathlib.Core.Bool.{Bool, true, false, not, true≢false}
use mathlib.Core.List.{List, [], ◌∷◌, ◌++◌}
use mathlib.Core.Logic.{◌≢◌}
use native.Mathlib.Nat.{add-zero}
use native.Mathlib.Decide.{ℕ_discrete}
use native.Mathlib.Omega.{arith}
use lib.ListN.{length, take, drop, set, length-take, length-drop, length-set}
use lib.Seq.{ext_get_or, get_or-take, get_or-drop, set-append_left, length-take-le}
use borrow.Author.Tests.{ne_eqb}
use borrow.Rule.Slice.PartMut.{mid_of, put_mid, mid_len, put_same}
use Rattle.base.specs.Choice.{pick}
use Rattle.base.specs.Words.{at}
use Rattle.base.specs.declared.Answer.{Answer}
use Rattle.base.proofs.SumLaws.{sum_to-zeros}
use Rattle.balances.specs.Calls.{Result, result, after}
use Rattle.lists.specs.Encoded.{call_count, words_of, is_closing, call_of, closings_before, lent_to, accepted, with_answer, run}
use Rattle.lists.specs.Encoded as Encoded
use Rattle.lists.proofs.RunLaws.{after-suc, run-whole}
use Rattle.year.specs.Year.{zeros, call_at, first_calls, state_after, answers_after, YearRan}
use Rattle.year.specs.Workers.Stretches.{Ran, OneClosing}
use Rattle.year.proofs.YearLaws.{word_of, state-next, answer-length}

-- none of calls first to n - 1 is a closing
abbrev pub NoneCloses : (calls : List ℕ) (first n : ℕ) → Type 0
NoneCloses calls first n = (m : ℕ) → first ≤ m → m < n → at calls (6 * m) ≢ 3

pub none_yet : (calls : List ℕ) (first : ℕ) → NoneCloses calls first first
none_yet calls first m a b = absurd (omega arith)

pub none_more : (calls : List ℕ) (first n : ℕ) → NoneCloses calls first n → at calls (6 * n) ≢ 3 → NoneCloses calls first (n + 1)
none_more calls first n none other m a b =
    elim (ℕ_discrete m n) [
      | yes e ↦ rw e other
      | no ne ↦ none m a (omega arith)
    ]

pub one-closes : (calls : List ℕ) (first n : ℕ) → NoneCloses calls first n → OneClosing calls first (n + 1)
one-closes calls first n none m a b = none m a (omega arith)

pub never-closes : (calls : List ℕ) (first n last : ℕ) → last ≤ n → NoneCloses calls first n → OneClosing calls first last
never-closes calls first n last past none m a b = none m a (omega arith)

-- calls that the library's function says it ran
pub was-run : (calls s answers : List ℕ) {t g a : List ℕ} (ran : Bool) →
    (ran ≡ (run calls s zeros answers).done)
    × (t ≡ (run calls s zeros answers).state)
    × (g ≡ (run calls s zeros answers).grants)
    × (a ≡ (run calls s zeros answers).answers) →
    (not ran ≡ false) → Ran calls s answers t a
was-run calls s answers true left e = (sym left.0, left.1, left.3)
was-run calls s answers false left e = absurd (true≢false e)

-- a word stored into a list past its front
set_past : (p x : List ℕ) (j v : ℕ) → set (p ++ x) (length p + j) v ≡ p ++ set x j v
set_past [] x j v = ap (λ n. set x n v) (omega arith)
set_past (y ∷ p) x j v =
    let later : suc (length p) + j ≡ suc (length p + j) = omega arith in
    ap (λ n. set (y ∷ (p ++ x)) n v) later ∙ ap (λ l. y ∷ l) (set_past p x j v)

-- a word stored into a part is stored into the whole
put-set : (a k : ℕ) (l x : List ℕ) (j v : ℕ) → a ≤ length l → j < length x → put_mid a k l (set x j v) ≡ set (put_mid a k l x) (a + j) v
put-set a k l x j v inside few =
    let front : length (take a l) ≡ a = length-take-le a l inside in
    let rest : List ℕ = drop k (drop a l) in
    ap (λ y. take a l ++ y) (sym (set-append_left x rest j v few))
    ∙ sym (set_past (take a l) (x ++ rest) j v)
    ∙ ap (λ n. set (take a l ++ (x ++ rest)) (n + j) v) front

put-answer : (first k : ℕ) (l x : List ℕ) (m : ℕ) (r : Answer) → 3 * first ≤ length l → 3 * m + 2 < length x →
    put_mid (3 * first) k l (with_answer x m r) ≡ with_answer (put_mid (3 * first) k l x) (first + m) r
put-answer first k l x m r inside few =
    let one : List ℕ = set x (3 * m) r.refusal in
    let two : List ℕ = set one (3 * m + 1) r.kw in
    let size-one : length one ≡ length x = length-set x (3 * m) r.refusal in
    let size-two : length two ≡ length x = length-set one (3 * m + 1) r.kw ∙ size-one in
    let a : ℕ = 3 * first in
    let p0 : a + 3 * m ≡ 3 * (first + m) = omega arith in
    let p1 : a + (3 * m + 1) ≡ 3 * (first + m) + 1 = omega arith in
    let p2 : a + (3 * m + 2) ≡ 3 * (first + m) + 2 = omega arith in
    put-set a k l two (3 * m + 2) r.passes inside (omega (arith, size-two))
    ∙ ap (λ y. set y (a + (3 * m + 2)) r.passes) (put-set a k l one (3 * m + 1) r.kw inside (omega (arith, size-one)))
    ∙ ap (λ y. set (set y (a + (3 * m + 1)) r.kw) (a + (3 * m + 2)) r.passes) (put-set a k l x (3 * m) r.refusal inside (omega arith))
    ∙ ap (λ n. set (set (set (put_mid a k l x) n r.refusal) (a + (3 * m + 1)) r.kw) (a + (3 * m + 2)) r.passes) p0
    ∙ ap (λ n. set (set (set (put_mid a k l x) (3 * (first + m)) r.refusal) n r.kw) (a + (3 * m + 2)) r.passes) p1
    ∙ ap (λ n. set (set (set (put_mid a k l x) (3 * (first + m)) r.refusal) (3 * (first + m) + 1) r.kw) n r.passes) p2

-- calls that were run are a list of calls
picked : (b : Bool) (x y : Encoded.Ran) → y.done ≡ false → (pick b x y).done ≡ true → b ≡ true
picked true x y none e = refl
picked false x y none e = sym none ∙ e

done-accepted : (calls s answers : List ℕ) → (run calls s zeros answers).done ≡ true → accepted calls (length answers) ≡ true
unfolding run
done-accepted calls s answers e = picked (accepted calls (length answers)) _ _ refl e

zeros-lent : lent_to zeros 0 ≡ zeros
zeros-lent = refl

module _ (calls : List ℕ) (first end : ℕ) (some : first < end) (inside : 6 * end ≤ length calls) (one : OneClosing calls first end) where
  -- the words of the stretch
  abbrev words : List ℕ
  words = mid_of (6 * first) (6 * end - 6 * first) calls

  words_size : length words ≡ 6 * end - 6 * first
  words_size = mid_len (6 * first) (6 * end) calls inside

  words_count : call_count words ≡ end - first
  words_count = omega (arith, words_size)

  word_same : (m j : ℕ) → first + m < end → j < 6 → at (words_of words m) j ≡ at (words_of calls (first + m)) j
  word_same m j l few =
      let here : 6 * first + (6 * m + j) ≡ 6 * (first + m) + j = omega arith in
      word_of words m j few
      ∙ get_or-take (6 * end - 6 * first) (drop (6 * first) calls) (6 * m + j) 0 (omega arith)
      ∙ get_or-drop (6 * first) calls (6 * m + j) 0
      ∙ ap (at calls) here
      ∙ sym (word_of calls (first + m) j few)

  words_same : (m : ℕ) → first + m < end → words_of words m ≡ words_of calls (first + m)
  words_same m l =
      let six : length (words_of words m) ≡ 6 = length-take 6 (drop (6 * m) words) ∙ (omega (arith, length-drop (6 * m) words, words_size)) in
      let six-too : length (words_of calls (first + m)) ≡ 6 =
      length-take 6 (drop (6 * (first + m)) calls) ∙ (omega (arith, length-drop (6 * (first + m)) calls)) in
      ext_get_or 0 (words_of words m) (words_of calls (first + m)) (six ∙ sym six-too) (λ j b. word_same m j l (omega (arith, six)))

  none-closes : (m : ℕ) → first + m < end → closings_before words m ≡ 0
  unfolding closings_before
  none-closes m l =
      sum_to-zeros m (λ j. pick (is_closing (words_of words j)) 1 0)
      (λ j b.
      let kind : at (words_of words j) 0 ≡ at calls (6 * (first + j)) =
      word_same j 0 (omega arith) (omega arith) ∙ word_of calls (first + j) 0 (omega arith) ∙ ap (at calls) (add-zero (6 * (first + j))) in
      let other : at calls (6 * (first + j)) ≢ 3 = one (first + j) (omega arith) (omega arith) in
      rw (kind, ne_eqb (at calls (6 * (first + j))) 3 other))

  call_same : (m : ℕ) → first + m < end → Encoded.call_at words zeros m ≡ call_at calls (first + m)
  unfolding Encoded.call_at call_at
  call_same m l =
      ap (λ k. call_of (words_of words m) (lent_to zeros k)) (none-closes m l)
      ∙ ap (λ (g : List ℕ). call_of (words_of words m) g) zeros-lent
      ∙ ap (λ w. call_of w zeros) (words_same m l)

  module _ (s answers a : List ℕ) (t : List ℕ) (state-is : t ≡ state_after calls s first) (answers-is : a ≡ answers_after calls s answers first) (room : 3 * end ≤ length a) where
    -- the words of the stretch's answers, and the answers with those put back
    abbrev part : List ℕ
    part = mid_of (3 * first) (3 * end - 3 * first) a

    abbrev put : List ℕ → List ℕ
    put x = put_mid (3 * first) (3 * end - 3 * first) a x

    -- after m calls of the stretch the state is that after first + m calls of the list
    state-part : (m : ℕ) → first + m ≤ end → after (Encoded.first_calls words zeros m) t ≡ state_after calls s (first + m)
    unfolding Encoded.first_calls after
    state-part zero l = state-is ∙ ap (state_after calls s) (sym (add-zero first))
    state-part (suc m) l =
        let next : first + suc m ≡ suc (first + m) = omega arith in
        after-suc words t zeros m
        ∙ ap (λ c. (result c (after (Encoded.first_calls words zeros m) t)).state) (call_same m (omega arith))
        ∙ ap (λ x. (result (call_at calls (first + m)) x).state) (state-part m (omega arith))
        ∙ sym (state-next calls s (first + m))
        ∙ ap (state_after calls s) (sym next)

    result-same : (m : ℕ) → first + m < end → Encoded.result_at words t zeros m ≡ result (call_at calls (first + m)) (state_after calls s (first + m))
    result-same m l =
        ap (λ c. result c (after (Encoded.first_calls words zeros m) t)) (call_same m l)
        ∙ ap (λ x. result (call_at calls (first + m)) x) (state-part m (omega arith))

    part-size : (m : ℕ) → length (Encoded.answers_after words t zeros part m) ≡ 3 * end - 3 * first
    unfolding Encoded.answers_after
    part-size zero = mid_len (3 * first) (3 * end) a room
    part-size (suc m) =
        answer-length (Encoded.answers_after words t zeros part m) m (Encoded.result_at words t zeros m).answer ∙ part-size m

    -- and so are the answers, the stretch's put back in their place
    answers-part : (m : ℕ) → first + m ≤ end → put (Encoded.answers_after words t zeros part m) ≡ answers_after calls s answers (first + m)
    unfolding Encoded.answers_after answers_after
    answers-part zero l =
        put_same (3 * first) (3 * end - 3 * first) a ∙ answers-is ∙ ap (answers_after calls s answers) (sym (add-zero first))
    answers-part (suc m) l =
        let next : first + suc m ≡ suc (first + m) = omega arith in
        let x : List ℕ = Encoded.answers_after words t zeros part m in
        put-answer first (3 * end - 3 * first) a x m (Encoded.result_at words t zeros m).answer (omega arith) (omega (arith, part-size m))
        ∙ ap (λ (r : Result). with_answer (put x) (first + m) r.answer) (result-same m (omega arith))
        ∙ ap (λ y. with_answer y (first + m) (result (call_at calls (first + m)) (state_after calls s (first + m))).answer) (answers-part m (omega arith))
        ∙ ap (answers_after calls s answers) (sym next)

    -- a stretch that was run leaves what the list leaves up to its end
    pub stretch-ran : (t1 p1 : List ℕ) → Ran words t part t1 p1 → YearRan calls s answers end t1 (put p1)
    stretch-ran t1 p1 ran =
        let last : first + (end - first) ≡ end = omega arith in
        let left = run-whole words t zeros part (done-accepted words t part ran.0) (refl, refl, refl) in (
          ran.1
              ∙ sym left.1
              ∙ ap (λ n. after (Encoded.first_calls words zeros n) t) words_count
              ∙ state-part (end - first) (omega arith)
              ∙ ap (state_after calls s) last,
          ap put (ran.2 ∙ sym left.3 ∙ ap (λ n. Encoded.answers_after words t zeros part n) words_count)
              ∙ answers-part (end - first) (omega arith)
              ∙ ap (answers_after calls s answers) last,
        )

-- no calls, and all calls
pub year-none : (calls s answers : List ℕ) → YearRan calls s answers 0 s answers
unfolding first_calls after answers_after
year-none calls s answers = (refl, refl)

pub year-all : (calls s answers : List ℕ) (count : ℕ) {n : ℕ} {t a : List ℕ} → YearRan calls s answers n t a → n ≡ count → YearRan calls s answers count t a
year-all calls s answers count ran e = (ran.0 ∙ ap (state_after calls s) e, ran.1 ∙ ap (answers_after calls s answers) e)

-- what isn't untrue is true
pub ran-true : (b : Bool) → not b ≡ false → b ≡ true
ran-true true e = refl
ran-true false e = absurd (true≢false e)
