-- Laws of a run: what stands in the lent words after n calls, turn by turn.
use Prim.Native.Nat.{ℕ, zero, suc, ◌+◌, ◌*◌, ◌≤◌, ◌<◌, min, zero-le}
use mathlib.Core.Path.{◌≡◌, refl, sym, ap, ◌∙◌}
use mathlib.Core.Bool.{Bool, true, false}
use mathlib.Core.List.{List, ◌++◌}
use native.Mathlib.Numerals.{add-one}
use native.Mathlib.Omega.{arith}
use lib.Dec.{eqb}
use borrow.Author.Tests.{eqb-true}
use lib.ListN.{length, take, drop}
use lib.Seq.{drop-drop}
use Rattle.base.specs.Choice.{pick}
use Rattle.base.proofs.ChoiceLaws.{pick-by}
use Rattle.base.proofs.SumLaws.{sum_to-zero, sum_to-suc}
use Rattle.closing.specs.Close as Close
use Rattle.closing.proofs.CloseLaws.{close-grants-length}
use Rattle.balances.specs.Calls.{Result, result, after}
use Rattle.balances.proofs.ListLaws.{after_last}
use Rattle.lists.specs.Encoded.{call_count, words_of, kind_of, known_kind, is_closing, call_of, closings_before, lent_to, call_at, first_calls, calls_of, accepted, with_answer, with_lent, result_at, grants_after, answers_after, run}
use Rattle.lists.proofs.EncodedLaws.{accepted-room, accepted-known, take_most, drop-most, closing-gives, put-length, put-past, Ran1}

-- a closing leaves its buffer as long as it was
pub closed-length : (s lent : List ℕ) → length (Close.close s lent).grants ≡ length lent
unfolding Close.close
closed-length s lent = pick-by (λ (c : Close.Closed). length c.grants ≡ length lent) (eqb (Close.close_refusal s lent) 0) _ _ (λ t. close-grants-length s lent) (λ f. refl)

module _ (encoded : List ℕ) where
  pub no-closings : closings_before encoded 0 ≡ 0
  unfolding closings_before
  no-closings = sum_to-zero (λ m. pick (is_closing (words_of encoded m)) 1 0)

  pub closings-suc : (n : ℕ) → closings_before encoded (suc n) ≡ closings_before encoded n + pick (is_closing (words_of encoded n)) 1 0
  unfolding closings_before
  closings-suc n = sum_to-suc n (λ m. pick (is_closing (words_of encoded m)) 1 0)

-- the grants after one call more, in plain words: they are as long, and what is for later closings is as it was
grants-turn : (closing : Bool) (k next : ℕ) (g lent grants : List ℕ) → next ≡ k + pick closing 1 0 →
    (closing ≡ true → length lent ≡ length (lent_to grants k)) → length g ≡ length grants → drop (1536 * k) g ≡ drop (1536 * k) grants →
    (length (pick closing (take (1536 * k) g ++ (lent ++ drop (1536 * k + 1536) g)) g) ≡ length grants)
    × (drop (1536 * next) (pick closing (take (1536 * k) g ++ (lent ++ drop (1536 * k + 1536) g)) g) ≡ drop (1536 * next) grants)
grants-turn true k next g lent grants is size long past =
    let from : ℕ = 1536 * k in
    let same : length lent ≡ length (take 1536 (drop from g)) = size refl ∙ ap (λ l. length (take 1536 l)) (sym past) in
    let later : 1536 * next ≡ from + 1536 = omega arith in (
      put-length from g lent same ∙ long,
      ap (λ m. drop m (take from g ++ (lent ++ drop (from + 1536) g))) later
          ∙ put-past from g lent same
          ∙ sym (drop-drop 1536 from g)
          ∙ ap (λ l. drop 1536 l) past
          ∙ drop-drop 1536 from grants
          ∙ ap (λ m. drop m grants) (sym later),
    )
grants-turn false k next g lent grants is size long past =
    let later : 1536 * k ≡ 1536 * next = omega arith in
    (long, rw later at past)

-- where the next closing's words begin, after one call more
start-turn : (closing : Bool) (k next start size held begins : ℕ) → start ≡ min (1536 * k) size → held ≡ size → next ≡ k + pick closing 1 0 →
    begins ≡ pick closing (min (start + 1536) held) start → begins ≡ min (1536 * next) size
start-turn true k next start size held begins a b c d = omega arith
start-turn false k next start size held begins a b c d = omega arith

-- the grants with a closing's words put back: a place past the end is as good as the end
put_same : (words g lent : List ℕ) (start from : ℕ) → start ≡ min from (length g) → with_lent words g start lent ≡ with_lent words g from lent
put_same words g lent start from is =
    let front : take start g ≡ take from g = ap (λ m. take m g) is ∙ take_most from g in
    let back : drop start g ≡ drop from g = ap (λ m. drop m g) is ∙ drop-most from g in
    let past : drop (start + 1536) g ≡ drop (from + 1536) g =
    sym (drop-drop 1536 start g) ∙ ap (λ l. drop 1536 l) back ∙ drop-drop 1536 from g in
    ap (λ l. pick (is_closing words) (l ++ (lent ++ drop (start + 1536) g)) g) front
    ∙ ap (λ l. pick (is_closing words) (take from g ++ (lent ++ l)) g) past

module _ (encoded s grants : List ℕ) where
  pub after-suc : (n : ℕ) → after (first_calls encoded grants (suc n)) s ≡ (result_at encoded s grants n).state
  unfolding first_calls
  after-suc n = after_last (first_calls encoded grants n) (call_at encoded grants n) s

  pub lent_length : (n : ℕ) → is_closing (words_of encoded n) ≡ true → length (result_at encoded s grants n).grants ≡ length (lent_to grants (closings_before encoded n))
  unfolding call_at
  lent_length n closing =
      let lent : List ℕ = lent_to grants (closings_before encoded n) in
      let before : List ℕ = after (first_calls encoded grants n) s in
      ap (λ (l : List ℕ). length l) (closing-gives (words_of encoded n) lent before (eqb-true _ 3 closing)).2 ∙ closed-length before lent

  -- after n calls the buffer is as long as it was, and what is for later closings is as it was
  pub grants-kept : (n : ℕ) →
      (length (grants_after encoded s grants n) ≡ length grants)
      × (drop (1536 * closings_before encoded n) (grants_after encoded s grants n) ≡ drop (1536 * closings_before encoded n) grants)
  unfolding grants_after
  grants-kept zero = (refl, refl)
  grants-kept (suc n) =
      let kept = grants-kept n in
      grants-turn (is_closing (words_of encoded n)) (closings_before encoded n) (closings_before encoded (suc n)) (grants_after encoded s grants n)
      (result_at encoded s grants n).grants grants (closings-suc encoded n) (lent_length n) kept.0 kept.1

-- after n calls
pub record Running (encoded s grants answers : List ℕ) (n start : ℕ) (t h a : List ℕ) : Type 0 where
  pub inside : n ≤ call_count encoded
  pub start_is : start ≡ min (1536 * closings_before encoded n) (length grants)
  pub state-is : t ≡ after (first_calls encoded grants n) s
  pub grants-is : h ≡ grants_after encoded s grants n
  pub answers-is : a ≡ answers_after encoded s grants answers n
  pub state-size : length t ≡ length s
  pub grants-size : length h ≡ length grants
  pub answers-size : length a ≡ length answers

module _ (encoded s grants answers : List ℕ) where
  pub running_none : Running encoded s grants answers 0 0 s grants answers
  unfolding first_calls after grants_after answers_after
  running_none =
      record {
        inside = zero-le;
        start_is = omega (arith, no-closings encoded);
        state-is = refl;
        grants-is = refl;
        answers-is = refl;
        state-size = refl;
        grants-size = refl;
        answers-size = refl;
      }

  module _ {n start : ℕ} {t h a : List ℕ} (running : Running encoded s grants answers n start t h a) (words : List ℕ) (are : words ≡ words_of encoded n) where
    abbrev k : ℕ
    k = closings_before encoded n

    abbrev g : List ℕ
    g = grants_after encoded s grants n

    begins : start ≡ min (1536 * k) (length g)
    begins = running.start_is ∙ ap (λ m. min (1536 * k) m) (sym (grants-kept encoded s grants n).0)

    lent_is : take 1536 (drop start h) ≡ lent_to grants k
    lent_is =
        ap (λ l. take 1536 (drop start l)) running.grants-is
        ∙ ap (λ m. take 1536 (drop m g)) begins
        ∙ ap (λ l. take 1536 l) (drop-most (1536 * k) g ∙ (grants-kept encoded s grants n).1)

    gives-is : result (call_of words (take 1536 (drop start h))) t ≡ result_at encoded s grants n
    unfolding call_at
    gives-is =
        ap (λ w. result (call_of w (take 1536 (drop start h))) t) are
        ∙ ap (λ l. result (call_of (words_of encoded n) l) t) lent_is
        ∙ ap (λ x. result (call_of (words_of encoded n) (lent_to grants k)) x) running.state-is

    grants-next : with_lent words h start (result (call_of words (take 1536 (drop start h))) t).grants ≡ grants_after encoded s grants (suc n)
    unfolding grants_after
    grants-next =
        ap (λ (r : Result). with_lent words h start r.grants) gives-is
        ∙ ap (λ l. with_lent words l start (result_at encoded s grants n).grants) running.grants-is
        ∙ put_same words g (result_at encoded s grants n).grants start (1536 * k) begins
        ∙ ap (λ w. with_lent w g (1536 * k) (result_at encoded s grants n).grants) are

    answers_next : with_answer a n (result (call_of words (take 1536 (drop start h))) t).answer ≡ answers_after encoded s grants answers (suc n)
    unfolding answers_after
    answers_next =
        ap (λ (r : Result). with_answer a n r.answer) gives-is
        ∙ ap (λ l. with_answer l n (result_at encoded s grants n).answer) running.answers-is

    -- one call more
    pub running-next : (next : ℕ) (t1 h1 a1 : List ℕ) → n < call_count encoded → Ran1 words h t start n next t1 h1 a a1 →
        length t1 ≡ length t → length h1 ≡ length h → length a1 ≡ length a → Running encoded s grants answers (n + 1) next t1 h1 a1
    running-next next t1 h1 a1 l ran same_t sameH sameA =
        rw (add-one n)
        (record {
          inside = l;
          start_is =
              start-turn (is_closing (words_of encoded n)) k (closings_before encoded (suc n)) start (length grants) (length h) next running.start_is running.grants-size
              (closings-suc encoded n) (ran.0 ∙ ap (λ w. pick (is_closing w) (min (start + 1536) (length h)) start) are);
          state-is = ran.1 ∙ ap (λ (r : Result). r.state) gives-is ∙ sym (after-suc encoded s grants n);
          grants-is = ran.2 ∙ grants-next;
          answers-is = ran.3 ∙ answers_next;
          state-size = same_t ∙ running.state-size;
          grants-size = sameH ∙ running.grants-size;
          answers-size = sameA ∙ running.answers-size;
        })

  -- what the next call asks
  pub running-asks : {n start : ℕ} {t h a words : List ℕ} → Running encoded s grants answers n start t h a → n < call_count encoded → accepted encoded (length answers) ≡ true →
      words ≡ words_of encoded n → (known_kind (kind_of words) ≡ true) × (3 * n + 2 < length a) × (start ≤ length h)
  running-asks {n = n} running l e are = (
    ap (λ w. known_kind (kind_of w)) are ∙ accepted-known encoded (length answers) n e l,
    omega (arith, running.answers-size, accepted-room encoded (length answers) e),
    omega (arith, running.grants-size, running.start_is),
  )

  -- what a run leaves, by the test of the words
  pub run_none : accepted encoded (length answers) ≡ false →
      (false ≡ (run encoded s grants answers).done)
      × (s ≡ (run encoded s grants answers).state)
      × (grants ≡ (run encoded s grants answers).grants)
      × (answers ≡ (run encoded s grants answers).answers)
  unfolding run
  run_none e = rw e (refl, refl, refl, refl)

  pub run-whole : {t h a : List ℕ} → accepted encoded (length answers) ≡ true →
      (t ≡ after (calls_of encoded grants) s)
      × (h ≡ grants_after encoded s grants (call_count encoded))
      × (a ≡ answers_after encoded s grants answers (call_count encoded)) →
      (true ≡ (run encoded s grants answers).done)
      × (t ≡ (run encoded s grants answers).state)
      × (h ≡ (run encoded s grants answers).grants)
      × (a ≡ (run encoded s grants answers).answers)
  unfolding run
  run-whole e left = rw e (refl, left.0, left.1, left.2)
