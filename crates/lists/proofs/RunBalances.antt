-- What `run_calls` leaves: the balances of the state, and what can be read in the grants and in the answers.
use Prim.Native.Nat.{ℕ, zero, suc, ◌+◌, ◌*◌, ◌≤◌, ◌<◌}
use mathlib.Core.Path.{◌≡◌, refl, sym, ap, ◌∙◌}
use mathlib.Core.Bool.{true}
use mathlib.Core.List.{List, ◌++◌}
use mathlib.Core.Logic.{⊎_elim}
use native.Mathlib.Omega.{arith}
use lib.ListN.{length, take, drop, set, length-take, length-drop, length-set, get_or-append}
use lib.Seq.{ext_get_or, get_or-take, get_or-drop, get_or-append-add, get_or-set_same, get_or-set_other, length-take-le}
use Rattle.base.specs.Choice.{pick}
use Rattle.base.specs.Sums.{sum_to}
use Rattle.base.specs.Words.{at}
use Rattle.base.specs.declared.Answer.{Answer}
use Rattle.base.proofs.ChoiceLaws.{pick-by, pick_true}
use Rattle.base.proofs.SumLaws.{below_suc, sum_to-mono, sum_to-zero, sum_to-suc}
use Rattle.opening.specs.Open.{opened}
use Rattle.balances.specs.Calls.{Call, Result}
use Rattle.balances.specs.Amounts.{added, total}
use Rattle.balances.proofs.ListLaws.{total-last}
use Rattle.balances.proofs.BalancesHold.{balances-hold}
use Rattle.lists.specs.Encoded.{call_count, words_of, is_closing, closings_before, lent_to, call_at, first_calls, calls_of}
use Rattle.lists.specs.Encoded.{with_answer, with_lent, result_at, grants_after, answers_after, run}
use Rattle.lists.specs.Left.{AnswerStands, RunBalances}
use Rattle.lists.proofs.EncodedLaws.{accepted-room, put-length}
use Rattle.lists.proofs.RunLaws.{closings-suc, lent_length, grants-kept}

-- words put back at `from`: they stand there, and 1536 words that end before stay
abbrev put_at : ℕ → List ℕ → List ℕ → List ℕ
put_at from g lent = take from g ++ (lent ++ drop (from + 1536) g)

module _ (from : ℕ) (g lent : List ℕ) (size : length lent ≡ length (take 1536 (drop from g))) where
  abbrev put : List ℕ
  put = put_at from g lent

  lent-most : length lent ≡ length (take 1536 (drop from put))
  lent-most =
      omega (
        arith,
        size,
        put-length from g lent size,
        length-take 1536 (drop from g),
        length-take 1536 (drop from put),
        length-drop from g,
        length-drop from put,
      )

  put-here : take 1536 (drop from put) ≡ lent
  put-here =
      ext_get_or 0 (take 1536 (drop from put)) lent (sym lent-most)
      (λ j b.
      let few : j < length lent = omega (arith, lent-most) in
      let inside : from ≤ length g = omega (arith, size, length-take 1536 (drop from g), length-drop from g) in
      let front : length (take from g) ≡ from = length-take-le from g inside in
      get_or-take 1536 (drop from put) j 0 (omega (arith, size, length-take 1536 (drop from g)))
      ∙ get_or-drop from put j 0
      ∙ ap (λ m. at put (m + j)) (sym front)
      ∙ get_or-append-add (take from g) (lent ++ drop (from + 1536) g) j 0
      ∙ get_or-append lent (drop (from + 1536) g) 0 j few)

  put-before : (a : ℕ) → a + 1536 ≤ from → take 1536 (drop a put) ≡ take 1536 (drop a g)
  put-before a below =
      let long : length put ≡ length g = put-length from g lent size in
      let same : length (take 1536 (drop a put)) ≡ length (take 1536 (drop a g)) =
      omega (arith, length-take 1536 (drop a put), length-take 1536 (drop a g), length-drop a put, length-drop a g) in
      ext_get_or 0 (take 1536 (drop a put)) (take 1536 (drop a g)) same
      (λ j b.
      let few : j < 1536 = omega (arith, length-take 1536 (drop a put)) in
      let inside : a + j < length g = omega (arith, length-take 1536 (drop a put), length-drop a put) in
      let early : a + j < length (take from g) = omega (arith, length-take from g) in
      get_or-take 1536 (drop a put) j 0 few
      ∙ get_or-drop a put j 0
      ∙ get_or-append (take from g) (lent ++ drop (from + 1536) g) 0 (a + j) early
      ∙ get_or-take from g (a + j) 0 (omega arith)
      ∙ sym (get_or-drop a g j 0)
      ∙ sym (get_or-take 1536 (drop a g) j 0 few))

module _ (encoded s grants : List ℕ) where
  closings-mono : (n m : ℕ) → n ≤ m → closings_before encoded n ≤ closings_before encoded m
  unfolding closings_before
  closings-mono n m l = sum_to-mono n m (λ k. pick (is_closing (words_of encoded k)) 1 0) l

  -- the words of the buffer that a closing was lent have, after any number of later calls, what the closing left there
  pub granted-read : (m n : ℕ) → n < m → is_closing (words_of encoded n) ≡ true →
      lent_to (grants_after encoded s grants m) (closings_before encoded n) ≡ (result_at encoded s grants n).grants
  unfolding grants_after
  granted-read zero n l closing = absurd (omega arith)
  granted-read (suc m) n l closing =
      let g : List ℕ = grants_after encoded s grants m in
      let from : ℕ = 1536 * closings_before encoded m in
      let lent : List ℕ = (result_at encoded s grants m).grants in
      let size : is_closing (words_of encoded m) ≡ true → length lent ≡ length (take 1536 (drop from g)) =
      λ t. lent_length encoded s grants m t ∙ ap (λ (l : List ℕ). length (take 1536 l)) (sym (grants-kept encoded s grants m).1) in
      ⊎_elim
      (λ (e : n ≡ m).
      let t : is_closing (words_of encoded m) ≡ true = rw (sym e) closing in
      ap (λ k. lent_to (with_lent (words_of encoded m) g from lent) (closings_before encoded k)) e
      ∙ ap (λ x. lent_to x (closings_before encoded m)) (pick_true (is_closing (words_of encoded m)) (put_at from g lent) g t)
      ∙ put-here from g lent (size t)
      ∙ ap (λ k. (result_at encoded s grants k).grants) (sym e))
      (λ (b : n < m).
      pick-by (λ x. lent_to x (closings_before encoded n) ≡ (result_at encoded s grants n).grants) (is_closing (words_of encoded m))
      (put_at from g lent) g
      (λ t.
      let more : closings_before encoded (suc n) ≡ closings_before encoded n + 1 =
      closings-suc encoded n ∙ ap (λ (k : ℕ). closings_before encoded n + k) (pick_true (is_closing (words_of encoded n)) 1 0 closing) in
      put-before from g lent (size t) (1536 * closings_before encoded n) (omega (arith, closings-mono (suc n) m b, more))
      ∙ granted-read m n b closing)
      (λ f. granted-read m n b closing))
      (below_suc l)

-- the three words of an answer stand where they were written, those of an earlier call stay, and so does the length
answer-length : (l : List ℕ) (n : ℕ) (a : Answer) → length (with_answer l n a) ≡ length l
answer-length l n a =
    length-set (set (set l (3 * n) a.refusal) (3 * n + 1) a.kw) (3 * n + 2) a.passes
    ∙ length-set (set l (3 * n) a.refusal) (3 * n + 1) a.kw
    ∙ length-set l (3 * n) a.refusal

module _ (l : List ℕ) (n : ℕ) (a : Answer) where
  abbrev one : List ℕ
  one = set l (3 * n) a.refusal

  abbrev two : List ℕ
  two = set one (3 * n + 1) a.kw

  answer-here : 3 * n + 2 < length l → AnswerStands (with_answer l n a) n a
  answer-here inside = (
    get_or-set_other two (3 * n + 2) (3 * n) a.passes 0 (omega arith)
        ∙ get_or-set_other one (3 * n + 1) (3 * n) a.kw 0 (omega arith)
        ∙ get_or-set_same l (3 * n) a.refusal 0 (omega arith),
    get_or-set_other two (3 * n + 2) (3 * n + 1) a.passes 0 (omega arith)
        ∙ get_or-set_same one (3 * n + 1) a.kw 0 (omega (arith, length-set l (3 * n) a.refusal)),
    get_or-set_same two (3 * n + 2) a.passes 0
        (omega (arith, length-set one (3 * n + 1) a.kw, length-set l (3 * n) a.refusal)),
  )

  word-before : (p : ℕ) → p < 3 * n → at (with_answer l n a) p ≡ at l p
  word-before p before =
      get_or-set_other two (3 * n + 2) p a.passes 0 (omega arith)
      ∙ get_or-set_other one (3 * n + 1) p a.kw 0 (omega arith)
      ∙ get_or-set_other l (3 * n) p a.refusal 0 (omega arith)

module _ (encoded s grants answers : List ℕ) where
  answers-length : (n : ℕ) → length (answers_after encoded s grants answers n) ≡ length answers
  unfolding answers_after
  answers-length zero = refl
  answers-length (suc n) =
      answer-length (answers_after encoded s grants answers n) n (result_at encoded s grants n).answer ∙ answers-length n

  -- the words of a call's answer have, after any number of later calls, what the call answered
  pub answers-read : (m n : ℕ) → n < m → 3 * m ≤ length answers →
      AnswerStands (answers_after encoded s grants answers m) n (result_at encoded s grants n).answer
  unfolding answers_after
  answers-read zero n l room = absurd (omega arith)
  answers-read (suc m) n l room =
      let a : List ℕ = answers_after encoded s grants answers m in
      let last : Answer = (result_at encoded s grants m).answer in
      ⊎_elim
      (λ (e : n ≡ m). rw e (answer-here a m last (omega (arith, answers-length m))))
      (λ (b : n < m).
      let before = answers-read m n b (omega arith) in (
        word-before a m last (3 * n) (omega arith) ∙ before.0,
        word-before a m last (3 * n + 1) (omega arith) ∙ before.1,
        word-before a m last (3 * n + 2) (omega arith) ∙ before.2,
      ))
      (below_suc l)

-- what n calls add up, call by call
pub sums-read : (encoded s grants : List ℕ) (amount : Call → Result → ℕ) (n : ℕ) →
    total amount (first_calls encoded grants n) s
    ≡ sum_to n (λ m. added (result_at encoded s grants m) (amount (call_at encoded grants m) (result_at encoded s grants m)))
unfolding first_calls total
sums-read encoded s grants amount zero = sym (sum_to-zero _)
sums-read encoded s grants amount (suc n) =
    total-last amount (first_calls encoded grants n) (call_at encoded grants n) s
    ∙ ap (λ (k : ℕ). k + added (result_at encoded s grants n) (amount (call_at encoded grants n) (result_at encoded s grants n)))
    (sums-read encoded s grants amount n)
    ∙ sym (sum_to-suc n (λ m. added (result_at encoded s grants m) (amount (call_at encoded grants m) (result_at encoded s grants m))))

-- for every sheet that opens and all words that are a list of calls: what `run_calls` leaves
pub run-balances : RunBalances
unfolding run
run-balances sheet words encoded grants answers e ok =
    let s : List ℕ = (opened sheet words).state in
    let count : ℕ = call_count encoded in
    let calls : List Call = calls_of encoded grants in
    rw ok
    (record {
      done = refl;
      balances = (balances-hold sheet words calls e).balances;
      words-say = (balances-hold sheet words calls e).words-say;
      buffers-say =
          record {
            grants-say = λ n l closing. granted-read encoded s grants count n l closing;
            answers-say = λ n l. answers-read encoded s grants answers count n l (accepted-room encoded (length answers) ok);
            sums-say = λ amount. sums-read encoded s grants amount count;
          };
    })
