-- Laws of a year run from words: the state and the answers after one call more.
use Prim.Native.Nat.{ℕ, zero, suc, ◌+◌, ◌*◌, ◌≤◌, ◌<◌}
use mathlib.Core.Path.{◌≡◌, refl, ◌∙◌}
use mathlib.Core.List.{List}
use mathlib.Core.Logic.{◌≢◌, ⊎_elim}
use native.Mathlib.Omega.{arith}
use lib.ListN.{length, drop, set, length-set}
use lib.Seq.{get_or-set_same, get_or-set_other, get_or-take, get_or-drop}
use Rattle.base.specs.Words.{at}
use Rattle.base.specs.declared.Answer.{Answer}
use Rattle.base.proofs.SumLaws.{below_suc}
use Rattle.balances.specs.Calls.{result}
use Rattle.lists.specs.Encoded.{words_of, with_answer}
use Rattle.balances.proofs.ListLaws.{after_last}
use Rattle.year.specs.Year.{call_at, first_calls, state_after, answers_after}

-- word j of the six words of call n
pub word_of : (calls : List ℕ) (n j : ℕ) → j < 6 → at (words_of calls n) j ≡ at calls (6 * n + j)
word_of calls n j l = get_or-take 6 (drop (6 * n) calls) j 0 l ∙ get_or-drop (6 * n) calls j 0

pub state-next : (calls s : List ℕ) (n : ℕ) → state_after calls s (suc n) ≡ (result (call_at calls n) (state_after calls s n)).state
unfolding first_calls
state-next calls s n = after_last (first_calls calls n) (call_at calls n) s

-- the three words of an answer: the first is the refusal, words of other answers stay, and so does the length
pub answer-length : (l : List ℕ) (n : ℕ) (a : Answer) → length (with_answer l n a) ≡ length l
answer-length l n a =
    length-set (set (set l (3 * n) a.refusal) (3 * n + 1) a.kw) (3 * n + 2) a.passes
    ∙ length-set (set l (3 * n) a.refusal) (3 * n + 1) a.kw
    ∙ length-set l (3 * n) a.refusal

module _ (l : List ℕ) (n m : ℕ) (a : Answer) (other : (3 * m ≢ 3 * n + 1) × (3 * m ≢ 3 * n + 2)) where
  abbrev one : List ℕ
  one = set l (3 * n) a.refusal

  first_of : at (with_answer l n a) (3 * m) ≡ at one (3 * m)
  first_of =
      get_or-set_other (set one (3 * n + 1) a.kw) (3 * n + 2) (3 * m) a.passes 0 other.1
      ∙ get_or-set_other one (3 * n + 1) (3 * m) a.kw 0 other.0

pub refusal-here : (l : List ℕ) (n : ℕ) (a : Answer) → 3 * n < length l → at (with_answer l n a) (3 * n) ≡ a.refusal
refusal-here l n a inside = first_of l n n a ((omega arith), (omega arith)) ∙ get_or-set_same l (3 * n) a.refusal 0 inside

pub refusal-there : (l : List ℕ) (n m : ℕ) (a : Answer) → m < n → at (with_answer l n a) (3 * m) ≡ at l (3 * m)
refusal-there l n m a before =
    let ne : 3 * m ≢ 3 * n = omega arith in
    first_of l n m a ((omega arith), (omega arith)) ∙ get_or-set_other l (3 * n) (3 * m) a.refusal 0 ne

module _ (calls s answers : List ℕ) where
  pub answers-length : (n : ℕ) → length (answers_after calls s answers n) ≡ length answers
  unfolding answers_after
  answers-length zero = refl
  answers-length (suc n) =
      answer-length (answers_after calls s answers n) n (result (call_at calls n) (state_after calls s n)).answer ∙ answers-length n

  -- after n calls word 3·m is the refusal of call m
  pub refusal-read : (n m : ℕ) → m < n → 3 * n ≤ length answers →
      at (answers_after calls s answers n) (3 * m) ≡ (result (call_at calls m) (state_after calls s m)).answer.refusal
  unfolding answers_after
  refusal-read zero m l room = absurd (omega arith)
  refusal-read (suc n) m l room =
      let last : Answer = (result (call_at calls n) (state_after calls s n)).answer in
      ⊎_elim
      (λ (e : m ≡ n).
      rw e (refusal-here (answers_after calls s answers n) n last (omega (arith, answers-length n))))
      (λ (b : m < n).
      refusal-there (answers_after calls s answers n) n m last b ∙ refusal-read n m b (omega arith))
      (below_suc l)
