-- A list of calls as 32-bit words (docs/RULES.md, "Balances of whole lists"), and what running it over lent words leaves.
use Rattle.std.specs.Prelude.{ℕ, zero, suc, ◌+◌, ◌*◌, ◌/◌, ◌%◌, ◌^◌, Bool, true, false, ◌&&◌, List, [], ◌∷◌, ◌++◌, leb, eqb}
use Rattle.std.specs.Prelude.{length, take, drop, set}
use Rattle.base.specs.Choice.{pick}
use Rattle.base.specs.Encoding.{call_words, answer_words, trade_call, request_call, close_call, take_call, move_call, lock_call}
use Rattle.base.specs.Limits.{grants_words}
use Rattle.base.specs.Sums.{sum_to, all_to}
use Rattle.base.specs.Words.{at}
use Rattle.base.specs.declared.Answer.{Answer}
use Rattle.balances.specs.Calls.{Call, Result, result, after}
use Rattle.balances.specs.Calls as Calls

-- how many calls the words are
abbrev pub call_count : List ℕ → ℕ
call_count encoded = length encoded / call_words

-- the words of call n
abbrev pub words_of : List ℕ → ℕ → List ℕ
words_of encoded n = take call_words (drop (call_words * n) encoded)

-- word 0 is the kind
abbrev pub kind_of : List ℕ → ℕ
kind_of words = at words 0

-- trade is the first kind, lock the last
abbrev pub known_kind : ℕ → Bool
known_kind kind = leb trade_call kind && leb kind lock_call

-- whether the words of a call are a closing's
abbrev pub is_closing : List ℕ → Bool
is_closing words = eqb (kind_of words) close_call

-- words 1 to 3 are numbers a, b, c; words 4 and 5 are the low and the high word of the kW
abbrev pub kw_of : ℕ → ℕ → ℕ
kw_of low high = low + 2 ^ 32 * high

-- a call that is no closing: trade a seller, b buyer; request a holder, b intertie; take a holder, b intertie, c day;
-- move a giver, b taker, c intertie; lock a holder, b intertie, c term
unfoldable pub numbered : (kind a b c kw : ℕ) → Call
numbered kind a b c kw =
    pick (eqb kind trade_call) (Calls.trade a b kw)
    (pick (eqb kind request_call) (Calls.request a b kw)
    (pick (eqb kind take_call) (Calls.take a b kw c)
    (pick (eqb kind move_call) (Calls.move a b c kw)
    (Calls.lock a b kw c))))

-- the call that words are; a closing gets the words of the grants buffer that are lent to it
abbrev pub call_of : List ℕ → List ℕ → Call
call_of words lent =
    pick (is_closing words) (Calls.close lent)
    (numbered (kind_of words) (at words 1) (at words 2) (at words 3) (kw_of (at words 4) (at words 5)))

-- the closings among the first n calls
unfoldable pub closings_before : List ℕ → ℕ → ℕ
closings_before encoded n = sum_to n (λ m. pick (is_closing (words_of encoded m)) 1 0)

-- closing k, counted from 0, is lent the k-th 1,536 words of the grants buffer, as many of them as there are
abbrev pub lent_to : List ℕ → ℕ → List ℕ
lent_to grants k = take grants_words (drop (grants_words * k) grants)

-- call n
unfoldable pub call_at : List ℕ → List ℕ → ℕ → Call
call_at encoded grants n = call_of (words_of encoded n) (lent_to grants (closings_before encoded n))

-- calls 0 to n - 1, and all calls
unfoldable pub first_calls : List ℕ → List ℕ → ℕ → List Call
first_calls encoded grants zero = []
first_calls encoded grants (suc n) = first_calls encoded grants n ++ (call_at encoded grants n ∷ [])

abbrev pub calls_of : List ℕ → List ℕ → List Call
calls_of encoded grants = first_calls encoded grants (call_count encoded)

-- whether the words are a list of calls, with room for the words of their answers
unfoldable pub accepted : List ℕ → ℕ → Bool
accepted encoded room =
    eqb (length encoded % call_words) 0
    && leb (answer_words * call_count encoded) room
    && all_to (call_count encoded) (λ n. known_kind (kind_of (words_of encoded n)))

-- the answers with those of call n written: refusal, kW, passes
abbrev pub with_answer : List ℕ → ℕ → Answer → List ℕ
with_answer answers n a =
    set (set (set answers (answer_words * n) a.refusal) (answer_words * n + 1) a.kw) (answer_words * n + 2) a.passes

-- the grants after a call: a closing puts what it was lent, as it left it, back at its place; other calls leave them
abbrev pub with_lent : List ℕ → List ℕ → ℕ → List ℕ → List ℕ
with_lent words grants from lent =
    pick (is_closing words) (take from grants ++ (lent ++ drop (from + grants_words) grants)) grants

module _ (encoded s grants : List ℕ) where
  -- what call n gives, on the state as the calls before it left it
  abbrev pub result_at : ℕ → Result
  result_at n = result (call_at encoded grants n) (after (first_calls encoded grants n) s)

  -- the grants buffer and the answers after the first n calls
  unfoldable pub grants_after : ℕ → List ℕ
  grants_after zero = grants
  grants_after (suc n) =
      with_lent (words_of encoded n) (grants_after n) (grants_words * closings_before encoded n) (result_at n).grants

  unfoldable pub answers_after : List ℕ → ℕ → List ℕ
  answers_after answers zero = answers
  answers_after answers (suc n) = with_answer (answers_after answers n) n (result_at n).answer

-- what a run leaves: whether the calls were run, and the lent words
pub record Ran : Type 0 where
  pub done : Bool
  pub state : List ℕ
  pub grants : List ℕ
  pub answers : List ℕ

-- all calls in order; words that are no list of calls, or have no room for the answers, leave everything as it was
unfoldable pub run : (encoded s grants answers : List ℕ) → Ran
run encoded s grants answers =
    pick (accepted encoded (length answers))
    (record {
      done = true;
      state = after (calls_of encoded grants) s;
      grants = grants_after encoded s grants (call_count encoded);
      answers = answers_after encoded s grants answers (call_count encoded);
    })
    (record { done = false; state = s; grants = grants; answers = answers })
