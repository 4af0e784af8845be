-- A year run from the words of a journal: its calls one after the other, each closing with a grants buffer of zeros.
use Rattle.std.specs.Prelude.{ℕ, zero, suc, ◌≡◌, List, [], ◌∷◌, ◌++◌, replicate}
use Rattle.base.specs.Limits.{grants_words}
use Rattle.balances.specs.Calls.{Call, result, after}
use Rattle.lists.specs.Encoded.{words_of, call_of, with_answer}

-- the grants buffer of a closing
abbrev pub zeros : List ℕ
zeros = replicate grants_words 0

-- call n, and calls 0 to n - 1
unfoldable pub call_at : List ℕ → ℕ → Call
call_at calls n = call_of (words_of calls n) zeros

unfoldable pub first_calls : List ℕ → ℕ → List Call
first_calls calls zero = []
first_calls calls (suc n) = first_calls calls n ++ (call_at calls n ∷ [])

-- the state after n calls, from the state s on
abbrev pub state_after : List ℕ → List ℕ → ℕ → List ℕ
state_after calls s n = after (first_calls calls n) s

-- the answers after n calls
unfoldable pub answers_after : (calls s answers : List ℕ) → ℕ → List ℕ
answers_after calls s answers zero = answers
answers_after calls s answers (suc n) =
    with_answer (answers_after calls s answers n) n (result (call_at calls n) (state_after calls s n)).answer

-- all of the first `count` calls were run
abbrev pub YearRan : (calls s answers : List ℕ) (count : ℕ) (t a : List ℕ) → Type 0
YearRan calls s answers count t a = (t ≡ state_after calls s count) × (a ≡ answers_after calls s answers count)
