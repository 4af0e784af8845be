-- What `run_calls` leaves in the three buffers that it is lent, of a year that a sheet opened to (docs/RULES.md, "Balances of whole
-- lists"): the balances hold of the state, the grants have what each closing granted, and the answers what each call answered.
use Rattle.std.specs.Prelude.{ℕ, ◌+◌, ◌*◌, ◌<◌, ◌≡◌, true, List, length}
use Rattle.base.specs.Encoding.{answer_words}
use Rattle.base.specs.Sums.{sum_to}
use Rattle.base.specs.Words.{at}
use Rattle.base.specs.declared.Answer.{Answer}
use Rattle.steps.specs.Inputs.{of_sheet}
use Rattle.opening.specs.Open.{open_refusal, opened}
use Rattle.balances.specs.Calls.{Call, Result}
use Rattle.balances.specs.Amounts.{added, total}
use Rattle.balances.specs.Balances.{Balances, StillSays}
use Rattle.lists.specs.Encoded.{call_count, words_of, is_closing, closings_before, lent_to, call_at, calls_of, accepted}
use Rattle.lists.specs.Encoded.{result_at, Ran, run}

-- the three words of call n's answer: refusal, kW, passes
abbrev pub AnswerStands : List ℕ → ℕ → Answer → Type 0
AnswerStands answers n a =
    (at answers (answer_words * n) ≡ a.refusal)
    × (at answers (answer_words * n + 1) ≡ a.kw)
    × (at answers (answer_words * n + 2) ≡ a.passes)

-- what the calls leave that start from the state s
pub record BuffersSay (encoded s grants : List ℕ) (ran : Ran) : Type 0 where
  -- the words of the grants that a closing was lent are as it left them
  pub grants-say : (n : ℕ) → n < call_count encoded → is_closing (words_of encoded n) ≡ true →
      lent_to ran.grants (closings_before encoded n) ≡ (result_at encoded s grants n).grants
  -- words 3·n to 3·n + 2 of the answers are those of call n
  pub answers-say : (n : ℕ) → n < call_count encoded → AnswerStands ran.answers n (result_at encoded s grants n).answer
  -- and what the list adds up (balances, `Amounts`) is added up over these results
  pub sums-say : (amount : Call → Result → ℕ) →
      total amount (calls_of encoded grants) s
      ≡ sum_to (call_count encoded) (λ n. let r = result_at encoded s grants n in added r (amount (call_at encoded grants n) r))

-- a year that a sheet opened to, and the words of a list
pub record RunLeaves (sheet words encoded grants : List ℕ) (ran : Ran) : Type 0 where
  pub done : ran.done ≡ true
  pub balances : Balances (of_sheet sheet) (calls_of encoded grants) (opened sheet words).state ran.state
  pub words-say : StillSays (of_sheet sheet) (calls_of encoded grants) (opened sheet words).state ran.state
  pub buffers-say : BuffersSay encoded (opened sheet words).state grants ran

-- every sheet that opens, and all words that are a list of calls with room for the answers
abbrev pub RunBalances : Type 0
RunBalances =
    (sheet words encoded grants answers : List ℕ) → open_refusal sheet words ≡ 0 → accepted encoded (length answers) ≡ true →
    RunLeaves sheet words encoded grants (run encoded (opened sheet words).state grants answers)
