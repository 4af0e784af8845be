-- What a holder bought and sold by a list of calls, from the words of the calls and of their answers.
use Rattle.std.specs.Prelude.{ℕ, ◌+◌, ◌*◌, ◌/◌, min, Bool, ◌&&◌, List, eqb, length}
use Rattle.base.specs.Choice.{pick}
use Rattle.base.specs.Encoding.{call_words, answer_words, trade_call}
use Rattle.base.specs.Sums.{sum_to}
use Rattle.base.specs.Words.{at}
use Rattle.journal.specs.Sizes.{most_calls}
use Rattle.control_room.specs.declared.trades.Party.{Party}
use Rattle.control_room.specs.declared.trades.Party.TheVariants.{Seller, Buyer}

-- the words of a trade: its kind is the first
abbrev pub seller_word : ℕ
seller_word = 1

abbrev pub buyer_word : ℕ
buyer_word = 2

abbrev pub kw_word : ℕ
kw_word = 4

-- the word of a party
abbrev pub word_of : Party → ℕ
word_of Seller = seller_word
word_of Buyer = buyer_word

-- how many calls lists of words have with an answer
abbrev pub called_count : List ℕ → List ℕ → ℕ
called_count calls answers = min (length calls / call_words) (length answers / answer_words)

-- word k of call n
abbrev pub call_word : List ℕ → ℕ → ℕ → ℕ
call_word calls n k = at calls (call_words * n + k)

-- a granted trade: a trade whose refusal is 0
abbrev pub granted_trade : List ℕ → List ℕ → ℕ → Bool
granted_trade calls answers n = eqb (at calls (call_words * n)) trade_call && eqb (at answers (answer_words * n)) 0

-- the kW of call n where it is a granted trade that names holder h as the party; the low word has them all, as a granted
-- trade has at most 20,000,000
abbrev pub traded_in : List ℕ → List ℕ → ℕ → ℕ → ℕ → ℕ
traded_in calls answers party h n =
    pick (granted_trade calls answers n && eqb h (call_word calls n party)) (call_word calls n kw_word) 0

-- the same of a call and its answer by themselves
abbrev pub traded_by : List ℕ → List ℕ → ℕ → ℕ → ℕ
traded_by call answer party h =
    pick ((eqb (at call 0) trade_call && eqb (at answer 0) 0) && eqb h (at call party)) (at call kw_word) 0

-- what holder h bought and sold by the first `count` calls, as far as there are words
unfoldable pub bought : List ℕ → List ℕ → ℕ → ℕ → ℕ
bought calls answers count h = sum_to (min count most_calls) (traded_in calls answers buyer_word h)

unfoldable pub sold : List ℕ → List ℕ → ℕ → ℕ → ℕ
sold calls answers count h = sum_to (min count most_calls) (traded_in calls answers seller_word h)
