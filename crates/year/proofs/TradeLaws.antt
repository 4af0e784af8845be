-- What `control` sums as bought and sold is what the list of calls bought and sold (balances, `Amounts`).
use Prim.Native.Nat.{ℕ, zero, suc, ◌*◌, ◌≤◌, ◌<◌, min}
use mathlib.Core.Path.{◌≡◌, refl, sym, ap, ◌∙◌}
use mathlib.Core.Bool.{true, false, ◌&&◌}
use mathlib.Core.List.{List}
use mathlib.Core.Logic.{◌≢◌}
use native.Mathlib.Omega.{arith}
use native.Mathlib.Decide.{ℕ_discrete}
use native.Mathlib.Nat.{le_refl}
use lib.Dec.{eqb}
use lib.ListN.{length, take}
use borrow.Author.Tests.{eq-eqb, ne_eqb}
use Rattle.base.specs.Choice.{pick}
use Rattle.base.specs.Sums.{sum_to}
use Rattle.base.specs.Words.{at}
use Rattle.base.specs.Answers.{granted}
use Rattle.base.proofs.ChoiceLaws.{pick-by}
use Rattle.base.proofs.SumLaws.{sum_to-zero, sum_to-suc}
use Rattle.trading.specs.Trade as Trade
use Rattle.trading.proofs.TradeLaws.{trade-done, trade-granted, trade-refused}
use Rattle.balances.specs.Calls.{Call, trade, request, close, move, lock, Result, no_grants, result}
use Rattle.balances.specs.Calls as Calls
use Rattle.lists.specs.Encoded.{words_of, kw_of, call_of, numbered}
use Rattle.balances.specs.Amounts.{bought_in, sold_in, added, total}
use Rattle.balances.specs.Amounts as Amounts
use Rattle.balances.proofs.ListLaws.{total-last}
use Rattle.control_room.specs.Trades.{traded_in}
use Rattle.control_room.specs.Trades as Trades
use Rattle.control_room.proofs.CutLaws.{bought-of-calls, sold-of-calls}
use Rattle.year.specs.Year.{zeros, call_at, first_calls, state_after, answers_after}
use Rattle.year.proofs.YearLaws.{word_of, answers-length, refusal-read}

added_none : (r : Result) → added r 0 ≡ 0
added_none r = pick-by (λ x. x ≡ 0) (eqb r.answer.refusal 0) 0 0 (λ t. refl) (λ f. refl)

-- an amount of trades alone, by word k of the six words: 1 the seller, 2 the buyer
pub record Traded (amount : Call → Result → ℕ) (k h : ℕ) : Type 0 where
  pub of-trade : (words : List ℕ) (kw : ℕ) (r : Result) → amount (trade (at words 1) (at words 2) kw) r ≡ pick (eqb h (at words k)) kw 0
  pub of-request : (a b kw : ℕ) (r : Result) → amount (request a b kw) r ≡ 0
  pub of-close : (g : List ℕ) (r : Result) → amount (close g) r ≡ 0
  pub of-take : (a b kw c : ℕ) (r : Result) → amount (Calls.take a b kw c) r ≡ 0
  pub of-move : (a b c kw : ℕ) (r : Result) → amount (move a b c kw) r ≡ 0
  pub of-lock : (a b kw c : ℕ) (r : Result) → amount (lock a b kw c) r ≡ 0

bought-traded : (h : ℕ) → Traded (bought_in h) 2 h
unfolding bought_in
bought-traded h =
    record {
      of-trade = λ words kw r. refl;
      of-request = λ a b kw r. refl;
      of-close = λ g r. refl;
      of-take = λ a b kw c r. refl;
      of-move = λ a b c kw r. refl;
      of-lock = λ a b kw c r. refl;
    }

sold-traded : (h : ℕ) → Traded (sold_in h) 1 h
unfolding sold_in
sold-traded h =
    record {
      of-trade = λ words kw r. refl;
      of-request = λ a b kw r. refl;
      of-close = λ g r. refl;
      of-take = λ a b kw c r. refl;
      of-move = λ a b c kw r. refl;
      of-lock = λ a b kw c r. refl;
    }

module _ (amount : Call → Result → ℕ) (k h : ℕ) (traded : Traded amount k h) (words s : List ℕ) where
  abbrev kind : ℕ
  kind = at words 0

  abbrev kw : ℕ
  kw = kw_of (at words 4) (at words 5)

  -- the kW that six words count where their call is answered with a refusal
  abbrev counted : ℕ → ℕ
  counted refusal = pick ((eqb kind 1 && eqb refusal 0) && eqb h (at words k)) (at words 4) 0

  abbrev gives : Result
  gives = result (call_of words zeros) s

  -- a trade: a granted one has at most 20,000,000 kW, so the low word is all of it
  trade-counts : kind ≡ 1 → counted gives.answer.refusal ≡ added gives (amount (call_of words zeros) gives)
  unfolding numbered result
  trade-counts e =
      let one : eqb kind 1 ≡ true = eq-eqb kind 1 e in
      let three : eqb kind 3 ≡ false = ne_eqb kind 3 (omega arith) in
      rw (one, three)
      (elim (ℕ_discrete (Trade.trade_refusal s (at words 1) (at words 2) kw) 0) [
        | yes z ↦
            let low : kw ≡ at words 4 = omega (arith, (trade-done s (at words 1) (at words 2) kw z).kw-few) in
            rw (trade-granted s (at words 1) (at words 2) kw z, traded.of-trade words kw (no_grants (record { answer = granted kw 0; state = Trade.trade_state s (at words 1) (at words 2) kw })), low)
            refl
        | no some ↦
            rw (trade-refused s (at words 1) (at words 2) kw some, ne_eqb (Trade.trade_refusal s (at words 1) (at words 2) kw) 0 some)
            refl
      ])

  -- another call counts nothing
  other-names-none : kind ≢ 1 → (r : Result) → amount (call_of words zeros) r ≡ 0
  unfolding numbered
  other-names-none n1 r =
      let a : ℕ = at words 1 in
      let b : ℕ = at words 2 in
      let c : ℕ = at words 3 in
      let none : Call → Type 0 = λ call. amount call r ≡ 0 in
      rw (ne_eqb kind 1 n1)
      (pick-by none (eqb kind 3) (close zeros) _ (λ t. traded.of-close zeros r)
      (λ f3.
      pick-by none (eqb kind 2) (request a b kw) _ (λ t. traded.of-request a b kw r)
      (λ f2.
      pick-by none (eqb kind 4) (Calls.take a b kw c) _ (λ t. traded.of-take a b kw c r)
      (λ f4.
      pick-by none (eqb kind 5) (move a b c kw) (lock a b kw c) (λ t. traded.of-move a b c kw r) (λ f5. traded.of-lock a b kw c r)))))

  other-counts : kind ≢ 1 → counted gives.answer.refusal ≡ added gives (amount (call_of words zeros) gives)
  other-counts n1 =
      let none : counted gives.answer.refusal ≡ 0 = rw (ne_eqb kind 1 n1) in
      none ∙ sym (ap (added gives) (other-names-none n1 gives) ∙ added_none gives)

  call-counts : counted gives.answer.refusal ≡ added gives (amount (call_of words zeros) gives)
  call-counts =
      elim (ℕ_discrete kind 1) [
        | yes e ↦ trade-counts e
        | no n1 ↦ other-counts n1
      ]

module _ (amount : Call → Result → ℕ) (k h : ℕ) (traded : Traded amount k h) (party : k < 6) (calls s answers : List ℕ) (count : ℕ) (room : 3 * count ≤ length answers) where
  abbrev all : List ℕ
  all = answers_after calls s answers count

  -- what call n counts
  abbrev counts : ℕ → ℕ
  counts n = traded_in calls all k h n

  counts-one : (n : ℕ) → n < count →
      counts n ≡ added (result (call_at calls n) (state_after calls s n)) (amount (call_at calls n) (result (call_at calls n) (state_after calls s n)))
  unfolding call_at
  counts-one n l =
      let words : List ℕ = words_of calls n in
      let first : at words 0 ≡ at calls (6 * n) = word_of calls n 0 (omega arith) ∙ ap (at calls) (omega arith) in
      let refusal : at all (3 * n) ≡ (result (call_of words zeros) (state_after calls s n)).answer.refusal = refusal-read calls s answers count n l room in
      rw (refusal, sym first, sym (word_of calls n k party), sym (word_of calls n 4 (omega arith)))
      (call-counts amount k h traded words (state_after calls s n))

  counts_all : (n : ℕ) → n ≤ count → sum_to n counts ≡ total amount (first_calls calls n) s
  unfolding first_calls total
  counts_all zero l = sum_to-zero counts
  counts_all (suc n) l =
      sum_to-suc n counts
      ∙ (omega (arith, counts_all n (omega arith), counts-one n l, total-last amount (first_calls calls n) (call_at calls n) s))

-- of the first `count` calls: what the control room reads as bought and sold is what the list bought and sold
module _ (calls s answers : List ℕ) (count : ℕ) (few : count ≤ 16384) (room : 3 * count ≤ length answers) (h : ℕ) where
  pub bought-is : Trades.bought calls (answers_after calls s answers count) count h ≡ Amounts.bought (first_calls calls count) s h
  unfolding Trades.bought
  bought-is =
      let all : min count 16384 ≡ count = omega arith in
      ap (λ n. sum_to n (traded_in calls (answers_after calls s answers count) 2 h)) all
      ∙ counts_all (bought_in h) 2 h (bought-traded h) (omega arith) calls s answers count room count (le_refl count)

  pub sold-is : Trades.sold calls (answers_after calls s answers count) count h ≡ Amounts.sold (first_calls calls count) s h
  unfolding Trades.sold
  sold-is =
      let all : min count 16384 ≡ count = omega arith in
      ap (λ n. sum_to n (traded_in calls (answers_after calls s answers count) 1 h)) all
      ∙ counts_all (sold_in h) 1 h (sold-traded h) (omega arith) calls s answers count room count (le_refl count)

  -- as the program asks for them: the words of the calls alone, with all answers
  module _ (words : 6 * count ≤ length calls) where
    abbrev cut : List ℕ
    cut = take (6 * count) calls

    abbrev all-answers : List ℕ
    all-answers = answers_after calls s answers count

    told : 3 * count ≤ length all-answers
    told = omega (arith, room, answers-length calls s answers count)

    pub printed-bought-is : Trades.bought cut all-answers (Trades.called_count cut all-answers) h ≡ Amounts.bought (first_calls calls count) s h
    printed-bought-is = bought-of-calls calls all-answers count words told h ∙ bought-is

    pub printed-sold-is : Trades.sold cut all-answers (Trades.called_count cut all-answers) h ≡ Amounts.sold (first_calls calls count) s h
    printed-sold-is = sold-of-calls calls all-answers count words told h ∙ sold-is
