-- A year on the sheet of case i in which a call of each kind is granted and a trade is refused; and the same year as words.
use Prim.Native.Nat.{ℕ}
use mathlib.Core.Path.{◌≡◌, refl}
use mathlib.Core.Bool.{true, false}
use mathlib.Core.List.{List, [], ◌∷◌}
use lib.ListN.{replicate}
use Rattle.base.specs.Sums as BaseSums
use Rattle.base.specs.Words as BaseWords
use Rattle.share_out.specs.Pass as ShareOutPass
use Rattle.share_out.specs.Rule as ShareOutRule
use Rattle.sheet_records.specs.Refusal as SheetRefusal
use Rattle.sheet_records.specs.Sheet as SheetSheet
use Rattle.step_4b.specs.NewUse as NewUseNewUse
use Rattle.step_5.specs.Round as Step5Round
use Rattle.step_5.specs.Shares as Step5Shares
use Rattle.steps.specs.Step2 as StepsStep2
use Rattle.steps.specs.Step4a as StepsStep4a
use Rattle.steps.specs.Step4b as StepsStep4b
use Rattle.steps.specs.Step5to7 as StepsStep5to7
use Rattle.state.specs.Orderly as StateOrderly
use Rattle.state_rows.specs.Rows as RowsRows
use Rattle.opening.specs.Open as OpeningOpen
use Rattle.opening.specs.Opened as OpeningOpened
use Rattle.trading.specs.Request as TradingRequest
use Rattle.trading.specs.Trade as TradingTrade
use Rattle.holding.specs.Lock as HoldingLock
use Rattle.holding.specs.Move as HoldingMove
use Rattle.taking.specs.Take as TakingTake
use Rattle.closing.specs.Close as ClosingClose
use Rattle.weights.specs.Weight as ClosingWeight
use Rattle.intertie_shares.specs.Rule as IntertiesRule
use Rattle.balances.specs.Calls.{Call, trade, request, close, take, move, lock, result, after}
use Rattle.lists.specs.Encoded.{numbered, kw_of, closings_before, call_at, first_calls, calls_of, accepted}
use Rattle.balances.specs.Amounts.{bought_in, sold_in, closed_in, taken_in, locked_in, total}

-- case i: I 1, H 3, limit 110,000, outside 10,000, load shares 50,000, 30,000 and 20,000, holder 2 existing 30,000
unfoldable pub sheet_i : List ℕ
sheet_i = 1 ∷ 0 ∷ 0 ∷ 0 ∷ 3 ∷ 0 ∷ 0 ∷ 0 ∷ 6 ∷ 0 ∷ 0 ∷ 0 ∷ 1 ∷ 0 ∷ 0 ∷ 0 ∷ 2 ∷ 0 ∷ 0 ∷ 0 ∷ 3 ∷ 0 ∷ 0 ∷ 0 ∷ 19 ∷ 0 ∷ 0 ∷ 0 ∷ 35 ∷ 0 ∷ 0 ∷ 0 ∷ 36 ∷ 0 ∷ 0 ∷ 1 ∷ 176 ∷ 173 ∷ 1 ∷ 0 ∷ 16 ∷ 39 ∷ 0 ∷ 0 ∷ 80 ∷ 195 ∷ 0 ∷ 0 ∷ 48 ∷ 117 ∷ 0 ∷ 0 ∷ 32 ∷ 78 ∷ 0 ∷ 0 ∷ 48 ∷ 117 ∷ 0 ∷ 0 ∷ []

unfoldable pub words : List ℕ
words = replicate 16000 0

unfoldable pub room : List ℕ
room = replicate 1536 7

unfoldable pub year : List Call
year =
    trade 0 1 5000
    ∷ trade 0 1 50000
    ∷ close room
    ∷ request 0 0 30000
    ∷ close room
    ∷ close room
    ∷ move 0 1 0 1000
    ∷ lock 0 0 29000 3
    ∷ take 2 0 400 8
    ∷ []

-- the sheet opens
pub opens : OpeningOpen.open_refusal sheet_i words ≡ 0
unfolding sheet_i words BaseSums.sum_to BaseSums.all_to SheetRefusal.bad_length SheetRefusal.bad_sizes SheetRefusal.record_stands SheetRefusal.records_stand SheetRefusal.one_limit_each SheetRefusal.one_load_share_each SheetRefusal.no_rank_twice SheetRefusal.rules_hold SheetRefusal.limits_hold SheetRefusal.sheet_refusal SheetSheet.word_at SheetSheet.sum_over SheetSheet.limit SheetSheet.outside SheetSheet.existing SheetSheet.existing_on OpeningOpen.open_refusal
opens = refl

-- all of the nine calls but the second trade, which the seller can't cover, are granted
pub granted-calls : total (λ call r. 1) year (OpeningOpen.opened sheet_i words).state ≡ 8
unfolding result after bought_in sold_in closed_in taken_in locked_in total sheet_i words room year BaseSums.sum_to BaseSums.all_to BaseWords.tab BaseWords.fill ShareOutPass.is_open ShareOutPass.open_weights ShareOutPass.by_weight ShareOutPass.one_each ShareOutPass.unweighted ShareOutPass.pass_kw ShareOutPass.pass_total ShareOutPass.pass_grants ShareOutRule.run_passes ShareOutRule.shared ShareOutRule.unfit_numbers ShareOutRule.shared_answer ShareOutRule.share_out SheetRefusal.bad_length SheetRefusal.bad_sizes SheetRefusal.record_stands SheetRefusal.records_stand SheetRefusal.one_limit_each SheetRefusal.one_load_share_each SheetRefusal.no_rank_twice SheetRefusal.rules_hold SheetRefusal.limits_hold SheetRefusal.sheet_refusal SheetSheet.word_at SheetSheet.sum_over SheetSheet.limit SheetSheet.outside SheetSheet.load_share SheetSheet.existing SheetSheet.existing_on SheetSheet.pre_ra SheetSheet.new_use_kw SheetSheet.new_use_intertie NewUseNewUse.next_rank NewUseNewUse.after_ranks NewUseNewUse.new_use Step5Round.gross_remaining Step5Round.eligible_loads Step5Round.excludes Step5Round.newly_excluded Step5Round.round_marks Step5Shares.rounds Step5Shares.settled Step5Shares.share_of Step5Shares.step5_shares StepsStep2.available StepsStep2.available_total StepsStep2.all_load_shares StepsStep2.load_share_quantity StepsStep4a.existing_on StepsStep4a.left_by_step3 StepsStep4a.pre_ra_claim StepsStep4a.pre_ra_shared StepsStep4a.pre_ra_granted StepsStep4a.left_by_step4a StepsStep4b.allowance StepsStep4b.cover StepsStep4b.new_use_kept StepsStep4b.new_use_claim StepsStep4b.new_use_shared StepsStep4b.new_use_granted StepsStep5to7.held_on StepsStep5to7.held StepsStep5to7.reserved_on StepsStep5to7.step5_share StepsStep5to7.step7_total StepsStep5to7.unassigned StateOrderly.sizes_in_range StateOrderly.stage_in_range StateOrderly.limits_in_range StateOrderly.load_shares_in_range StateOrderly.balanced StateOrderly.locked_within_placed StateOrderly.pending_within_unplaced StateOrderly.kw_in_range StateOrderly.takings_in_range StateOrderly.sellers_are_holders StateOrderly.terms_fit StateOrderly.orderly StateOrderly.state_refusal RowsRows.fill_row RowsRows.fill_pairs OpeningOpen.open_refusal OpeningOpen.opened OpeningOpened.size_words OpeningOpened.figure_words OpeningOpened.reserved_words OpeningOpened.stage_words OpeningOpened.cleared_words OpeningOpened.opened_state TradingRequest.request_refusal TradingRequest.request_state TradingRequest.request TradingTrade.trade_refusal TradingTrade.trade_state TradingTrade.trade HoldingLock.lock_refusal HoldingLock.lock_state HoldingLock.lock HoldingMove.move_refusal HoldingMove.move_state HoldingMove.move TakingTake.take_refusal TakingTake.take_state TakingTake.take ClosingClose.close_refusal ClosingClose.close_grant ClosingClose.close_kw ClosingClose.close_passes ClosingClose.close_state ClosingClose.close_grants ClosingClose.close ClosingWeight.sellers_count ClosingWeight.sellers_load ClosingWeight.average_load ClosingWeight.weight_of IntertiesRule.among_holders IntertiesRule.share_out_each
granted-calls = refl

-- the same year as words: six to a call, and the numbers of a closing are not read
unfoldable pub year_words : List ℕ
year_words =
    1 ∷ 0 ∷ 1 ∷ 0 ∷ 5000 ∷ 0
    ∷ 1 ∷ 0 ∷ 1 ∷ 0 ∷ 50000 ∷ 0
    ∷ 3 ∷ 0 ∷ 0 ∷ 0 ∷ 0 ∷ 0
    ∷ 2 ∷ 0 ∷ 0 ∷ 0 ∷ 30000 ∷ 0
    ∷ 3 ∷ 0 ∷ 0 ∷ 0 ∷ 0 ∷ 0
    ∷ 3 ∷ 9 ∷ 9 ∷ 9 ∷ 9 ∷ 9
    ∷ 5 ∷ 0 ∷ 1 ∷ 0 ∷ 1000 ∷ 0
    ∷ 6 ∷ 0 ∷ 0 ∷ 3 ∷ 29000 ∷ 0
    ∷ 4 ∷ 2 ∷ 0 ∷ 8 ∷ 400 ∷ 0
    ∷ []

pub year-as-words : calls_of year_words (replicate 4608 7) ≡ year
unfolding year_words room year BaseSums.sum_to numbered closings_before call_at first_calls
year-as-words = refl

-- nine calls need 27 words of answers
pub year-accepted : accepted year_words 27 ≡ true
unfolding year_words BaseSums.all_to accepted
year-accepted = refl

pub year-without-room : accepted year_words 26 ≡ false
unfolding year_words BaseSums.all_to accepted
year-without-room = refl

-- a high word of 1 is 4,294,967,296 kW
pub high_word : kw_of 5 1 ≡ 4294967301
high_word = refl
