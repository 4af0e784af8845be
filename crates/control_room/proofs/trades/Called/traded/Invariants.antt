-- `Called::traded` meets its contract: after some turns the sum is that of as many calls.
use Rattle.base.proofs.Prelude.{◌*◌, ◌≤◌, ◌≡◌, length, sum_to}
use Rattle.control_room.specs.Trades.{word_of, traded_in}
use Rattle.control_room.proofs.trades.Called.traded.Given as goal

abbrev pub invariant-loop-call : goal.invariant-loop-call
invariant-loop-call l =
    (l.sum ≤ 4294967295 * length l.yielded)
    × (l.sum ≡ sum_to (length l.yielded) (traded_in l.fn.self.calls.now l.fn.self.answers.now (word_of l.party) l.holder))
