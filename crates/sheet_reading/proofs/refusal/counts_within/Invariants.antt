-- `refusal::counts_within` meets its contract: the test of the slots so far.
use Rattle.base.proofs.Prelude.{◌≡◌, all_to, at}
use Rattle.sheet_records.specs.Refusal.{within}
use Rattle.sheet_reading.proofs.refusal.counts_within.Given as goal

abbrev pub invariant-loop-count : goal.invariant-loop-count
invariant-loop-count g l = l.hold ≡ all_to l.count-index (λ k. within g.row.LEAST g.row.MOST (at l.counts k))
