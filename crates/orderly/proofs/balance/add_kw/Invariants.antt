-- `add_kw` meets its contract: the sums of the interties passed are filled, and the bits of their pairs are together.
use Rattle.base.proofs.Prelude.{◌+◌, ◌%◌, ◌^◌, ◌≡◌, ltb, sum_to, all_to, at, fill}
use Rattle.orderly.specs.Workers.Check.{pair_kw, pair_fits}
use Rattle.orderly.proofs.balance.add_kw.Given as goal

abbrev pub invariant-loop-intertie : goal.invariant-loop-intertie
invariant-loop-intertie g l =
    (ltb l.bits (2 ^ 25) ≡ all_to l.intertie (λ i. all_to g.row.N (λ k. pair_fits l.rows (l.holder + k) i)))
    × (l.sums ≡ fill l.intertie (λ i. (at l.initial.sums i + sum_to g.row.N (λ k. pair_kw l.rows (l.holder + k) i) % 2 ^ 32) % 2 ^ 32) l.initial.sums)
