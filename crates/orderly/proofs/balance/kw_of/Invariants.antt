-- `kw_of` meets its contract: the kW of the holders passed are added in 32 bits, and their bits are together.
use Rattle.base.proofs.Prelude.{◌+◌, ◌%◌, ◌^◌, ◌≡◌, ltb, sum_to, all_to}
use Rattle.orderly.specs.Workers.Check.{pair_kw, pair_fits}
use Rattle.orderly.proofs.balance.kw_of.Given as goal

abbrev pub invariant-loop-k : goal.invariant-loop-k
invariant-loop-k g l =
    (l.sum ≡ sum_to l.k (λ k. pair_kw l.rows (l.holder + k) l.intertie) % 2 ^ 32)
    × (ltb l.bits (2 ^ 25) ≡ all_to l.k (λ k. pair_fits l.rows (l.holder + k) l.intertie))
