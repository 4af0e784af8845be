-- `among_holders` meets its contract: the shift is a power of 2, and what it leaves over is no more than the mask.
use Rattle.base.proofs.Prelude.{ℕ, ◌*◌, ◌%◌, ◌^◌, ◌≤◌, ◌≡◌, ap, ◌∙◌, arith}
use native.Mathlib.Nat.{one-mul, mod-le, lt_of_le_of_lt}
use lib.Pow.{shl_exact, pow_pos}
use Rattle.state.specs.Layout.{holders}
use Rattle.weights.proofs.Holders.among_holders.Goals as goal

-- the shift is a power of 2
shifted : (n : ℕ) → n ≤ 32 → (1 * 2 ^ n) % 2 ^ 64 ≡ 2 ^ n
shifted n l = shl_exact {a = 1} 1 n 64 (omega arith) (omega arith) ∙ one-mul (2 ^ n)

pub nonzero_rem-result : goal.nonzero_rem-result
nonzero_rem-result c = rw (shifted c.count.result c.count.ensures.1) (pow_pos c.count.result)

pub overflow_cast-result-2 : goal.overflow_cast-result-2
overflow_cast-result-2 c = record { fits = lt_of_le_of_lt (mod-le c.from.result _) (omega (arith, c.from.ensures, c.ranges.sellers.fits)) }

pub returns : goal.returns
returns c =
    ap (λ (k : ℕ). c.from.result % k) (shifted c.count.result c.count.ensures.1 ∙ ap (λ (k : ℕ). 2 ^ k) c.count.ensures.0)
    ∙ ap (λ (k : ℕ). k % 2 ^ holders c.args.self.now) c.from.ensures
