-- `all_of` meets its contract: the numbers passed are tested, whatever the test says of each.
use Rattle.base.proofs.Prelude.{ℕ, ◌<◌, ◌≡◌, Bool, all_to}
use Rattle.orderly.proofs.all_of.Given as goal

abbrev pub invariant-loop-n : goal.invariant-loop-n
invariant-loop-n g l =
    (p : ℕ → Bool) → ((n : ℕ) (b : Bool) → n < l.count → goal.F-post g l.test n b → b ≡ p n) → l.all ≡ all_to l.n p
