-- Refusal 9 as the code decides it: the pool first, then holder by holder.
use Prim.Native.Nat.{ℕ, ◌+◌, ◌%◌, ◌≤◌, ◌<◌}
use mathlib.Core.Path.{◌≡◌}
use mathlib.Core.Bool.{Bool, true, false, not, ◌&&◌}
use mathlib.Core.List.{List}
use native.Mathlib.Nat.{mod-eq_of_lt}
use native.Mathlib.Omega.{arith}
use lib.Bits.{bit_or}
use lib.ListN.{length}
use lib.Dec.{ltb, leb}
use borrow.Author.Tests.{lt-ltb, le-ltb, ltb-false, ltb-true, leb-true, le-leb, not-false}
use Rattle.std.specs.List.{fold}
use Rattle.base.specs.Sums.{all_to}
use Rattle.base.specs.Words.{at}
use Rattle.base.proofs.ChoiceLaws.{and_left, and_right, and_both, or_left, or_right}
use Rattle.base.proofs.ListLaws.{fold-or-most}
use Rattle.base.proofs.SumLaws.{all_to-each, all_to-all, all_to-both}
use Rattle.base.proofs.TestLaws.{or-left-most, or-right-most}
use Rattle.share_out.specs.Rule.{in_range, unfit_numbers}
use Rattle.share_out.specs.Workers.Fit.{AtMost, Covered, raised}

pub pool-over : (pool : ℕ) (claims weights : List ℕ) → 20000000 < pool → unfit_numbers pool claims weights ≡ true
unfolding unfit_numbers
pool-over pool claims weights h = rw (lt-ltb 20000000 pool h)

pub all_fit : (pool : ℕ) (claims weights : List ℕ) → pool ≤ 20000000 → all_to (length claims) (in_range claims weights) ≡ true →
    unfit_numbers pool claims weights ≡ false
unfolding unfit_numbers
all_fit pool claims weights p a = rw (le-ltb 20000000 pool p, a)

-- what is known of the numbers once refusal 9 is decided
pub fit-pool : (pool : ℕ) (claims weights : List ℕ) → unfit_numbers pool claims weights ≡ false → pool ≤ 20000000
unfolding unfit_numbers
fit-pool pool claims weights e = ltb-false 20000000 pool (or_left (ltb 20000000 pool) _ e)

module _ (pool : ℕ) (claims weights : List ℕ) (e : unfit_numbers pool claims weights ≡ false) where
  ranged : (i : ℕ) → i < length claims → in_range claims weights i ≡ true
  unfolding unfit_numbers
  ranged i l =
      all_to-each (length claims) (in_range claims weights)
      (not-false (all_to (length claims) (in_range claims weights)) (or_right (ltb 20000000 pool) _ e)) i l

  pub fit-claims : AtMost (length claims) claims 20480000000
  fit-claims i l = leb-true (at claims i) 20480000000 (and_left (leb (at claims i) 20480000000) (leb (at weights i) 100000000) (ranged i l))

  pub fit-weights : AtMost (length claims) weights 100000000
  fit-weights i l = leb-true (at weights i) 100000000 (and_right (leb (at claims i) 20480000000) (leb (at weights i) 100000000) (ranged i l))

-- bits put together over a list cover what they are put together of
pub covers : (f : ℕ → ℕ) (l : List ℕ) (bits : ℕ) → bits ≡ fold (λ most number. bit_or most (f number)) 0 l → Covered (length l) (λ i. f (at l i)) bits
covers f l bits e i h = rw e (fold-or-most f 0 l i h)

-- a weight whose raised bits are below 2 ^ 27 is in range
raised-most : (weight : ℕ) → raised weight < 134217728 → weight ≤ 100000000
unfolding raised
raised-most weight l =
    let own : weight ≤ bit_or weight (weight % 4294967296 + 34217727) = or-left-most weight (weight % 4294967296 + 34217727) in
    let low : weight % 4294967296 ≡ weight = mod-eq_of_lt (omega arith) in
    omega (arith, or-right-most weight (weight % 4294967296 + 34217727))

-- bits that show that each claim and each weight is in range
pub surely-fit : (claims weights : List ℕ) (c w : ℕ) → Covered (length claims) (at claims) c → Covered (length claims) (λ i. raised (at weights i)) w →
    leb c 20480000000 && ltb w 134217728 ≡ true → all_to (length claims) (in_range claims weights) ≡ true
surely-fit claims weights c w p q e =
    let most : c ≤ 20480000000 = leb-true c 20480000000 (and_left (leb c 20480000000) (ltb w 134217728) e) in
    let below : w < 134217728 = ltb-true w 134217728 (and_right (leb c 20480000000) (ltb w 134217728) e) in
    all_to-all (length claims) (in_range claims weights)
    (λ i l.
    and_both (leb (at claims i) 20480000000) (leb (at weights i) 100000000)
    (le-leb (at claims i) 20480000000 (omega (arith, p i l)))
    (le-leb (at weights i) 100000000 (raised-most (at weights i) (omega (arith, q i l)))))

-- refusal 9 once the pool is in range, the claims and the weights each on their own
pub by-lists : (pool : ℕ) (claims weights : List ℕ) {c w : Bool} → length weights ≡ length claims → pool ≤ 20000000 →
    c ≡ all_to (length claims) (λ i. leb (at claims i) 20480000000) → w ≡ all_to (length weights) (λ i. leb (at weights i) 100000000) →
    not (c && w) ≡ unfit_numbers pool claims weights
unfolding unfit_numbers
by-lists pool claims weights size p e f =
    rw (
      e,
      f,
      size,
      le-ltb 20000000 pool p,
      all_to-both (length claims) (λ i. leb (at claims i) 20480000000) (λ i. leb (at weights i) 100000000),
    )

-- what `unfit_numbers` is decided by, where bits don't tell
pub ruleset numbers = (pool-over, by-lists)
