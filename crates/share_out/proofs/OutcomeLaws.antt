-- The answer and the output by cases: refused with 5, refused with 9, shared out.
use Prim.Native.Nat.{ℕ, ◌%◌, ◌^◌, ◌≤◌, ◌<◌}
use mathlib.Core.Path.{◌≡◌, sym, ap}
use mathlib.Core.Bool.{Bool, true, false, not, ◌&&◌, ◌||◌}
use mathlib.Core.List.{List, ◌++◌}
use native.Mathlib.Omega.{arith}
use lib.ListN.{length, drop}
use lib.Dec.{ltb, leb, eqb}
use borrow.Author.Tests.{ltb-false, eqb-true, not-false}
use Rattle.std.proofs.lemmas.Bool.Decides.{nat_tests}
use Rattle.base.specs.Words.{at, fill}
use Rattle.base.specs.Answers.{refused, granted}
use Rattle.base.proofs.ChoiceLaws.{or_left, or_right}
use Rattle.base.proofs.SumLaws.{sum_to-bound}
use Rattle.base.proofs.VectorLaws.{sum-whole}
use Rattle.base.proofs.WordLaws.{fill-front}
use Rattle.share_out.specs.Rule.{claimed, shared, unfit_lengths, unfit_numbers, shared_answer, share_out}
use Rattle.share_out.specs.Workers.Fit.{Accepted}
use Rattle.share_out.proofs.NumberLaws.{fit-claims}
use Rattle.share_out.proofs.Promise.{promise, shared-fits}

-- what refusal 5 leaves of the lengths
pub record FitLengths (n weights output : ℕ) : Type 0 where
  pub weighed : weights ≡ n
  pub few : n ≤ 32
  pub room : n ≤ output

pub fit-lengths : (n weights output : ℕ) → unfit_lengths n weights output ≡ false → FitLengths n weights output
fit-lengths n weights output e =
    let rest : ltb 32 n || ltb output n ≡ false = or_right (not (eqb n weights)) (ltb 32 n || ltb output n) e in
    record {
      weighed = sym (eqb-true n weights (not-false (eqb n weights) (or_left (not (eqb n weights)) (ltb 32 n || ltb output n) e)));
      few = ltb-false 32 n (or_left (ltb 32 n) (ltb output n) rest);
      room = ltb-false output n (or_right (ltb 32 n) (ltb output n) rest);
    }

-- refusal 5 as the code decides it: whether the lengths don't fit
pub lengths-unfit : (claims weights output : List ℕ) {fit : Bool} →
    fit ≡ (eqb (length claims) (length weights) && (leb (length claims) 32 && leb (length claims) (length output))) →
    unfit_lengths (length claims) (length weights) (length output) ≡ not fit
lengths-unfit claims weights output {fit} e = rw e (grind (arith, nat_tests))

-- claims in range have a sum that 64 bits hold
pub claimed-whole : {pool r : ℕ} {claims weights grants : List ℕ} → Accepted pool claims weights grants → r ≡ claimed claims % 2 ^ 64 → r ≡ claimed claims
claimed-whole {pool} {r} {claims} {weights} a e =
    sum-whole r _ (at claims) e
    (omega (arith, a.sized.few, sum_to-bound _ 20480000000 (at claims) (fit-claims pool claims weights a.ranged)))

-- the answer where the claims fit, and where they don't
pub answer-whole : (pool : ℕ) (claims weights : List ℕ) (total : ℕ) → total ≡ claimed claims → total ≤ pool → granted total 0 ≡ shared_answer pool claims weights
unfolding shared_answer
answer-whole pool claims weights total e h =
    rw (shared-fits pool claims weights (omega arith)) (ap (λ k. granted k 0) e)

pub answer-passes : (pool : ℕ) (claims weights : List ℕ) (g : List ℕ) (passes : ℕ) → pool < claimed claims →
    shared pool claims weights ≡ record { grants = g; passes = passes } → granted pool passes ≡ shared_answer pool claims weights
unfolding shared_answer
answer-passes pool claims weights g passes h e =
    rw e (ap (λ k. granted k passes) (sym (rw e at ((promise pool claims weights).emptied h))))

module _ (pool : ℕ) (claims weights output : List ℕ) where
  pub outcome-lengths : unfit_lengths (length claims) (length weights) (length output) ≡ true →
      share_out pool claims weights output ≡ record { answer = refused 5; output = output }
  unfolding share_out
  outcome-lengths e = rw e

  pub outcome-numbers : unfit_lengths (length claims) (length weights) (length output) ≡ false → unfit_numbers pool claims weights ≡ true →
      share_out pool claims weights output ≡ record { answer = refused 9; output = output }
  unfolding share_out
  outcome-numbers e h = rw (e, h)

  pub outcome-shared : unfit_lengths (length claims) (length weights) (length output) ≡ false → unfit_numbers pool claims weights ≡ false →
      share_out pool claims weights output
      ≡ record { answer = shared_answer pool claims weights; output = fill (length claims) (at (shared pool claims weights).grants) output }
  unfolding share_out
  outcome-shared e h = rw (e, h)

-- the grants over the first places are the grants and then the rest of the output
pub shared-front : (pool : ℕ) (claims weights output : List ℕ) → length claims ≤ length output →
    fill (length claims) (at (shared pool claims weights).grants) output
    ≡ (shared pool claims weights).grants ++ drop (length claims) output
shared-front pool claims weights output h =
    let g : List ℕ = (shared pool claims weights).grants in
    let size : length g ≡ length claims = (promise pool claims weights).size in
    rw (← size) (fill-front g output (omega arith))
