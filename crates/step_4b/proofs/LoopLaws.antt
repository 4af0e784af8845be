-- The ranks as the code goes through them: place after place, with the cover, the kW kept and the allowance at hand.
use Prim.Native.Nat.{ℕ, ◌+◌, ◌≤◌, ◌<◌, min, zero-le}
use mathlib.Core.Path.{◌≡◌, sym, ap, ◌∙◌}
use mathlib.Core.List.{List}
use native.Mathlib.Omega.{arith}
use lib.ListN.{length}
use Rattle.base.specs.Words.{at, tab}
use Rattle.base.proofs.WordLaws.{length-tab}
use Rattle.step_4b.specs.NewUse.{NewUse, next_rank, after_ranks, before_ranks, new_use}
use Rattle.step_4b.specs.Workers.Used.{Used}
use Rattle.step_4b.proofs.RankLaws.{after_ranks-zero, after_ranks-more, after_ranks-past}
use Rattle.step_4b.proofs.Promise.{Promise, promise-after}

-- a cleared list has as many places as before
pub cleared-size : (n : ℕ) (l : List ℕ) → l ≡ tab n (λ i. 0) → length l ≡ n
cleared-size n l e = ap length e ∙ length-tab n (λ i. 0)

pub cleared-whole : (n : ℕ) (l : List ℕ) → l ≡ tab n (λ i. 0) → l ≡ tab (length l) (λ i. 0)
cleared-whole n l e = e ∙ ap (λ k. tab k (λ i. 0)) (sym (cleared-size n l e))

-- after the first r of so many ranks
pub record Ranked (kw interties : List ℕ) (allowance : ℕ) (cover : List ℕ) (count ranks : ℕ) (s : NewUse) (r : ℕ) : Type 0 where
  pub inside : r ≤ ranks
  pub reached : after_ranks kw interties r (before_ranks allowance cover count) ≡ s
  pub kept : Promise kw interties allowance cover count r s

module _ (kw interties : List ℕ) (allowance : ℕ) (cover : List ℕ) (count ranks : ℕ) where
  ranked : (s : NewUse) (r : ℕ) → r ≤ ranks → after_ranks kw interties r (before_ranks allowance cover count) ≡ s →
      Ranked kw interties allowance cover count ranks s r
  ranked s r inside e = record { inside = inside; reached = e; kept = rw e at (promise-after kw interties allowance cover count r) }

  pub ranked-none : (kept : List ℕ) → kept ≡ tab count (λ i. 0) →
      Ranked kw interties allowance cover count ranks (record { cover = cover; kept = kept; allowance = allowance }) 0
  ranked-none kept e = rw e (ranked (before_ranks allowance cover count) 0 zero-le (after_ranks-zero kw interties (before_ranks allowance cover count)))

  pub ranked-next : (s next : NewUse) (r intertie : ℕ) → Ranked kw interties allowance cover count ranks s r → r < ranks → intertie ≡ at interties r →
      next_rank (at kw r) intertie s ≡ next → Ranked kw interties allowance cover count ranks next (r + 1)
  ranked-next s next r intertie k l i e =
      ranked next (r + 1) (omega arith)
      (after_ranks-more kw interties r (before_ranks allowance cover count) ∙ rw (k.reached, ← i) e)

  pub ranked-all : (s : NewUse) (r : ℕ) → Ranked kw interties allowance cover count ranks s r → ranks ≤ r → Used kw (min (length kw) (length interties)) ranks →
      new_use kw interties allowance cover count ≡ s
  unfolding new_use
  ranked-all s r k l u =
      let end : ranks ≡ r = omega (arith, k.inside) in
      after_ranks-past kw interties ranks (min (length kw) (length interties)) (before_ranks allowance cover count) u.within u.idle
      ∙ ap (λ n. after_ranks kw interties n (before_ranks allowance cover count)) end ∙ k.reached
