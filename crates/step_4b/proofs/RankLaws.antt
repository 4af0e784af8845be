-- Laws of the state after some ranks: one rank more, ranks without kW, and which words matter.
use Prim.Native.Nat.{ℕ, zero, suc, ◌+◌, ◌-◌, ◌≤◌, ◌<◌}
use mathlib.Core.Path.{◌≡◌, refl, sym, ap, ◌∙◌}
use mathlib.Core.Logic.{⊎_elim}
use mathlib.Core.List.{List}
use native.Mathlib.Nat.{add-zero, sub-zero, le_step, lt-suc_self, eq-zero-or-pos, eq-or-lt_of_le, le_of_suc-le-suc}
use native.Mathlib.Numerals.{add-one}
use native.Mathlib.Omega.{arith}
use lib.Seq.{set-get_or}
use Rattle.base.specs.Words.{at}
use Rattle.step_4b.specs.NewUse.{NewUse, covered, stays, next_rank, after_ranks}

-- a record of 0 kW changes nothing
pub next_rank-none : (intertie : ℕ) (s : NewUse) → next_rank 0 intertie s ≡ s
unfolding next_rank
next_rank-none i s =
    let nothing : stays 0 i s ≡ 0 = omega arith in
    let unused : at s.cover i - covered 0 i s ≡ at s.cover i = omega arith in
    rw (nothing, unused, add-zero (at s.kept i), set-get_or s.cover i 0, set-get_or s.kept i 0, sub-zero s.allowance)

-- a record is the same at another intertie where it has no kW
pub next_rank-same : (kw intertie other : ℕ) (s : NewUse) → (0 < kw → intertie ≡ other) → next_rank kw intertie s ≡ next_rank kw other s
next_rank-same kw i j s h =
    ⊎_elim
    (λ (z : kw ≡ 0). rw z (next_rank-none i s ∙ sym (next_rank-none j s)))
    (λ (p : 0 < kw). ap (λ k. next_rank kw k s) (h p))
    (eq-zero-or-pos kw)

module _ (kw interties : List ℕ) where
  pub after_ranks-zero : (s : NewUse) → after_ranks kw interties 0 s ≡ s
  unfolding after_ranks
  after_ranks-zero s = refl

  -- one rank more, as a loop counts
  pub after_ranks-more : (r : ℕ) (s : NewUse) → after_ranks kw interties (r + 1) s ≡ next_rank (at kw r) (at interties r) (after_ranks kw interties r s)
  unfolding after_ranks
  after_ranks-more r s = rw (add-one r)

  -- ranks past the last with kW change nothing
  pub after_ranks-past : (n r : ℕ) (s : NewUse) → n ≤ r → ((k : ℕ) → n ≤ k → k < r → at kw k ≡ 0) → after_ranks kw interties r s ≡ after_ranks kw interties n s
  unfolding after_ranks
  after_ranks-past n zero s l h = let z : n ≡ 0 = omega arith in rw z
  after_ranks-past n (suc r) s l h =
      ⊎_elim
      (λ (e : n ≡ suc r). rw e)
      (λ (m : n < suc r).
      rw (h r (le_of_suc-le-suc m) (lt-suc_self r), after_ranks-past n r s (le_of_suc-le-suc m) (λ k p q. h k p (le_step q)))
      (next_rank-none (at interties r) (after_ranks kw interties n s)))
      (eq-or-lt_of_le l)

-- only the kW matter, and the interties of ranks with kW
pub after_ranks-same : (kw kw' interties interties' : List ℕ) (r : ℕ) (s : NewUse) →
    ((k : ℕ) → k < r → at kw k ≡ at kw' k) → ((k : ℕ) → k < r → 0 < at kw k → at interties k ≡ at interties' k) →
    after_ranks kw interties r s ≡ after_ranks kw' interties' r s
unfolding after_ranks
after_ranks-same kw kw' interties interties' zero s e h = refl
after_ranks-same kw kw' interties interties' (suc r) s e h =
    rw (after_ranks-same kw kw' interties interties' r s (λ k l. e k (le_step l)) (λ k l. h k (le_step l)), ← e r (lt-suc_self r))
    (next_rank-same (at kw r) (at interties r) (at interties' r) (after_ranks kw' interties' r s) (h r (lt-suc_self r)))
