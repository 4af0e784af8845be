-- Laws of the passes together: what holds before a pass holds after it, the count of passes to come never runs out, and the pool ends empty.
use Prim.Native.Nat.{ℕ, zero, suc, ◌+◌, ◌-◌, ◌≤◌, ◌<◌}
use mathlib.Core.Path.{◌≡◌, refl, sym, ap, ◌∙◌}
use mathlib.Core.List.{List}
use mathlib.Core.Logic.{⊎_elim}
use native.Mathlib.Nat.{eq-zero-or-pos}
use native.Mathlib.Omega.{arith}
use lib.ListN.{length}
use borrow.Author.Tests.{ne_eqb}
use Rattle.base.specs.Sums.{sum_to}
use Rattle.base.specs.Words.{at}
use Rattle.base.proofs.SumLaws.{sum_to-same, sum_to-add, sum_to-zeros}
use Rattle.base.proofs.WordLaws.{at-tab, length-tab}
use Rattle.share_out.specs.Pass.{unmet, pass_kw, pass_total, pass_grants}
use Rattle.share_out.specs.Rule.{Shared, run_passes, claimed}
use Rattle.share_out.specs.Workers.Fit.{none}
use Rattle.share_out.proofs.PassLaws.{pass_kw-unmet, pass_total-within, pass_total-pos, length-pass_grants, at-pass_grants, unmet-next}

-- what holds whenever a pass may begin, with R left of the pool, g granted and `made` passes made
pub record Running (claims : List ℕ) (pool made R : ℕ) (g : List ℕ) : Type 0 where
  -- a grant for each claim
  pub size : length g ≡ length claims
  -- no grant above its claim
  pub within : (i : ℕ) → i < length claims → at g i ≤ at claims i
  -- the pool is all granted or left
  pub balance : sum_to (length claims) (at g) + R ≡ pool
  -- what is left is claimed
  pub short : R ≤ sum_to (length claims) (unmet claims g)
  -- every pass made gave at least 1 kW
  pub counted : made + R ≤ pool

module _ (claims weights : List ℕ) where
  pub at_none : (i : ℕ) → i < length claims → at (none claims) i ≡ 0
  at_none i l = at-tab (length claims) (λ j. 0) i l

  pub running-first : (pool : ℕ) → pool < claimed claims → Running claims pool 0 pool (none claims)
  running-first pool less =
      let nothing : sum_to (length claims) (at (none claims)) ≡ 0 = sum_to-zeros (length claims) (at (none claims)) at_none in
      let all : sum_to (length claims) (unmet claims (none claims)) ≡ claimed claims =
      sum_to-same (length claims) (unmet claims (none claims)) (at claims) (λ i l. omega (arith, at_none i l)) in
      record {
        size = length-tab (length claims) (λ i. 0);
        within = λ i l. omega (arith, at_none i l);
        balance = omega arith;
        short = omega arith;
        counted = omega arith;
      }

  pub running-next : (pool made R : ℕ) (g : List ℕ) → Running claims pool made R g → 0 < R →
      Running claims pool (made + 1) (R - pass_total claims weights R g) (pass_grants claims weights R g)
  unfolding pass_total
  running-next pool made R g run left =
      let fits : pass_total claims weights R g ≤ R = pass_total-within claims weights R g in
      let gives : 0 < pass_total claims weights R g = pass_total-pos claims weights R g left run.short in
      let lower : sum_to (length claims) (unmet claims (pass_grants claims weights R g)) + pass_total claims weights R g
      ≡ sum_to (length claims) (unmet claims g) = unmet-next claims weights R g in
      let sum : sum_to (length claims) (at (pass_grants claims weights R g)) ≡ sum_to (length claims) (at g) + pass_total claims weights R g =
      sum_to-same (length claims) _ (λ i. at g i + pass_kw claims weights R g i) (at-pass_grants claims weights R g)
      ∙ sum_to-add (length claims) (at g) (pass_kw claims weights R g) in
      record {
        size = length-pass_grants claims weights R g;
        within = λ i l. omega (arith, at-pass_grants claims weights R g i l, pass_kw-unmet claims weights R g i, run.within i l);
        balance = omega (arith, run.balance);
        short = omega (arith, run.short);
        counted = omega (arith, run.counted);
      }

  -- with the pool empty no pass is made
  pub run-empty : (more made : ℕ) (g : List ℕ) → run_passes claims weights more made 0 g ≡ record { grants = g; passes = made }
  unfolding run_passes
  run-empty zero made g = refl
  run-empty (suc more) made g = refl

  -- with kW left a pass is made, and counted
  pub run-pass : (more made R : ℕ) (g : List ℕ) → 0 < R →
      run_passes claims weights (suc more) made R g
      ≡ run_passes claims weights more (made + 1) (R - pass_total claims weights R g) (pass_grants claims weights R g)
  unfolding run_passes
  run-pass more made R g left = rw (ne_eqb R 0 (omega arith), run_passes)

  -- what holds of the result with the pool empty
  ends : (P : ℕ → ℕ → List ℕ → Type 0) (pool more made R : ℕ) (g : List ℕ) → R ≡ 0 → Running claims pool made R g → P made R g →
      (s : Shared) → run_passes claims weights more made R g ≡ s → Running claims pool s.passes 0 s.grants × P s.passes 0 s.grants
  ends P pool more made R g z run p s e =
      let last : s ≡ record { grants = g; passes = made } =
      sym e ∙ ap (λ k. run_passes claims weights more made k g) z ∙ run-empty more made g in
      rw last ((rw z at run), (rw z at p))

  -- whatever every pass keeps holds at the end, with the pool empty: the number that bounds the passes, at least the kW left, never runs out
  pub fuel-lasts : (P : ℕ → ℕ → List ℕ → Type 0) (pool : ℕ) →
      ((made R : ℕ) (g : List ℕ) → Running claims pool made R g → 0 < R → P made R g →
      P (made + 1) (R - pass_total claims weights R g) (pass_grants claims weights R g)) →
      (more made R : ℕ) (g : List ℕ) → Running claims pool made R g → R ≤ more → P made R g →
      (s : Shared) → run_passes claims weights more made R g ≡ s →
      Running claims pool s.passes 0 s.grants × P s.passes 0 s.grants
  fuel-lasts P pool keep zero made R g run enough p s e = ends P pool zero made R g (omega arith) run p s e
  fuel-lasts P pool keep (suc more) made R g run enough p s e =
      ⊎_elim
      (λ (z : R ≡ 0). ends P pool (suc more) made R g z run p s e)
      (λ (left : 0 < R).
      let gives : 0 < pass_total claims weights R g = pass_total-pos claims weights R g left run.short in
      fuel-lasts P pool keep more (made + 1) (R - pass_total claims weights R g) (pass_grants claims weights R g)
      (running-next pool made R g run left) (omega arith) (keep made R g run left p) s (sym (run-pass more made R g left) ∙ e))
      (eq-zero-or-pos R)
