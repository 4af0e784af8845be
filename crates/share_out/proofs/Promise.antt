-- What a share-out promises its callers, as theorems about the definition `shared`: the laws of the crates above go by these.
use Prim.Native.Nat.{ℕ, zero, suc, ◌+◌, ◌-◌, ◌*◌, ◌/◌, ◌≤◌, ◌<◌, min, zero-le}
use mathlib.Core.Path.{◌≡◌, refl, sym}
use mathlib.Core.List.{List}
use mathlib.Core.Logic.{◌⊎◌, inl, inr, ⊎_elim}
use native.Mathlib.Nat.{le_refl, min-le_left, eq-zero-or-pos, zero-mul, zero-div}
use native.Mathlib.Decide.{dec_le}
use native.Mathlib.Omega.{arith}
use lib.ListN.{length}
use borrow.Author.Tests.{le-leb, lt-leb}
use Rattle.base.specs.Sums.{sum_to}
use Rattle.base.specs.Words.{at}
use Rattle.base.proofs.SumLaws.{sum_to-none}
use Rattle.share_out.specs.Pass.{unmet, open_weights, pass_total, pass_grants}
use Rattle.share_out.specs.Rule.{Shared, run_passes, claimed, shared}
use Rattle.share_out.specs.Workers.Fit.{none}
use Rattle.share_out.proofs.PassLaws.{open-both, by_weight-is, at-pass_grants}
use Rattle.share_out.proofs.RunLaws.{Running, at_none, running-first, running-next, run-pass, fuel-lasts}
use Rattle.share_out.proofs.HolderLaws.{Weightless, weightless-kept, by_weight-least, claim_weights, open_weights-first}

-- what every share-out keeps, whatever the numbers
pub record Promise (pool : ℕ) (claims weights : List ℕ) (s : Shared) : Type 0 where
  -- a grant for each claim
  pub size : length s.grants ≡ length claims
  -- no grant above its claim
  pub within : (i : ℕ) → i < length claims → at s.grants i ≤ at claims i
  -- the grants add up to the smaller of the pool and the claims together
  pub total : sum_to (length claims) (at s.grants) ≡ min pool (claimed claims)
  -- to the pool where the claims exceed it
  pub emptied : pool < claimed claims → sum_to (length claims) (at s.grants) ≡ pool
  -- no passes where the claims fit or the pool is 0
  pub idle : (claimed claims ≤ pool) ⊎ (pool ≡ 0) → s.passes ≡ 0
  -- and only there
  pub busy : s.passes ≡ 0 → (claimed claims ≤ pool) ⊎ (pool ≡ 0)
  -- every pass gives at least 1 kW
  pub counted : s.passes ≤ pool
  -- a holder of weight 0 gets something only where every claim of positive weight is met
  pub weighted-first : (i : ℕ) → i < length claims → at weights i ≡ 0 → 0 < at s.grants i →
      (j : ℕ) → j < length claims → 0 < at weights j → at s.grants j ≡ at claims j
  -- the holder's guarantee: at least the smaller of its claim and pool × weight / W rounded down, W the weights of all holders with a claim
  pub guaranteed : (i : ℕ) → i < length claims → min (at claims i) (pool * at weights i / claim_weights claims weights) ≤ at s.grants i

-- the claims are met where they fit
pub shared-fits : (pool : ℕ) (claims weights : List ℕ) → claimed claims ≤ pool → shared pool claims weights ≡ record { grants = claims; passes = 0 }
unfolding shared
shared-fits pool claims weights h = rw (le-leb (claimed claims) pool h, shared)

-- and are served by passes where they exceed the pool
pub shared-passes : (pool : ℕ) (claims weights : List ℕ) → pool < claimed claims →
    shared pool claims weights ≡ run_passes claims weights pool 0 pool (none claims)
unfolding shared
shared-passes pool claims weights h = rw (lt-leb (claimed claims) pool h, shared)

-- what the passes keep beside the running facts: no pass is made without being counted, and a holder of weight 0 waits
abbrev Kept : ℕ → List ℕ → List ℕ → ℕ → ℕ → List ℕ → Type 0
Kept pool claims weights made R g = (made ≡ 0 → R ≡ pool) × Weightless claims weights made R g

module _ (pool : ℕ) (claims weights : List ℕ) (less : pool < claimed claims) where
  -- the end of the passes
  ended : Running claims pool (run_passes claims weights pool 0 pool (none claims)).passes 0 (run_passes claims weights pool 0 pool (none claims)).grants
      × Kept pool claims weights (run_passes claims weights pool 0 pool (none claims)).passes 0 (run_passes claims weights pool 0 pool (none claims)).grants
  ended =
      fuel-lasts claims weights (Kept pool claims weights) pool
      (λ made R g run left k. ((λ z. absurd (omega arith)), weightless-kept claims weights made R g k.1))
      pool 0 pool (none claims) (running-first claims weights pool less) (le_refl pool)
      ((λ z. refl), (λ i l w some. absurd (omega (arith, at_none claims weights i l))))
      (run_passes claims weights pool 0 pool (none claims)) refl

  -- what a holder is sure of after the first pass
  abbrev sure : ℕ → ℕ
  sure i = min (at claims i) (pool * at weights i / claim_weights claims weights)

  -- the first pass gives it, and no pass takes back
  sure-granted : (more : ℕ) → pool ≤ more → (i : ℕ) → i < length claims → sure i ≤ at (run_passes claims weights more 0 pool (none claims)).grants i
  sure-granted zero small i l =
      let z : pool ≡ 0 = omega arith in
      let d : pool * at weights i / claim_weights claims weights ≡ 0 = rw (z, zero-mul, zero-div) in
      omega arith
  sure-granted (suc more) small i l =
      ⊎_elim
      (λ (z : pool ≡ 0).
      let d : pool * at weights i / claim_weights claims weights ≡ 0 = rw (z, zero-mul, zero-div) in
      omega arith)
      (λ (left : 0 < pool).
      let first : sure i ≤ at (pass_grants claims weights pool (none claims)) i =
      omega (
        arith,
        by_weight-least claims weights pool (none claims) i l,
        rw (open_weights-first claims weights) at (by_weight-is claims weights pool (none claims) i),
        at_none claims weights i l,
        at-pass_grants claims weights pool (none claims) i l,
      ) in
      let run : Running claims pool 0 pool (none claims) = running-first claims weights pool less in
      let next : Running claims pool (0 + 1) (pool - pass_total claims weights pool (none claims)) (pass_grants claims weights pool (none claims)) =
      running-next claims weights pool 0 pool (none claims) run left in
      (fuel-lasts claims weights (λ made R g. sure i ≤ at g i) pool
      (λ made R g run' left' kept. omega (arith, at-pass_grants claims weights R g i l))
      more (0 + 1) (pool - pass_total claims weights pool (none claims)) (pass_grants claims weights pool (none claims))
      next (omega (arith, next.counted)) first
      (run_passes claims weights (suc more) 0 pool (none claims)) (sym (run-pass claims weights more 0 pool (none claims) left))).1)
      (eq-zero-or-pos pool)

  -- with none open every claim of positive weight is met
  closed-met : (g : List ℕ) → open_weights claims weights g ≡ 0 → (j : ℕ) → j < length claims → 0 < at weights j → at g j ≤ at claims j → at g j ≡ at claims j
  unfolding open_weights
  closed-met g z j l w h =
      ⊎_elim
      (λ (u : unmet claims g j ≡ 0). omega arith)
      (λ (u : 0 < unmet claims g j).
      absurd
      (omega (
        arith,
        rw (open-both claims weights g j u w) at (sum_to-none (length claims) _ z j l),
      )))
      (eq-zero-or-pos (unmet claims g j))

  exceeded : Promise pool claims weights (run_passes claims weights pool 0 pool (none claims))
  exceeded =
      let s : Shared = run_passes claims weights pool 0 pool (none claims) in
      let run : Running claims pool s.passes 0 s.grants = ended.0 in
      record {
        size = run.size;
        within = run.within;
        total = omega (arith, run.balance);
        emptied = λ h. omega (arith, run.balance);
        idle = λ (h : (claimed claims ≤ pool) ⊎ (pool ≡ 0)).
            ⊎_elim (λ (fit : claimed claims ≤ pool). absurd (omega arith)) (λ (z : pool ≡ 0). omega (arith, run.counted)) h;
        busy = λ z. inr (sym (ended.1.0 z));
        counted = omega (arith, run.counted);
        weighted-first = λ i l w some j m v. closed-met s.grants (ended.1.1 i l w some) j m v (run.within j m);
        guaranteed = sure-granted pool (le_refl pool);
      }

met : (pool : ℕ) (claims weights : List ℕ) → claimed claims ≤ pool → Promise pool claims weights (record { grants = claims; passes = 0 })
met pool claims weights fit =
    record {
      size = refl;
      within = λ i l. le_refl (at claims i);
      total = omega arith;
      emptied = λ h. absurd (omega arith);
      idle = λ h. refl;
      busy = λ z. inl fit;
      counted = zero-le;
      weighted-first = λ i l w some j m v. refl;
      guaranteed = λ i l. min-le_left (at claims i) (pool * at weights i / claim_weights claims weights);
    }

pub promise : (pool : ℕ) (claims weights : List ℕ) → Promise pool claims weights (shared pool claims weights)
promise pool claims weights =
    elim (dec_le (claimed claims) pool) [
      | yes fit ↦ rw (shared-fits pool claims weights fit) (met pool claims weights fit)
      | no over ↦ rw (shared-passes pool claims weights (omega arith)) (exceeded pool claims weights (omega arith))
    ]
