-- The share-out of a pool over claims with weights (docs/RULES.md, "Share-out"), with its refusals 5 and 9.
use Rattle.std.specs.Prelude.{ℕ, zero, suc, ◌+◌, ◌-◌, Bool, true, false, not, ◌&&◌, ◌||◌, List, length, ltb, leb, eqb}
use Rattle.base.specs.Choice.{pick}
use Rattle.base.specs.Limits.{most_holders, most_kw, most_claim_kw, most_load_share}
use Rattle.base.specs.Refusals.{room_refused, range_refused}
use Rattle.base.specs.Sums.{sum_to, all_to}
use Rattle.base.specs.Words.{at, tab, fill}
use Rattle.base.specs.Answers.{refused, granted}
use Rattle.base.specs.declared.Answer.{Answer}
use Rattle.share_out.specs.Pass.{pass_total, pass_grants}

-- the grants, one for each holder, and the passes that were made
pub record Shared : Type 0 where
  pub grants : List ℕ
  pub passes : ℕ

-- passes go on until the pool is empty; every pass counts one. The first number bounds how many follow: a pass gives at
-- least 1 kW, so the pool is enough (`proofs/RunLaws`, `fuel-lasts`)
unfoldable pub run_passes : List ℕ → List ℕ → ℕ → ℕ → ℕ → List ℕ → Shared
run_passes claims weights zero made R g = record { grants = g; passes = made }
run_passes claims weights (suc more) made R g =
    elim (eqb R 0) [
      | true ↦ record { grants = g; passes = made }
      | false ↦ run_passes claims weights more (made + 1) (R - pass_total claims weights R g) (pass_grants claims weights R g)
    ]

-- the claims together
abbrev pub claimed : List ℕ → ℕ
claimed claims = sum_to (length claims) (at claims)

-- if the claims together are at most the pool, each is met, in 0 passes; otherwise by passes
unfoldable pub shared : ℕ → List ℕ → List ℕ → Shared
shared pool claims weights =
    elim (leb (claimed claims) pool) [
      | true ↦ record { grants = claims; passes = 0 }
      | false ↦ run_passes claims weights pool 0 pool (tab (length claims) (λ i. 0))
    ]

-- refusal 5, by the lengths of claims, weights and output: lists of unlike length, over 32, or output shorter
abbrev pub unfit_lengths : ℕ → ℕ → ℕ → Bool
unfit_lengths n weights output = not (eqb n weights) || (ltb most_holders n || ltb output n)

-- a claim and a weight within their ranges
abbrev pub in_range : List ℕ → List ℕ → ℕ → Bool
in_range claims weights i = leb (at claims i) most_claim_kw && leb (at weights i) most_load_share

-- refusal 9: pool over 20,000,000, claim over 20,480,000,000, weight over 100,000,000
unfoldable pub unfit_numbers : ℕ → List ℕ → List ℕ → Bool
unfit_numbers pool claims weights = ltb most_kw pool || not (all_to (length claims) (in_range claims weights))

-- what a share-out answers, and its output after it
pub record Outcome : Type 0 where
  pub answer : Answer
  pub output : List ℕ

-- the answer of a share-out that is made: its kW granted and its passes
unfoldable pub shared_answer : ℕ → List ℕ → List ℕ → Answer
shared_answer pool claims weights =
    granted (sum_to (length claims) (at (shared pool claims weights).grants)) (shared pool claims weights).passes

-- a refusal leaves the output as it is; a share-out writes its grants over the first places
unfoldable pub share_out : ℕ → List ℕ → List ℕ → List ℕ → Outcome
share_out pool claims weights output =
    pick (unfit_lengths (length claims) (length weights) (length output)) (record { answer = refused room_refused; output = output })
    (pick (unfit_numbers pool claims weights) (record { answer = refused range_refused; output = output })
    (record {
      answer = shared_answer pool claims weights;
      output = fill (length claims) (at (shared pool claims weights).grants) output;
    }))
