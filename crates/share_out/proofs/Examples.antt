-- Cases a to f of the table of examples (docs/RULES.md, "Examples"), as one theorem about what the contract of `share_out` cites: pool;
-- claims; weights give grants, kW, passes.
use Prim.Native.Nat.{ℕ, ◌≤◌}
use mathlib.Core.Path.{◌≡◌, refl, ap}
use mathlib.Core.Bool.{true, false}
use mathlib.Core.List.{List, [], ◌∷◌, ◌++◌}
use lib.Dec.{ltb, eqb}
use lib.ListN.{length, drop}
use borrow.Author.Tests.{le-ltb}
use Rattle.base.specs.Answers.{granted}
use Rattle.base.specs.Limits.{most_holders}
use Rattle.base.specs.Sums.{sum_to, all_to}
use Rattle.base.specs.Words.{at, tab, fill}
use Rattle.base.proofs.WordLaws.{fill-front}
use Rattle.share_out.specs.Pass.{is_open, open_weights, by_weight, one_each, unweighted, pass_kw, pass_total, pass_grants}
use Rattle.share_out.specs.Rule.{Shared, shared, run_passes, unfit_numbers, shared_answer, share_out}

-- the grants and the passes; and in any output with room, whatever stands there: the grants are put before what stands past them
abbrev gives : ℕ → List ℕ → List ℕ → List ℕ → ℕ → ℕ → Type 0
gives pool claims weights grants kw passes =
    (shared pool claims weights ≡ record { grants = grants; passes = passes })
    × ((output : List ℕ) → length claims ≤ length output →
    share_out pool claims weights output ≡ record { answer = granted kw passes; output = grants ++ drop (length claims) output })

pub record Cases : Type 0 where
  pub a : gives 100 (20 ∷ 90 ∷ 50 ∷ []) (1 ∷ 1 ∷ 2 ∷ []) (20 ∷ 30 ∷ 50 ∷ []) 100 2
  pub b : gives 2 (5 ∷ 5 ∷ 5 ∷ []) (1 ∷ 1 ∷ 1 ∷ []) (1 ∷ 1 ∷ 0 ∷ []) 2 1
  pub c : gives 7 (9 ∷ 9 ∷ 9 ∷ []) (3 ∷ 1 ∷ 1 ∷ []) (5 ∷ 1 ∷ 1 ∷ []) 7 2
  pub d : gives 10 (4 ∷ 9 ∷ []) (1 ∷ 0 ∷ []) (4 ∷ 6 ∷ []) 10 2
  pub e : gives 160 (20 ∷ 90 ∷ 50 ∷ []) (1 ∷ 1 ∷ 2 ∷ []) (20 ∷ 90 ∷ 50 ∷ []) 160 0
  pub f : gives 0 (5 ∷ []) (1 ∷ []) (0 ∷ []) 0 0

-- what decides a case: neither refusal applies, and the grants and passes are these
made : (pool : ℕ) (claims weights grants : List ℕ) (kw passes : ℕ) →
    eqb (length claims) (length weights) ≡ true → ltb most_holders (length claims) ≡ false → unfit_numbers pool claims weights ≡ false →
    shared_answer pool claims weights ≡ granted kw passes → shared pool claims weights ≡ record { grants = grants; passes = passes } →
    length claims ≡ length grants →
    gives pool claims weights grants kw passes
unfolding share_out
made pool claims weights grants kw passes even few fit answers is size = (
  is,
  λ output room.
      let are : (shared pool claims weights).grants ≡ grants = ap (λ (r : Shared). r.grants) is in
      let written : fill (length claims) (at (shared pool claims weights).grants) output ≡ grants ++ drop (length claims) output =
      rw (are, size) (fill-front grants output (rw size at room)) in
      rw (even, few, le-ltb (length output) (length claims) room, fit, answers, written) refl,
)

pub cases : Cases
unfolding sum_to all_to tab is_open open_weights by_weight one_each unweighted pass_kw pass_total pass_grants run_passes shared unfit_numbers shared_answer
cases =
    record {
      a = made 100 (20 ∷ 90 ∷ 50 ∷ []) (1 ∷ 1 ∷ 2 ∷ []) (20 ∷ 30 ∷ 50 ∷ []) 100 2 refl refl refl refl refl refl;
      b = made 2 (5 ∷ 5 ∷ 5 ∷ []) (1 ∷ 1 ∷ 1 ∷ []) (1 ∷ 1 ∷ 0 ∷ []) 2 1 refl refl refl refl refl refl;
      c = made 7 (9 ∷ 9 ∷ 9 ∷ []) (3 ∷ 1 ∷ 1 ∷ []) (5 ∷ 1 ∷ 1 ∷ []) 7 2 refl refl refl refl refl refl;
      d = made 10 (4 ∷ 9 ∷ []) (1 ∷ 0 ∷ []) (4 ∷ 6 ∷ []) 10 2 refl refl refl refl refl refl;
      e = made 160 (20 ∷ 90 ∷ 50 ∷ []) (1 ∷ 1 ∷ 2 ∷ []) (20 ∷ 90 ∷ 50 ∷ []) 160 0 refl refl refl refl refl refl;
      f = made 0 (5 ∷ []) (1 ∷ []) (0 ∷ []) 0 0 refl refl refl refl refl refl;
    }
