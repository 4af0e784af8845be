-- One pass of a share-out (docs/RULES.md, "Share-out"). Holders count from 0; g has the grants so far, R is the pool at the
-- start of the pass.
use Rattle.std.specs.Prelude.{ℕ, ◌+◌, ◌-◌, ◌*◌, ◌/◌, min, Bool, ◌&&◌, List, length, ltb, eqb}
use Rattle.base.specs.Choice.{pick}
use Rattle.base.specs.Sums.{sum_to}
use Rattle.base.specs.Words.{at, tab}
use Rattle.share_out.specs.Turn.{in_turn}

-- the unmet claim of holder i
abbrev pub unmet : List ℕ → List ℕ → ℕ → ℕ
unmet claims g i = at claims i - at g i

module _ (claims weights : List ℕ) where
  -- a holder is open while its claim is unmet and its weight above 0
  unfoldable pub is_open : List ℕ → ℕ → Bool
  is_open g i = ltb 0 (unmet claims g i) && ltb 0 (at weights i)

  -- the weight of holder i if it is open
  abbrev pub open_weight : List ℕ → ℕ → ℕ
  open_weight g i = pick (is_open g i) (at weights i) 0

  -- W, the open weights' sum; it is 0 exactly where none is open
  unfoldable pub open_weights : List ℕ → ℕ
  open_weights g = sum_to (length claims) (open_weight g)

  -- each open holder with weight w gets the smaller of its unmet claim and R·w / W rounded down
  unfoldable pub by_weight : ℕ → List ℕ → ℕ → ℕ
  by_weight R g i = pick (is_open g i) (min (unmet claims g i) (R * at weights i / open_weights g)) 0

  -- the leftover rule: 1 kW each to open holders, lowest number first, until the pool is empty
  unfoldable pub one_each : ℕ → List ℕ → ℕ → ℕ
  one_each R g i = in_turn R (λ j. pick (is_open g j) 1 0) i

  -- with none open: the weight-0 claims in holder order
  unfoldable pub unweighted : ℕ → List ℕ → ℕ → ℕ
  unweighted R g i = in_turn R (unmet claims g) i

  -- what the pass gives holder i: by weight; the leftover rule if all those are 0; the weight-0 claims with none open
  unfoldable pub pass_kw : ℕ → List ℕ → ℕ → ℕ
  pass_kw R g i =
      pick (eqb (open_weights g) 0) (unweighted R g i)
      (pick (eqb (sum_to (length claims) (by_weight R g)) 0) (one_each R g i)
      (by_weight R g i))

  -- the kW that the pass gives all holders together
  unfoldable pub pass_total : ℕ → List ℕ → ℕ
  pass_total R g = sum_to (length claims) (pass_kw R g)

  -- the grants after the pass
  unfoldable pub pass_grants : ℕ → List ℕ → List ℕ
  pass_grants R g = tab (length claims) (λ i. at g i + pass_kw R g i)
