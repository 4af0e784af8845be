-- What the workers of a share-out are handed once refusals 5 and 9 are decided.
use Rattle.std.specs.Prelude.{ℕ, ◌+◌, ◌*◌, ◌/◌, ◌%◌, ◌≤◌, ◌<◌, ◌≡◌, false, List, length, ltb}
use Rattle.std.specs.Int.Bits.{bit_or}
use Rattle.base.specs.Choice.{pick}
use Rattle.base.specs.Limits.{most_holders, most_kw, most_load_share}
use Rattle.base.specs.Sums.{sum_to}
use Rattle.base.specs.Words.{at, tab}
use Rattle.share_out.specs.Turn.{in_turn}
use Rattle.share_out.specs.Pass.{unmet, open_weight, open_weights}
use Rattle.share_out.specs.Rule.{claimed, unfit_numbers}

-- a weight and a grant for each of at most 32 claims
pub record Sized (claims weights grants : List ℕ) : Type 0 where
  pub few : length claims ≤ most_holders
  pub weighed : length weights ≡ length claims
  pub granted : length grants ≡ length claims

-- every one of the first n numbers is at most `most`
abbrev pub AtMost : ℕ → List ℕ → ℕ → Type 0
AtMost n l most = (i : ℕ) → i < n → at l i ≤ most

-- no number of the first n is above bits
abbrev pub Covered : ℕ → (ℕ → ℕ) → ℕ → Type 0
Covered n f bits = (i : ℕ) → i < n → f i ≤ bits

-- 2 ^ 27, which every weight in range is below
abbrev pub above_weights : ℕ
above_weights = 134217728

-- the bits of a weight together with those of the sum of its lower 32 bits and what raises 100,000,000 to the last number below 2 ^ 27
unfoldable pub raised : ℕ → ℕ
raised weight = bit_or weight (weight % 4294967296 + 34217727)

-- the parts of a kW that a rate counts: 2 ^ 38
abbrev pub kw_parts : ℕ
kw_parts = 274877906944

-- no grants yet
abbrev pub none : List ℕ → List ℕ
none claims = tab (length claims) (λ i. 0)

-- a weight in range for each of at most 32 claims, and room to note it
pub record Weighable (claims weights noted : List ℕ) : Type 0 where
  pub few : length claims ≤ most_holders
  pub room : length noted ≡ most_holders
  pub weighed : length weights ≡ length claims
  pub ranged : AtMost (length claims) weights most_load_share

-- with g granted: all is W, and `brought` has the weight that each holder brings into it
pub record Weighed (all : ℕ) (claims weights g brought : List ℕ) : Type 0 where
  pub room : length brought ≡ most_holders
  pub total : all ≡ open_weights claims weights g
  pub each : (i : ℕ) → i < length claims → at brought i ≡ open_weight claims weights g i

-- what serving in turn is handed: a grant for each of at most 32 claims, and numbers that add up within 64 bits
pub record Serving (left : ℕ) (claims grants : List ℕ) : Type 0 where
  pub few : length claims ≤ most_holders
  pub granted : length grants ≡ length claims
  pub pooled : left ≤ most_kw
  pub ranged : AtMost (length claims) grants most_kw

-- given is what kw gives the first n holders together, and after has it on top of g
pub record Raised (given : ℕ) (after : List ℕ) (n : ℕ) (g : List ℕ) (kw : ℕ → ℕ) : Type 0 where
  pub total : given ≡ sum_to n kw
  pub grants : after ≡ tab n (λ i. at g i + kw i)

-- what holder i wants is kw i, by what is answered of its unmet claim and of the weight that it brings
abbrev pub Wanting : (ℕ → ℕ → ℕ → Type 0) → List ℕ → List ℕ → List ℕ → (ℕ → ℕ) → Type 0
Wanting answers claims brought g kw = (i x : ℕ) → i < length claims → answers (unmet claims g i) (at brought i) x → x ≡ kw i

-- holders are served in turn with what they want
pub record Served (answers : ℕ → ℕ → ℕ → Type 0) (left given : ℕ) (claims brought g after : List ℕ) : Type 0 where
  pub raised : (kw : ℕ → ℕ) → Wanting answers claims brought g kw → Raised given after (length claims) g (in_turn left kw)

-- 1 kW of each holder that brings a weight
abbrev pub single : List ℕ → ℕ → ℕ
single brought i = pick (ltb 0 (at brought i)) 1 0

-- a pass that gave something by weight is left as it is; else holders are served in turn, singly if any is open
pub record Completed (given left all r : ℕ) (claims brought g after : List ℕ) : Type 0 where
  pub stands : 0 < given → (r ≡ given) × (after ≡ g)
  pub singly : given ≡ 0 → 0 < all → Raised r after (length claims) g (in_turn left (single brought))
  pub unweighted : given ≡ 0 → all ≡ 0 → Raised r after (length claims) g (in_turn left (unmet claims g))

-- a pool and a weight in range, the weight among those that `all` sums, and the rate: left / all in parts of a kW
pub record Rated (left weight all rate : ℕ) : Type 0 where
  pub pooled : left ≤ most_kw
  pub weighted : weight ≤ most_load_share
  pub among : weight ≤ all
  pub rated : rate ≡ left * kw_parts / all

-- what the passes of a share-out are handed: lists that fit, numbers in range, claims above the pool, and no grants yet
pub record Ready (pool : ℕ) (claims weights grants : List ℕ) : Type 0 where
  pub sized : Sized claims weights grants
  pub pooled : pool ≤ most_kw
  pub weighted : AtMost (length claims) weights most_load_share
  pub short : pool < claimed claims
  pub fresh : grants ≡ none claims

-- lists that fit and numbers in range
pub record Accepted (pool : ℕ) (claims weights grants : List ℕ) : Type 0 where
  pub sized : Sized claims weights grants
  pub ranged : unfit_numbers pool claims weights ≡ false
