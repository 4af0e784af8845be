-- A table after n records were added to their slots: at each slot what it had, and the sum of the amounts that went there.
use Prim.Native.Nat.{ℕ, zero, suc, ◌+◌, ◌*◌, ◌≤◌, ◌<◌, zero-le}
use mathlib.Core.Path.{◌≡◌, refl, sym, ◌∙◌}
use mathlib.Core.List.{List}
use native.Mathlib.Omega.{arith}
use lib.Dec.{eqb}
use lib.ListN.{length, length-set, replicate, length-replicate, get_or-replicate}
use lib.Seq.{ext_get_or}
use Rattle.base.specs.Choice.{pick}
use Rattle.base.specs.Sums.{sum_to}
use Rattle.base.specs.Words.{at, tab}
use Rattle.base.proofs.SumLaws.{sum_to-bound}
use Rattle.base.proofs.WordLaws.{length-tab, at-tab}
use Rattle.base.proofs.ChoiceLaws.{pick-by}
use Rattle.base.proofs.PlaceLaws.{at_more}
use Rattle.sheet_reading.specs.Workers.Adding.{add}

-- an empty table
abbrev pub zeros : ℕ → List ℕ
zeros size = replicate size 0

module _ (slot amount : ℕ → ℕ) where
  unfoldable pub tally : ℕ → List ℕ → List ℕ
  tally zero l = l
  tally (suc n) l = add (tally n l) (slot n) (amount n)

  -- what goes to slot j from record k
  abbrev pub share : ℕ → ℕ → ℕ
  share j k = pick (eqb (slot k) j) (amount k) 0

  pub length-tally : (n : ℕ) (l : List ℕ) → length (tally n l) ≡ length l
  unfolding tally
  length-tally zero l = refl
  length-tally (suc n) l = length-set (tally n l) (slot n) (at (tally n l) (slot n) + amount n) ∙ length-tally n l

pub at-tally : (slot amount : ℕ → ℕ) (n : ℕ) (l : List ℕ) (j : ℕ) → j < length l
    → at (tally slot amount n l) j ≡ at l j + sum_to n (share slot amount j)
unfolding tally sum_to
at-tally slot amount zero l j h = sym (native.Mathlib.Nat.add-zero (at l j))
at-tally slot amount (suc n) l j h =
    let t : List ℕ = tally slot amount n l in
    let len : length t ≡ length l = length-tally slot amount n l in
    let e : at t j ≡ at l j + sum_to n (share slot amount j) = at-tally slot amount n l j h in
    let one : at (add t (slot n) (amount n)) j ≡ at t j + share slot amount j n = at_more t (slot n) (amount n) j (omega arith) in
    omega arith

-- a table that was empty has at most n times the largest amount
pub tally-bound : (slot amount : ℕ → ℕ) (n b size j : ℕ) → ((k : ℕ) → amount k ≤ b) → j < size → at (tally slot amount n (zeros size)) j ≤ n * b
tally-bound slot amount n b size j small h =
    let none : at (zeros size) j ≡ 0 = get_or-replicate size j 0 0 h in
    let len : length (zeros size) ≡ size = length-replicate size 0 in
    let all : at (tally slot amount n (zeros size)) j ≡ at (zeros size) j + sum_to n (share slot amount j) = at-tally slot amount n (zeros size) j (omega arith) in
    let bound : sum_to n (share slot amount j) ≤ n * b =
    sum_to-bound n b (share slot amount j)
    (λ k _. pick-by (λ (x : ℕ). x ≤ b) (eqb (slot k) j) (amount k) 0 (λ _. small k) (λ _. zero-le)) in
    omega arith

-- an empty table that all records were added to
pub tally-all : (slot amount : ℕ → ℕ) (n size : ℕ) → tally slot amount n (zeros size) ≡ tab size (λ j. sum_to n (share slot amount j))
tally-all slot amount n size =
    let len : length (zeros size) ≡ size = length-replicate size 0 in
    let len' : length (tally slot amount n (zeros size)) ≡ length (zeros size) = length-tally slot amount n (zeros size) in
    ext_get_or 0 (tally slot amount n (zeros size)) (tab size (λ j. sum_to n (share slot amount j)))
    (len' ∙ len ∙ sym (length-tab size (λ j. sum_to n (share slot amount j))))
    (λ j h.
    let b : j < size = omega arith in
    let none : at (zeros size) j ≡ 0 = get_or-replicate size j 0 0 b in
    let all : at (tally slot amount n (zeros size)) j ≡ at (zeros size) j + sum_to n (share slot amount j) = at-tally slot amount n (zeros size) j (omega arith) in
    let right : at (tab size (λ i. sum_to n (share slot amount i))) j ≡ sum_to n (share slot amount j) = at-tab size (λ i. sum_to n (share slot amount i)) j b in
    omega arith)
