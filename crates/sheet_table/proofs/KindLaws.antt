-- Which numbers have no name.
use Prim.Native.Nat.{ℕ, ◌≤◌}
use mathlib.Core.Path.{◌≡◌, refl, ap}
use mathlib.Core.Bool.{true, not, ◌&&◌}
use mathlib.Core.Logic.{◌≢◌}
use mathlib.Core.List.{[]}
use native.Mathlib.Omega.{arith}
use lib.Dec.{leb}
use borrow.Author.Tests.{ne_eqb, le-leb}
use Rattle.base.specs.Choice.{pick}
use Rattle.sheet_table.specs.Kinds.{name_of}

-- another number has none
outside : (n k : ℕ) → not (leb 1 n && leb n 6) ≡ true → 1 ≤ k → k ≤ 6 → n ≢ k
outside n k e low high same =
    let one : leb 1 n ≡ true = le-leb 1 n (omega arith) in
    let six : leb n 6 ≡ true = le-leb n 6 (omega arith) in
    let wrong = rw (one, six) at e in
    absurd (omega (arith, ap (λ b. pick {A = ℕ} b 1 0) wrong))

pub no_name : (n : ℕ) → not (leb 1 n && leb n 6) ≡ true → name_of n ≡ []
unfolding name_of
no_name n e =
    rw (
      ne_eqb n 1 (outside n 1 e (omega arith) (omega arith)),
      ne_eqb n 2 (outside n 2 e (omega arith) (omega arith)),
      ne_eqb n 3 (outside n 3 e (omega arith) (omega arith)),
      ne_eqb n 4 (outside n 4 e (omega arith) (omega arith)),
      ne_eqb n 5 (outside n 5 e (omega arith) (omega arith)),
      ne_eqb n 6 (outside n 6 e (omega arith) (omega arith)),
    ) refl
