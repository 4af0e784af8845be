-- Loops that test all without a branch: they put bits together by `|`.
use Rattle.std.proofs.Common.{◌≡◌, ℕ, ◌≤◌, true, ◌&&◌, eqb, leb, arith, eq-eqb, eqb-true, le-leb, leb-true}
use lib.Bits.{bit_or, or_add_and, and_le_l, and_le_r}
use Rattle.base.proofs.ChoiceLaws.{and_left, and_right, and_both, same_test}

-- bits put together are no less than either number
pub or-left-most : (a b : ℕ) → a ≤ bit_or a b
or-left-most a b = omega (arith, or_add_and a b, and_le_r a b)

pub or-right-most : (a b : ℕ) → b ≤ bit_or a b
or-right-most a b = omega (arith, or_add_and a b, and_le_l a b)

-- the bits of two words together are 0 where both words are
pub or-none : (a b : ℕ) → eqb (bit_or a b) 0 ≡ (eqb a 0 && leb b 0)
or-none a b =
    let sum = or_add_and a b in
    same_test (eqb (bit_or a b) 0) (eqb a 0 && leb b 0)
    (λ (e : eqb (bit_or a b) 0 ≡ true). and_both (eqb a 0) (leb b 0)
    (eq-eqb a 0 (omega (arith, sum, and_le_r a b, eqb-true (bit_or a b) 0 e)))
    (le-leb b 0 (omega (arith, sum, and_le_l a b, eqb-true (bit_or a b) 0 e))))
    (λ (e : eqb a 0 && leb b 0 ≡ true). eq-eqb (bit_or a b) 0
    (omega (arith, sum, eqb-true a 0 (and_left (eqb a 0) (leb b 0) e), leb-true b 0 (and_right (eqb a 0) (leb b 0) e))))
