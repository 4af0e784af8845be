-- Laws of the mask of sellers: bit j stands for holder j, and a seller's bit is set once however often it sold.
use Prim.Native.Nat.{ℕ, zero, suc, ◌+◌, ◌*◌, ◌-◌, ◌/◌, ◌%◌, ◌^◌, ◌<◌}
use mathlib.Core.Path.{◌≡◌, sym, ap, ◌∙◌}
use mathlib.Core.Logic.{◌≢◌}
use native.Mathlib.Nat.{one-mul, add-div_right, div-eq_of_lt, mul-mod_left, pow-suc, mod-lt}
use native.Mathlib.Decide.{dec_lt}
use native.Mathlib.Omega.{arith}
use lib.Bits.{bit_and, bit_or, and_high, or_add_and, or_lt, or_shr, or_mod, or_zero_r}
use lib.Dec.{eqb}
use borrow.Author.Tests.{eqb-true, eqb-false}
use lib.Pow.{pow_pos, pow-lt, pow-add, high_ones, shl-shr}
use Rattle.base.specs.Choice.{pick}
use Rattle.base.specs.Sums.{sum_to}
use Rattle.base.proofs.ChoiceLaws.{pick-by}
use Rattle.base.proofs.SumLaws.{sum_to-change}
use Rattle.trading.specs.Trade.{with_seller}

-- a bit that is put where it may stand already
set-once : (bit mask one r : ℕ) → bit < 2 → r + bit * one ≡ mask + one → r ≡ pick (eqb bit 1) mask (mask + one)
set-once zero mask one r l e = omega arith
set-once (suc zero) mask one r l e = omega arith
set-once (suc (suc n)) mask one r l e = absurd (omega arith)

-- what a mask shares with one bit is that bit of it
and-bit : (mask k : ℕ) → bit_and mask (2 ^ k) ≡ (mask / 2 ^ k % 2) * 2 ^ k
and-bit mask k =
    let one : 2 ^ (1 + k) - 2 ^ k ≡ 2 ^ k = high_ones 1 k ∙ one-mul (2 ^ k) in
    ap (bit_and mask) (sym one) ∙ and_high mask 1 k

-- the mask with a seller's bit, as the code sets it
pub or-seller : (mask seller : ℕ) → bit_or mask (2 ^ seller) ≡ with_seller mask seller
or-seller mask seller =
    let bit : ℕ = mask / 2 ^ seller % 2 in
    let small : bit < 2 = mod-lt (mask / 2 ^ seller) (omega arith) in
    let whole : bit_or mask (2 ^ seller) + bit * 2 ^ seller ≡ mask + 2 ^ seller = ap (λ (x : ℕ). bit_or mask (2 ^ seller) + x) (sym (and-bit mask seller)) ∙ or_add_and mask (2 ^ seller) in
    set-once bit mask (2 ^ seller) (bit_or mask (2 ^ seller)) small whole

-- a mask of holders below n stays one
pub sellers-below : (n mask seller : ℕ) → mask < 2 ^ n → seller < n → with_seller mask seller < 2 ^ n
sellers-below n mask seller m l = rw (← (or-seller mask seller)) (or_lt n mask (2 ^ seller) m (pow-lt l))

-- a bit of one holder is no bit of another
other-bit : (j k : ℕ) → j ≢ k → 2 ^ k / 2 ^ j % 2 ≡ 0
other-bit j k other =
    elim (dec_lt k j) [
      | yes below ↦ ap (λ (x : ℕ). x % 2) (div-eq_of_lt (pow-lt below))
      | no above ↦
          let m : ℕ = k - j - 1 in
          let width : suc m + j ≡ k = omega arith in
          let shifted : 2 ^ k / 2 ^ j ≡ 2 ^ suc m = ap (λ (x : ℕ). 2 ^ x / 2 ^ j) (sym width) ∙ ap (λ (x : ℕ). x / 2 ^ j) (pow-add 2 (suc m) j) ∙ shl-shr (2 ^ suc m) j in
          ap (λ (x : ℕ). x % 2) (shifted ∙ pow-suc 2 m) ∙ mul-mod_left (2 ^ m) 2
    ]

-- the seller is among the sellers
pub seller-in : (mask seller : ℕ) → with_seller mask seller / 2 ^ seller % 2 ≡ 1
seller-in mask seller =
    let bit : ℕ = mask / 2 ^ seller % 2 in
    pick-by (λ (x : ℕ). x / 2 ^ seller % 2 ≡ 1) (eqb bit 1) mask (mask + 2 ^ seller)
    (λ was. eqb-true bit 1 was)
    (λ wasn't.
    let ne : bit ≢ 1 = eqb-false bit 1 wasn't in
    rw (add-div_right mask (pow_pos seller)) (omega arith))

-- another holder is among them if it was
pub other-in : (mask seller j : ℕ) → j ≢ seller → with_seller mask seller / 2 ^ j % 2 ≡ mask / 2 ^ j % 2
other-in mask seller j other =
    ap (λ (x : ℕ). x / 2 ^ j % 2) (sym (or-seller mask seller))
    ∙ ap (λ (x : ℕ). x % 2) (or_shr mask (2 ^ seller) j)
    ∙ or_mod (mask / 2 ^ j) (2 ^ seller / 2 ^ j) 1
    ∙ ap (bit_or (mask / 2 ^ j % 2)) (other-bit j seller other)
    ∙ or_zero_r (mask / 2 ^ j % 2)

-- the sellers counted: one more, unless the seller was counted
pub sellers-counted : (n mask seller : ℕ) → seller < n → sum_to n (λ j. with_seller mask seller / 2 ^ j % 2) + mask / 2 ^ seller % 2 ≡ sum_to n (λ j. mask / 2 ^ j % 2) + 1
sellers-counted n mask seller l =
    let change = sum_to-change n (λ j. mask / 2 ^ j % 2) (λ j. with_seller mask seller / 2 ^ j % 2) seller l (λ j m other. other-in mask seller j other) in
    change ∙ ap (λ (x : ℕ). sum_to n (λ j. mask / 2 ^ j % 2) + x) (seller-in mask seller)
