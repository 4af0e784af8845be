-- How many digits a number has, and that the digits that the library prints are the decimal text.
use Prim.Native.Nat.{ℕ, zero, suc, ◌+◌, ◌*◌, ◌/◌, ◌%◌, ◌^◌, ◌≤◌, ◌<◌}
use mathlib.Core.Path.{◌≡◌, refl, sym, ap}
use mathlib.Core.List.{List, [], ◌∷◌, ◌++◌}
use native.Mathlib.Nat.{pow-suc, mod-eq_of_lt}
use native.Mathlib.Omega.{arith}
use lib.Dec.{ltb}
use lib.ListN.{length, length-append}
use borrow.Author.Tests.{lt-ltb, le-ltb}
use Rattle.base.proofs.ChoiceLaws.{pick-by}
use Rattle.std.specs.Fmt as Fmt
use Rattle.std.proofs.lemmas.Fmt.{decimal_by_steps}
use Rattle.text.specs.Decimal.{digit, decimal, decimal_to}

pub length-decimal : (k n : ℕ) → length (decimal_to k n) ≤ suc k
unfolding decimal_to
length-decimal zero n = omega arith
length-decimal (suc k) n =
    pick-by (λ (t : List ℕ). length t ≤ suc (suc k)) (ltb n 10) (digit n ∷ []) (decimal_to k (n / 10) ++ (digit (n % 10) ∷ []))
    (λ _. omega arith)
    (λ _. omega (arith, length-append (decimal_to k (n / 10)) (digit (n % 10) ∷ []), length-decimal k (n / 10)))

-- the digits that the standard library prints are the decimal text
by-steps : (n : ℕ) → n < 2 ^ 64 → (k : ℕ) → n < 10 ^ suc k → Fmt.decimal n ≡ decimal_to k n
unfolding decimal_to
by-steps = decimal_by_steps (λ m digits. (k : ℕ) → m < 10 ^ suc k → digits ≡ decimal_to k m) one more
  where
    one : (m : ℕ) → m < 10 → (k : ℕ) → m < 10 ^ suc k → (48 + m) ∷ [] ≡ decimal_to k m
    one m small zero fit = ap (λ (d : ℕ). digit d ∷ []) (sym (mod-eq_of_lt small))
    one m small (suc k) fit = rw (lt-ltb m 10 small) refl

    more : (m : ℕ) (digits : List ℕ) → 10 ≤ m → ((k : ℕ) → m / 10 < 10 ^ suc k → digits ≡ decimal_to k (m / 10)) → (k : ℕ) → m < 10 ^ suc k →
        digits ++ ((48 + m % 10) ∷ []) ≡ decimal_to k m
    more m digits large before zero fit = absurd (omega arith)
    more m digits large before (suc k) fit =
        let step : 10 ^ suc (suc k) ≡ 10 ^ suc k * 10 = pow-suc 10 (suc k) in
        rw (le-ltb m 10 large) (ap (λ (t : List ℕ). t ++ ((48 + m % 10) ∷ [])) (before k (omega (arith, step))))

pub decimal-of : (n : ℕ) → n < 2 ^ 64 → Fmt.decimal n ≡ decimal n
decimal-of n small = by-steps n small 19 (omega arith)
