-- What the digits of a text are as a number: digit by digit, and read back from the decimal text.
use Prim.Native.Nat.{ℕ, zero, suc, ◌+◌, ◌-◌, ◌*◌, ◌/◌, ◌%◌, ◌^◌, ◌≤◌, ◌<◌}
use mathlib.Core.Path.{◌≡◌, refl, sym, ap, ◌∙◌}
use mathlib.Core.Bool.{true, false, ◌&&◌}
use Rattle.std.specs.List.{list_all}
use mathlib.Core.List.{List, [], ◌∷◌, ◌++◌}
use native.Mathlib.Nat.{pow-suc, add-mul, mul_assoc, one-le-pow, mul-le-mul}
use native.Mathlib.Numerals.{add-one}
use native.Mathlib.Omega.{arith}
use lib.Dec.{ltb, leb}
use lib.Pow.{pow-add}
use lib.ListN.{length, length-append, take, drop, take-append-drop}
use lib.Seq.{take-suc}
use borrow.Author.Tests.{leb-true, le-leb, ltb-true, lt-ltb, le-ltb}
use Rattle.base.specs.Words.{at}
use Rattle.base.proofs.ChoiceLaws.{and_left, and_right, and_both, and-false, pick-by}
use Rattle.text.specs.Decimal.{digit, decimal, decimal_to, is_digit, all_digits, value, number_of}
use Rattle.std.specs.Prelude.{Ok, Err}
use Rattle.text.specs.declared.reading.NumberError.TheVariants.{Over, Bad}

-- the value of digits after others
pub value-append : (t u : List ℕ) → value (t ++ u) ≡ value t * 10 ^ length u + value u
unfolding value
value-append [] u = omega arith
value-append (byte ∷ t) u =
    let d : ℕ = byte - 48 in
    let places : 10 ^ length (t ++ u) ≡ 10 ^ length t * 10 ^ length u = ap (λ (n : ℕ). 10 ^ n) (length-append t u) ∙ pow-add 10 (length t) (length u) in
    let first : d * 10 ^ length (t ++ u) ≡ d * 10 ^ length t * 10 ^ length u = ap (λ (n : ℕ). d * n) places ∙ sym (mul_assoc d (10 ^ length t) (10 ^ length u)) in
    let both : (d * 10 ^ length t + value t) * 10 ^ length u ≡ d * 10 ^ length t * 10 ^ length u + value t * 10 ^ length u = add-mul (d * 10 ^ length t) (value t) (10 ^ length u) in
    omega (arith, value-append t u)

-- one digit more
pub value-more : (t : List ℕ) (byte : ℕ) → value (t ++ (byte ∷ [])) ≡ 10 * value t + (byte - 48)
unfolding value
value-more t byte = value-append t (byte ∷ []) ∙ omega arith

-- a loop that reads digits: its beginning, and a turn
pub value_none : value [] ≡ 0
unfolding value
value_none = refl

pub value-turn : (text : List ℕ) (i : ℕ) → i < length text → value (take (i + 1) text) ≡ 10 * value (take i text) + (at text i - 48)
value-turn text i inside = rw (add-one i, take-suc text i 0 inside) (value-more (take i text) (at text i))

-- the first digits of a number are no more than it
pub value-front : (i : ℕ) (text : List ℕ) → value (take i text) ≤ value text
value-front i text =
    let whole : value text ≡ value (take i text) * 10 ^ length (drop i text) + value (drop i text) =
    ap value (sym (take-append-drop i text)) ∙ value-append (take i text) (drop i text) in
    let some : 1 ≤ 10 ^ length (drop i text) = one-le-pow (length (drop i text)) 10 (omega arith) in
    let more : value (take i text) * 1 ≤ value (take i text) * 10 ^ length (drop i text) = mul-le-mul (omega arith) some in
    omega arith

-- every byte of digits is one
digits-at : (text : List ℕ) → all_digits text ≡ true → (i : ℕ) → i < length text → is_digit (at text i) ≡ true
unfolding all_digits
digits-at [] all i h = absurd (omega arith)
digits-at (byte ∷ text) all zero h = and_left (is_digit byte) (all_digits text) all
digits-at (byte ∷ text) all (suc i) h = digits-at text (and_right (is_digit byte) (all_digits text) all) i (omega arith)

pub digit-range : (text : List ℕ) → all_digits text ≡ true → (i : ℕ) → i < length text → (48 ≤ at text i) × (at text i ≤ 57)
digit-range text all i h =
    let e : is_digit (at text i) ≡ true = digits-at text all i h in
    (leb-true 48 (at text i) (and_left (leb 48 (at text i)) (leb (at text i) 57) e), leb-true (at text i) 57 (and_right (leb 48 (at text i)) (leb (at text i) 57) e))

-- a test of every byte is one of every digit
pub digits-all : (text : List ℕ) → list_all is_digit text ≡ all_digits text
unfolding all_digits
digits-all [] = refl
digits-all (byte ∷ text) = ap (λ b. is_digit byte && b) (digits-all text)

-- what a text is as a number, by cases
module _ (text : List ℕ) where
  pub number-empty : length text ≡ 0 → Err Bad ≡ number_of text
  unfolding number_of
  number-empty e = rw e refl

  pub number-bad : false ≡ all_digits text → Err Bad ≡ number_of text
  unfolding number_of
  number-bad e = rw (← e, and-false (ltb 0 (length text)) false refl) refl

  module _ (some : 0 < length text) (all : all_digits text ≡ true) where
    pub number-over : ¬ (value text < 2 ^ 32) → Err Over ≡ number_of text
    unfolding number_of
    number-over large = rw (all, lt-ltb 0 (length text) some, le-ltb (value text) (2 ^ 32) (omega (arith, large))) refl

    pub number-value : (n : ℕ) → n ≡ value text → n < 2 ^ 32 → Ok n ≡ number_of text
    unfolding number_of
    number-value n e small = rw (all, lt-ltb 0 (length text) some, ← e, lt-ltb n (2 ^ 32) small) refl

-- reading back the decimal text of a number
is_digit-digit : (d : ℕ) → d < 10 → is_digit (digit d) ≡ true
is_digit-digit d small =
    and_both (leb (digit 0) (digit d)) (leb (digit d) (digit 9)) (le-leb (digit 0) (digit d) (omega arith)) (le-leb (digit d) (digit 9) (omega arith))

digits_append : (t u : List ℕ) → all_digits t ≡ true → all_digits u ≡ true → all_digits (t ++ u) ≡ true
unfolding all_digits
digits_append [] u a b = b
digits_append (byte ∷ t) u a b =
    and_both (is_digit byte) (all_digits (t ++ u)) (and_left (is_digit byte) (all_digits t) a) (digits_append t u (and_right (is_digit byte) (all_digits t) a) b)

one-digit : (d : ℕ) → d < 10 → (all_digits (digit d ∷ []) ≡ true) × (value (digit d ∷ []) ≡ d)
unfolding all_digits value
one-digit d small = (and_both (is_digit (digit d)) true (is_digit-digit d small) refl, omega arith)

pub digits_decimal : (k n : ℕ) → all_digits (decimal_to k n) ≡ true
unfolding decimal_to
digits_decimal zero n = (one-digit (n % 10) (omega arith)).0
digits_decimal (suc k) n =
    pick-by (λ (t : List ℕ). all_digits t ≡ true) (ltb n 10) (digit n ∷ []) (decimal_to k (n / 10) ++ (digit (n % 10) ∷ []))
    (λ e. (one-digit n (ltb-true n 10 e)).0)
    (λ _. digits_append (decimal_to k (n / 10)) (digit (n % 10) ∷ []) (digits_decimal k (n / 10)) (one-digit (n % 10) (omega arith)).0)

pub value-decimal : (k n : ℕ) → n < 10 ^ suc k → value (decimal_to k n) ≡ n
unfolding decimal_to
value-decimal zero n small = (one-digit (n % 10) (omega arith)).1 ∙ omega arith
value-decimal (suc k) n small =
    pick-by (λ (t : List ℕ). value t ≡ n) (ltb n 10) (digit n ∷ []) (decimal_to k (n / 10) ++ (digit (n % 10) ∷ []))
    (λ e. (one-digit n (ltb-true n 10 e)).1)
    (λ _.
    let tens : 10 ^ suc (suc k) ≡ 10 ^ suc k * 10 = pow-suc 10 (suc k) in
    let front : value (decimal_to k (n / 10)) ≡ n / 10 = value-decimal k (n / 10) (omega arith) in
    value-more (decimal_to k (n / 10)) (digit (n % 10)) ∙ omega arith)

pub some-decimal : (k n : ℕ) → 0 < length (decimal_to k n)
unfolding decimal_to
some-decimal zero n = omega arith
some-decimal (suc k) n =
    pick-by (λ (t : List ℕ). 0 < length t) (ltb n 10) (digit n ∷ []) (decimal_to k (n / 10) ++ (digit (n % 10) ∷ []))
    (λ _. omega arith)
    (λ _. omega (arith, length-append (decimal_to k (n / 10)) (digit (n % 10) ∷ [])))

pub read_back : (n : ℕ) → n < 2 ^ 32 → number_of (decimal n) ≡ Ok n
read_back n small = sym (number-value (decimal n) (some-decimal 19 n) (digits_decimal 19 n) n (sym (value-decimal 19 n (omega arith))) small)
