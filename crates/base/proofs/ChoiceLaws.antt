-- Laws of `pick`, of tests joined by `&&` and `||`, and of tests and the facts that they tell.
use Rattle.std.proofs.Common.{◌≡◌, ℕ, ◌<◌, ◌≤◌, Bool, true, false, ◌&&◌, ◌||◌, eqb, leb, ◌⊎◌, ◌↔◌, sym, refl, inl, inr, zero-le, le_refl, eq-eqb, eqb-true, leb-false, leb-true}
use mathlib.Core.Bool.{false≢true}
use Rattle.base.specs.Choice.{pick}
use Rattle.base.specs.Sums.{sum_to}

-- what holds of either choice, given the test that leads to it, holds of the choice
pub pick-by : {A : Type 0} (P : A → Type 0) (b : Bool) (x y : A) → (b ≡ true → P x) → (b ≡ false → P y) → P (pick b x y)
pick-by P true x y t f = t refl
pick-by P false x y t f = f refl

pub pick_true : {A : Type 0} (b : Bool) (x y : A) → b ≡ true → pick b x y ≡ x
pick_true b x y e = rw e

pub pick-false : {A : Type 0} (b : Bool) (x y : A) → b ≡ false → pick b x y ≡ y
pick-false b x y e = rw e

-- a function of a choice is the choice of its values
pub pick-ap : {A B : Type 0} (f : A → B) (b : Bool) (x y : A) → f (pick b x y) ≡ pick b (f x) (f y)
pick-ap f true x y = refl
pick-ap f false x y = refl

-- a number or 0 is at most the number
pub pick-most : (b : Bool) (x : ℕ) → pick b x 0 ≤ x
pick-most true x = le_refl x
pick-most false x = zero-le

-- one choice for every term is one choice for the sum
pub sum_to-pick : (n : ℕ) (b : Bool) (f g : ℕ → ℕ) → sum_to n (λ i. pick b (f i) (g i)) ≡ pick b (sum_to n f) (sum_to n g)
sum_to-pick n true f g = refl
sum_to-pick n false f g = refl

pub and_left : (a b : Bool) → a && b ≡ true → a ≡ true
and_left true b e = refl
and_left false b e = e

pub and_right : (a b : Bool) → a && b ≡ true → b ≡ true
and_right true b e = e
and_right false true e = refl
and_right false false e = e

pub and_both : (a b : Bool) → a ≡ true → b ≡ true → a && b ≡ true
and_both true b p q = q
and_both false b p q = p

pub and-false : (a b : Bool) → b ≡ false → a && b ≡ false
and-false true b q = q
and-false false b q = refl

pub or_left : (a b : Bool) → a || b ≡ false → a ≡ false
or_left true b e = e
or_left false b e = refl

pub or_right : (a b : Bool) → a || b ≡ false → b ≡ false
or_right true true e = e
or_right true false e = refl
or_right false b e = e

-- tests that hold of each other are equal
pub same_test : (a b : Bool) → (a ≡ true → b ≡ true) → (b ≡ true → a ≡ true) → a ≡ b
same_test true b f g = sym (f refl)
same_test false true f g = g refl
same_test false false f g = refl

pub and-left-comm : (a b c : Bool) → (a && (b && c)) ≡ (b && (a && c))
and-left-comm true b c = refl
and-left-comm false true c = refl
and-left-comm false false c = refl

-- four tests that hold
pub four : (a b c d : Bool) → (a && b && c && d) ≡ true → (a ≡ true) × (b ≡ true) × (c ≡ true) × (d ≡ true)
four a b c d e =
    let three : (a && b && c) ≡ true = and_left (a && b && c) d e in
    let two : (a && b) ≡ true = and_left (a && b) c three in
    (and_left a b two, and_right a b two, and_right (a && b) c three, and_right (a && b && c) d e)

pub all-four : (a b c d : Bool) → a ≡ true → b ≡ true → c ≡ true → d ≡ true → (a && b && c && d) ≡ true
all-four a b c d p q r t = and_both (a && b && c) d (and_both (a && b) c (and_both a b p q) r) t

-- a test of two
pub both : (a b : Bool) → (a && b ≡ true) ↔ ((a ≡ true) × (b ≡ true))
both true b = (λ e. (refl, e), λ p. p.1)
both false b = (λ e. absurd (false≢true e), λ p. p.0)

-- equations that are tested together
pub equal-two : (a a' b b' : ℕ) → (eqb a a' && eqb b b' ≡ true) ↔ ((a ≡ a') × (b ≡ b'))
equal-two a a' b b' = (
  λ e. let p = (both (eqb a a') (eqb b b')).0 e in (eqb-true a a' p.0, eqb-true b b' p.1),
  λ p. (both (eqb a a') (eqb b b')).1 (eq-eqb a a' p.0, eq-eqb b b' p.1),
)

pub equal-three : (a a' b b' c c' : ℕ) → (eqb a a' && eqb b b' && eqb c c' ≡ true) ↔ ((a ≡ a') × (b ≡ b') × (c ≡ c'))
equal-three a a' b b' c c' = (
  λ e. let p = (both (eqb a a' && eqb b b') (eqb c c')).0 e in
      let q = (equal-two a a' b b').0 p.0 in
      (q.0, q.1, eqb-true c c' p.1),
  λ p. (both (eqb a a' && eqb b b') (eqb c c')).1 ((equal-two a a' b b').1 (p.0, p.1), eq-eqb c c' p.2),
)

-- an equation as a test, where both come to the same fact
pub test_by : (x y : ℕ) (b : Bool) (P : Type 0) → (b ≡ true) ↔ P → (x ≡ y) ↔ P → eqb x y ≡ b
test_by x y b P f e =
    same_test (eqb x y) b
    (λ t. f.1 (e.0 (eqb-true x y t)))
    (λ t. eq-eqb x y (e.1 (f.0 t)))

pub le-or-lt : (n m : ℕ) → (n ≤ m) ⊎ (m < n)
le-or-lt n m = go (leb n m) refl
  where
    go : (b : Bool) → leb n m ≡ b → (n ≤ m) ⊎ (m < n)
    go true e = inl (leb-true n m e)
    go false e = inr (leb-false n m e)

-- a function that tries tests in turn, return by return: the first that holds, or one past it
pub choice-taken : {A : Type 0} (b condition : Bool) (n rest : A) → b ≡ condition → b ≡ true → n ≡ pick condition n rest
choice-taken b condition n rest e t = rw (← e, t) refl

pub choice-left : {A : Type 0} (b condition : Bool) (r n rest : A) → b ≡ condition → b ≡ false → r ≡ rest → r ≡ pick condition n rest
choice-left b condition r n rest e f later = rw (← e, f) later

pub ruleset choices = (choice-taken, choice-left)
