-- Laws of `sum_to` and `all_to`, each by induction on the count.
use Rattle.std.proofs.Common.{◌≡◌, ℕ, zero, suc, ◌+◌, ◌-◌, ◌*◌, ◌<◌, ◌≤◌, Bool, true, ◌&&◌, eqb, leb, ◌≢◌, ◌⊎◌, sym, refl, ap, ◌∙◌, ⊎_elim, zero-le, le_trans, le_refl, le_of_suc-le-suc, not-suc-le-zero, add-zero, add-suc, mul-le-mul_right, lt-suc_self, suc-mul, eq-or-lt_of_le, mul-zero, mul-suc, mul-add, add-one, arith, eq-eqb, eqb-true, le-leb, leb-true}
use mathlib.Core.Bool.{and-true, and_assoc}
use native.Mathlib.Nat.{le_step}
use Rattle.base.specs.Sums.{sum_to, all_to}
use Rattle.base.proofs.ChoiceLaws.{and_left, and_right, and_both, same_test}

-- a number below suc n is n, or below n
pub below_suc : {i n : ℕ} → i < suc n → (i ≡ n) ⊎ (i < n)
below_suc h = eq-or-lt_of_le (le_of_suc-le-suc h)

-- what holds of every number below suc n holds of every number below n
pub drop-last : {P : ℕ → Type 0} {n : ℕ} → ((i : ℕ) → i < suc n → P i) → (i : ℕ) → i < n → P i
drop-last h i l = h i (le_step l)

pub sum_to-zero : (f : ℕ → ℕ) → sum_to 0 f ≡ 0
unfolding sum_to
sum_to-zero f = refl

pub sum_to-suc : (n : ℕ) (f : ℕ → ℕ) → sum_to (suc n) f ≡ sum_to n f + f n
unfolding sum_to
sum_to-suc n f = refl

-- one term more, as a loop counts
pub sum_to-more : (n : ℕ) (f : ℕ → ℕ) → sum_to (n + 1) f ≡ sum_to n f + f n
sum_to-more n f = rw (add-one n) (sum_to-suc n f)

-- a further turn of a loop that sums, and the end of such a loop
pub sum_more : (n : ℕ) (f : ℕ → ℕ) (sum x : ℕ) → sum ≡ sum_to n f → x ≡ f n → sum + x ≡ sum_to (n + 1) f
sum_more n f sum x e t = cc (sum_to-more n f)

pub sum_done : (n m : ℕ) (f : ℕ → ℕ) (sum : ℕ) → sum ≡ sum_to n f → n ≤ m → m ≤ n → sum ≡ sum_to m f
sum_done n m f sum e l g = let d : n ≡ m = omega arith in rw (← d) e

-- the same terms have the same sum
pub sum_to-same : (n : ℕ) (f g : ℕ → ℕ) → ((i : ℕ) → i < n → f i ≡ g i) → sum_to n f ≡ sum_to n g
unfolding sum_to
sum_to-same zero f g h = refl
sum_to-same (suc n) f g h =
    let e : sum_to n f ≡ sum_to n g = sum_to-same n f g (λ i l. h i (le_step l)) in
    let t : f n ≡ g n = h n (lt-suc_self n) in
    cc

-- smaller terms have a smaller sum
pub sum_to-le : (n : ℕ) (f g : ℕ → ℕ) → ((i : ℕ) → i < n → f i ≤ g i) → sum_to n f ≤ sum_to n g
unfolding sum_to
sum_to-le zero f g h = zero-le
sum_to-le (suc n) f g h =
    let e : sum_to n f ≤ sum_to n g = sum_to-le n f g (λ i l. h i (le_step l)) in
    let t : f n ≤ g n = h n (lt-suc_self n) in
    omega arith

-- a sum of sums
pub sum_to-add : (n : ℕ) (f g : ℕ → ℕ) → sum_to n (λ i. f i + g i) ≡ sum_to n f + sum_to n g
unfolding sum_to
sum_to-add zero f g = refl
sum_to-add (suc n) f g =
    let e : sum_to n (λ i. f i + g i) ≡ sum_to n f + sum_to n g = sum_to-add n f g in
    omega arith

-- a sum of differences of which none is below 0
pub sum_to-sub : (n : ℕ) (f g : ℕ → ℕ) → ((i : ℕ) → i < n → g i ≤ f i) → sum_to n (λ i. f i - g i) + sum_to n g ≡ sum_to n f
unfolding sum_to
sum_to-sub zero f g h = refl
sum_to-sub (suc n) f g h =
    let e : sum_to n (λ i. f i - g i) + sum_to n g ≡ sum_to n f = sum_to-sub n f g (λ i l. h i (le_step l)) in
    let t : g n ≤ f n = h n (lt-suc_self n) in
    omega arith

-- a common factor
pub sum_to-scale : (n c : ℕ) (f : ℕ → ℕ) → sum_to n (λ i. c * f i) ≡ c * sum_to n f
unfolding sum_to
sum_to-scale zero c f = sym (mul-zero c)
sum_to-scale (suc n) c f =
    let e : sum_to n (λ i. c * f i) ≡ c * sum_to n f = sum_to-scale n c f in
    omega (arith, mul-add c (sum_to n f) (f n))

-- n terms of at most b
pub sum_to-bound : (n b : ℕ) (f : ℕ → ℕ) → ((i : ℕ) → i < n → f i ≤ b) → sum_to n f ≤ n * b
unfolding sum_to
sum_to-bound zero b f h = zero-le
sum_to-bound (suc n) b f h =
    let e : sum_to n f ≤ n * b = sum_to-bound n b f (λ i l. h i (le_step l)) in
    let t : f n ≤ b = h n (lt-suc_self n) in
    omega (arith, suc-mul n b)

-- a sum of fewer terms is smaller
pub sum_to-mono : (m n : ℕ) (f : ℕ → ℕ) → m ≤ n → sum_to m f ≤ sum_to n f
unfolding sum_to
sum_to-mono m zero f h = let e : m ≡ 0 = omega arith in rw e (le_refl 0)
sum_to-mono m (suc n) f h =
    ⊎_elim
    (λ (e : m ≡ suc n). rw e (le_refl (sum_to (suc n) f)))
    (λ (l : m < suc n).
    let r : sum_to m f ≤ sum_to n f = sum_to-mono m n f (le_of_suc-le-suc l) in
    omega arith)
    (eq-or-lt_of_le h)

-- a term is at most the sum
pub sum_to-term : (n : ℕ) (f : ℕ → ℕ) (i : ℕ) → i < n → f i ≤ sum_to n f
sum_to-term n f i h =
    let r : sum_to (suc i) f ≤ sum_to n f = sum_to-mono (suc i) n f h in
    omega (arith, sum_to-suc i f)

-- a sum of 0 has no term above 0
pub sum_to-none : (n : ℕ) (f : ℕ → ℕ) → sum_to n f ≡ 0 → (i : ℕ) → i < n → f i ≡ 0
sum_to-none n f e i h = omega (arith, sum_to-term n f i h)

-- terms of 0 have the sum 0
pub sum_to-zeros : (n : ℕ) (f : ℕ → ℕ) → ((i : ℕ) → i < n → f i ≡ 0) → sum_to n f ≡ 0
unfolding sum_to
sum_to-zeros zero f h = refl
sum_to-zeros (suc n) f h =
    let e : sum_to n f ≡ 0 = sum_to-zeros n f (λ i l. h i (le_step l)) in
    let t : f n ≡ 0 = h n (lt-suc_self n) in
    omega arith

-- fewer than n terms of at most b, and one more
pub sum_room : (n h b : ℕ) (f : ℕ → ℕ) → ((k : ℕ) → f k ≤ b) → h < n → sum_to h f + f h ≤ n * b
sum_room n h b f small l =
    let s : sum_to (suc h) f ≤ suc h * b = sum_to-bound (suc h) b f (λ k _. small k) in
    le_trans (rw (← (sum_to-suc h f)) s) (mul-le-mul_right b l)

-- sums that differ in one term
pub sum_to-change : (n : ℕ) (f g : ℕ → ℕ) (k : ℕ) → k < n → ((i : ℕ) → i < n → i ≢ k → g i ≡ f i) → sum_to n g + f k ≡ sum_to n f + g k
sum_to-change zero f g k l same = absurd (not-suc-le-zero l)
sum_to-change (suc n) f g k l same =
    ⊎_elim
    (λ (e : k ≡ n).
    let before : sum_to n g ≡ sum_to n f = sum_to-same n g f (λ i b. same i (le_step b) (omega arith)) in
    let last : g k ≡ g n = ap g e in
    let old : f k ≡ f n = ap f e in
    omega (arith, sum_to-suc n f, sum_to-suc n g))
    (λ (b : k < n).
    let before : sum_to n g + f k ≡ sum_to n f + g k = sum_to-change n f g k b (λ i c d. same i (le_step c) d) in
    let last : g n ≡ f n = same n (lt-suc_self n) (omega arith) in
    omega (arith, sum_to-suc n f, sum_to-suc n g))
    (below_suc l)

pub all_to-zero : (p : ℕ → Bool) → all_to 0 p ≡ true
unfolding all_to
all_to-zero p = refl

pub all_to-suc : (n : ℕ) (p : ℕ → Bool) → all_to n p ≡ true → p n ≡ true → all_to (suc n) p ≡ true
unfolding all_to
all_to-suc n p a h = and_both (all_to n p) (p n) a h

-- a further turn of a loop that tests all, and the end of such a loop
pub all_more : (n : ℕ) (p : ℕ → Bool) (b x : Bool) → b ≡ all_to n p → x ≡ p n → b && x ≡ all_to (n + 1) p
unfolding all_to
all_more n p b x e f = rw (add-one, e, f) refl

pub all_done : (n m : ℕ) (p : ℕ → Bool) (b : Bool) → b ≡ all_to n p → n ≤ m → m ≤ n → b ≡ all_to m p
all_done n m p b e l g = let d : n ≡ m = omega arith in rw (← d) e

-- what holds of all holds of each
pub all_to-each : (n : ℕ) (p : ℕ → Bool) → all_to n p ≡ true → (i : ℕ) → i < n → p i ≡ true
unfolding all_to
all_to-each zero p a i l = absurd (not-suc-le-zero l)
all_to-each (suc n) p a i l =
    ⊎_elim
    (λ (e : i ≡ n). rw e (and_right (all_to n p) (p n) a))
    (λ (m : i < n). all_to-each n p (and_left (all_to n p) (p n) a) i m)
    (below_suc l)

-- what holds of each holds of all
pub all_to-all : (n : ℕ) (p : ℕ → Bool) → ((i : ℕ) → i < n → p i ≡ true) → all_to n p ≡ true
unfolding all_to
all_to-all zero p h = refl
all_to-all (suc n) p h = and_both (all_to n p) (p n) (all_to-all n p (λ i l. h i (le_step l))) (h n (lt-suc_self n))

-- the same tests hold together
pub all_to-same : (n : ℕ) (p q : ℕ → Bool) → ((i : ℕ) → i < n → p i ≡ q i) → all_to n p ≡ all_to n q
unfolding all_to
all_to-same zero p q h = refl
all_to-same (suc n) p q h =
    let e : all_to n p ≡ all_to n q = all_to-same n p q (λ i l. h i (le_step l)) in
    let t : p n ≡ q n = h n (lt-suc_self n) in
    cc

all_to-add : (m n : ℕ) (p : ℕ → Bool) → all_to (m + n) p ≡ all_to m p && all_to n (λ k. p (m + k))
unfolding all_to
all_to-add m zero p = rw add-zero (sym (and-true (all_to m p)))
all_to-add m (suc n) p = rw (add-suc, all_to-add m n p) (and_assoc (all_to m p) (all_to n (λ k. p (m + k))) (p (m + n)))

-- a test of n rows of w is a test of each row
pub all_to-rows : (w n : ℕ) (p : ℕ → Bool) → all_to (w * n) p ≡ all_to n (λ h. all_to w (λ r. p (w * h + r)))
unfolding all_to
all_to-rows w zero p = rw mul-zero refl
all_to-rows w (suc n) p = rw (mul-suc, all_to-add (w * n) w p, all_to-rows w n p) refl

-- two tests of each are a test of all and another
pub all_to-both : (n : ℕ) (p q : ℕ → Bool) → all_to n (λ i. p i && q i) ≡ (all_to n p && all_to n q)
all_to-both n p q =
    same_test (all_to n (λ i. p i && q i)) (all_to n p && all_to n q)
    (λ (e : all_to n (λ i. p i && q i) ≡ true).
    and_both (all_to n p) (all_to n q)
    (all_to-all n p (λ i l. and_left (p i) (q i) (all_to-each n (λ j. p j && q j) e i l)))
    (all_to-all n q (λ i l. and_right (p i) (q i) (all_to-each n (λ j. p j && q j) e i l))))
    (λ (e : (all_to n p && all_to n q) ≡ true).
    all_to-all n (λ i. p i && q i)
    (λ i l.
    and_both (p i) (q i)
    (all_to-each n p (and_left (all_to n p) (all_to n q) e) i l)
    (all_to-each n q (and_right (all_to n p) (all_to n q) e) i l)))

-- the same of pairs
pub all_to-pairs-both :
    (m n : ℕ) (p q : ℕ → ℕ → Bool)
    → all_to m (λ h. all_to n (λ i. p h i && q h i))
    ≡ (all_to m (λ h. all_to n (λ i. p h i)) && all_to m (λ h. all_to n (λ i. q h i)))
all_to-pairs-both m n p q =
    all_to-same m (λ h. all_to n (λ i. p h i && q h i)) (λ h. all_to n (λ i. p h i) && all_to n (λ i. q h i)) (λ h l. all_to-both n (p h) (q h))
    ∙ all_to-both m (λ h. all_to n (λ i. p h i)) (λ h. all_to n (λ i. q h i))

-- a bound of each, and the test of it
pub each-le : (n : ℕ) (f g : ℕ → ℕ) → all_to n (λ i. leb (f i) (g i)) ≡ true → (i : ℕ) → i < n → f i ≤ g i
each-le n f g e i l = leb-true (f i) (g i) (all_to-each n (λ j. leb (f j) (g j)) e i l)

pub all-le : (n : ℕ) (f g : ℕ → ℕ) → ((i : ℕ) → i < n → f i ≤ g i) → all_to n (λ i. leb (f i) (g i)) ≡ true
all-le n f g h = all_to-all n (λ i. leb (f i) (g i)) (λ i l. le-leb (f i) (g i) (h i l))

-- an equation of each, and the test of it
pub each-eq : (n : ℕ) (f g : ℕ → ℕ) → all_to n (λ i. eqb (f i) (g i)) ≡ true → (i : ℕ) → i < n → f i ≡ g i
each-eq n f g e i l = eqb-true (f i) (g i) (all_to-each n (λ j. eqb (f j) (g j)) e i l)

pub all-eq : (n : ℕ) (f g : ℕ → ℕ) → ((i : ℕ) → i < n → f i ≡ g i) → all_to n (λ i. eqb (f i) (g i)) ≡ true
all-eq n f g h = all_to-all n (λ i. eqb (f i) (g i)) (λ i l. eq-eqb (f i) (g i) (h i l))

-- a test of each pair
pub each-pair : (m n : ℕ) (p : ℕ → ℕ → Bool) → all_to m (λ h. all_to n (λ i. p h i)) ≡ true → (h i : ℕ) → h < m → i < n → p h i ≡ true
each-pair m n p e h i k l = all_to-each n (λ j. p h j) (all_to-each m (λ j. all_to n (λ x. p j x)) e h k) i l

pub all-pairs : (m n : ℕ) (p : ℕ → ℕ → Bool) → ((h i : ℕ) → h < m → i < n → p h i ≡ true) → all_to m (λ h. all_to n (λ i. p h i)) ≡ true
all-pairs m n p f = all_to-all m (λ h. all_to n (λ i. p h i)) (λ h k. all_to-all n (λ i. p h i) (λ i l. f h i k l))
