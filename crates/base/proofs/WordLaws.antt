-- Laws of `tab` and `fill`: their lengths, what stands at a place inside and outside, and loops that fill.
use Rattle.std.proofs.Common.{◌≡◌, ℕ, zero, suc, ◌+◌, ◌-◌, ◌<◌, ◌≤◌, ◌≢◌, List, [], ◌∷◌, ◌++◌, length, take, drop, set, replicate, sym, refl, ap, ◌∙◌, ⊎_elim, le_refl, le_of_suc-le-suc, not-suc-le-zero, lt-suc_self, add-one, arith, length-append, length-drop, length-set, length-take-le, get_or-drop, get_or-set_other, get_or-take, get_or-set_same, get_or-append-add, ext_get_or}
use native.Mathlib.Nat.{le_step}
use native.Mathlib.Decide.{dec_lt}
use lib.ListN.{length-replicate, get_or-replicate, get_or-append}
use lib.Seq.{sets}
use Rattle.base.specs.Words.{at, tab, fill}
use Rattle.base.proofs.SumLaws.{below_suc}

pub length-tab : (n : ℕ) (f : ℕ → ℕ) → length (tab n f) ≡ n
unfolding tab
length-tab zero f = refl
length-tab (suc n) f = ap suc (length-tab n (λ k. f (suc k)))

pub at-tab : (n : ℕ) (f : ℕ → ℕ) (i : ℕ) → i < n → at (tab n f) i ≡ f i
unfolding tab
at-tab zero f i l = absurd (not-suc-le-zero l)
at-tab (suc n) f zero l = refl
at-tab (suc n) f (suc i) l = at-tab n (λ k. f (suc k)) i (le_of_suc-le-suc l)

pub fill-zero : (f : ℕ → ℕ) (l : List ℕ) → fill 0 f l ≡ l
unfolding fill
fill-zero f l = refl

pub fill_suc : (n : ℕ) (f : ℕ → ℕ) (l : List ℕ) → fill (suc n) f l ≡ set (fill n f l) n (f n)
unfolding fill
fill_suc n f l = refl

-- one place more, as a loop counts
pub fill_more : (n : ℕ) (f : ℕ → ℕ) (l : List ℕ) → fill (n + 1) f l ≡ set (fill n f l) n (f n)
fill_more n f l = rw (add-one n) (fill_suc n f l)

pub length-fill : (n : ℕ) (f : ℕ → ℕ) (l : List ℕ) → length (fill n f l) ≡ length l
unfolding fill
length-fill zero f l = refl
length-fill (suc n) f l = length-set (fill n f l) n (f n) ∙ length-fill n f l

-- a place that was filled
pub at_fill : (n : ℕ) (f : ℕ → ℕ) (l : List ℕ) (i : ℕ) → i < n → n ≤ length l → at (fill n f l) i ≡ f i
unfolding fill
at_fill zero f l i h b = absurd (not-suc-le-zero h)
at_fill (suc n) f l i h b =
    ⊎_elim
    (λ (e : i ≡ n).
    let len : length (fill n f l) ≡ length l = length-fill n f l in
    let k : n < length (fill n f l) = omega arith in
    rw e (get_or-set_same (fill n f l) n (f n) 0 k))
    (λ (m : i < n).
    let ne : i ≢ n = omega arith in
    get_or-set_other (fill n f l) n i (f n) 0 ne ∙ at_fill n f l i m (omega arith))
    (below_suc h)

-- a place past those that were filled
pub at-fill-past : (n : ℕ) (f : ℕ → ℕ) (l : List ℕ) (i : ℕ) → n ≤ i → at (fill n f l) i ≡ at l i
unfolding fill
at-fill-past zero f l i h = refl
at-fill-past (suc n) f l i h =
    let ne : i ≢ n = omega arith in
    get_or-set_other (fill n f l) n i (f n) 0 ne ∙ at-fill-past n f l i (omega arith)

-- the same values fill alike
pub fill-same : (n : ℕ) (f g : ℕ → ℕ) (l : List ℕ) → ((i : ℕ) → i < n → f i ≡ g i) → fill n f l ≡ fill n g l
unfolding fill
fill-same zero f g l h = refl
fill-same (suc n) f g l h =
    let e : fill n f l ≡ fill n g l = fill-same n f g l (λ i m. h i (le_step m)) in
    let t : f n ≡ g n = h n (lt-suc_self n) in
    cc

-- a list that is filled whole is the table
pub fill-whole : (n : ℕ) (f : ℕ → ℕ) (l : List ℕ) → length l ≡ n → fill n f l ≡ tab n f
fill-whole n f l e =
    let len : length (fill n f l) ≡ length l = length-fill n f l in
    ext_get_or 0 (fill n f l) (tab n f) (len ∙ e ∙ sym (length-tab n f))
    (λ i h.
    let m : i < n = omega arith in
    at_fill n f l i m (omega arith) ∙ sym (at-tab n f i m))

-- the same values make the same table
pub tab-same : (n : ℕ) (f g : ℕ → ℕ) → ((i : ℕ) → i < n → f i ≡ g i) → tab n f ≡ tab n g
tab-same n f g h =
    ext_get_or 0 (tab n f) (tab n g) (length-tab n f ∙ sym (length-tab n g))
    (λ i l.
    let m : i < n = omega (arith, length-tab n f) in
    at-tab n f i m ∙ h i m ∙ sym (at-tab n g i m))

-- the table of a list's own words is the list
pub tab-at : (l : List ℕ) → tab (length l) (at l) ≡ l
tab-at l =
    ext_get_or 0 (tab (length l) (at l)) l (length-tab (length l) (at l))
    (λ i h. at-tab (length l) (at l) i (omega (arith, length-tab (length l) (at l))))

-- the first n words of a list
pub take-tab : (n : ℕ) (l : List ℕ) → n ≤ length l → take n l ≡ tab n (at l)
take-tab n l h =
    let len : length (take n l) ≡ n = length-take-le n l h in
    ext_get_or 0 (take n l) (tab n (at l)) (len ∙ sym (length-tab n (at l)))
    (λ i m.
    let k : i < n = omega arith in
    get_or-take n l i 0 k ∙ sym (at-tab n (at l) i k))

-- the first places of a fresh array are a table of its one word
pub take-replicate : (n size v : ℕ) → n ≤ size → take n (replicate size v) ≡ tab n (λ i. v)
take-replicate n size v h =
    let long : length (take n (replicate size v)) ≡ n = length-take-le n (replicate size v) (omega (arith, length-replicate size v)) in
    ext_get_or 0 (take n (replicate size v)) (tab n (λ i. v)) (long ∙ sym (length-tab n (λ i. v)))
    (λ i l.
    let m : i < n = omega arith in
    get_or-take n (replicate size v) i 0 m ∙ get_or-replicate size i v 0 (omega arith) ∙ sym (at-tab n (λ i. v) i m))

-- a loop that fills: the place of this turn is as it was, the next word is stored, and the end
pub fill-place : (n : ℕ) (f : ℕ → ℕ) (l g : List ℕ) → g ≡ fill n f l → at g n ≡ at l n
fill-place n f l g e = rw e (at-fill-past n f l n (le_refl n))

pub fill-turn : (n : ℕ) (f : ℕ → ℕ) (l g : List ℕ) (x : ℕ) → g ≡ fill n f l → x ≡ f n → set g n x ≡ fill (n + 1) f l
fill-turn n f l g x e h = rw (e, h) (sym (fill_more n f l))

pub fill_done : (n m : ℕ) (f : ℕ → ℕ) (l g : List ℕ) → g ≡ fill n f l → n ≤ m → m ≤ n → g ≡ fill m f l
fill_done n m f l g e a b =
    let same : n ≡ m = omega arith in
    rw (← same) e

-- filling the first places is putting the words in front of the rest
pub fill-front : (g l : List ℕ) → length g ≤ length l → fill (length g) (at g) l ≡ g ++ drop (length g) l
fill-front g l h =
    let n : ℕ = length g in
    let whole : length (g ++ drop n l) ≡ length l = length-append g (drop n l) ∙ (omega (arith, length-drop n l)) in
    ext_get_or 0 (fill n (at g) l) (g ++ drop n l) (length-fill n (at g) l ∙ sym whole)
    (λ i m.
    elim (dec_lt i n) [
      | yes inside ↦ at_fill n (at g) l i inside h ∙ sym (get_or-append g (drop n l) 0 i inside)
      | no past ↦
          let later : n + (i - n) ≡ i = omega arith in
          at-fill-past n (at g) l i (omega arith)
          ∙ sym
          (ap (λ k. at (g ++ drop n l) k) (sym later)
          ∙ get_or-append-add g (drop n l) (i - n) 0
          ∙ get_or-drop n l (i - n) 0
          ∙ ap (at l) later)
    ])

-- a run of stores after another is one run
pub sets_more : (place : ℕ) (t u l : List ℕ) → sets (sets l place t) (place + length t) u ≡ sets l place (t ++ u)
sets_more place [] u l = ap (λ (k : ℕ). sets l k u) (omega arith)
sets_more place (x ∷ t) u l =
    ap (λ (k : ℕ). sets (sets (set l place x) (suc place) t) k u) (omega arith)
    ∙ sets_more (suc place) t u (set l place x)
