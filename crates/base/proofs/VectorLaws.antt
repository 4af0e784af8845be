-- A row that is written word by word, a number that is lowered term by term, and lists that are parts of others.
use Rattle.std.proofs.Common.{◌≡◌, ℕ, zero, suc, ◌+◌, ◌-◌, ◌*◌, ◌%◌, ◌^◌, ◌<◌, ◌≤◌, Bool, List, [], ◌++◌, length, take, drop, set, sym, refl, ap, ◌∙◌, zero-le, le_refl, mod-eq_of_lt, arith, length-set, length-take-le, get_or-drop, get_or-take, get_or-append-add, ext_get_or}
use native.Mathlib.Nat.{mod-add-mod, sub-zero}
use native.Mathlib.Decide.{dec_lt}
use lib.ListN.{get_or, get_or-append, get_or-eq_default}
use borrow.Rule.Slice.PartMut.{mid_of, put_mid, mid_len}
use Rattle.std.specs.Simd.{first_chunks}
use Rattle.base.specs.Sums.{sum_to, all_to}
use Rattle.base.specs.Words.{at, tab, fill}
use Rattle.base.proofs.SumLaws.{sum_to-zero, sum_to-more, sum_to-same, all_to-same}
use Rattle.base.proofs.WordLaws.{fill-zero, fill-turn, fill-whole, at_fill, at-fill-past, length-fill, at-tab, length-tab, tab-same, tab-at}

-- the first c words of a row are those of f, the others as they were
pub record Filling (f : ℕ → ℕ) (first row : List ℕ) (c : ℕ) : Type 0 where
  pub inside : c ≤ length first
  pub size : length row ≡ length first
  pub written : row ≡ fill c f first

module _ (f : ℕ → ℕ) (first : List ℕ) where
  pub filling-none : Filling f first first 0
  filling-none = record { inside = zero-le; size = refl; written = sym (fill-zero f first) }

  -- a word that is to come is as it was
  pub filling-later : (row : List ℕ) (c : ℕ) → Filling f first row c → at row c ≡ at first c
  filling-later row c s = ap (λ l. at l c) s.written ∙ at-fill-past c f first c (le_refl c)

  pub filling-next : (row : List ℕ) (c x : ℕ) → Filling f first row c → c < length row → x ≡ f c → Filling f first (set row c x) (c + 1)
  filling-next row c x s l e =
      record {
        inside = omega (arith, s.size);
        size = length-set row c x ∙ s.size;
        written = fill-turn c f first row x s.written e;
      }

  pub filling-all : (row : List ℕ) (c : ℕ) → Filling f first row c → length row ≤ c → row ≡ tab (length first) f
  filling-all row c s l =
      let end : c ≡ length first = omega (arith, s.inside, s.size) in
      s.written ∙ ap (λ n. fill n f first) end ∙ fill-whole (length first) f first refl

  -- a row whose other words are those of f already
  pub filling-rest : (row : List ℕ) (c : ℕ) → Filling f first row c → ((i : ℕ) → c ≤ i → i < length first → at first i ≡ f i) → row ≡ tab (length first) f
  filling-rest row c s rest =
      s.written
      ∙ ext_get_or 0 (fill c f first) (tab (length first) f) (length-fill c f first ∙ sym (length-tab (length first) f))
      (λ i l.
      let m : i < length first = omega (arith, length-fill c f first) in
      elim (dec_lt i c) [
        | yes before ↦ at_fill c f first i before s.inside ∙ sym (at-tab (length first) f i m)
        | no past ↦
            let later : c ≤ i = omega arith in
            at-fill-past c f first i later ∙ rest i later m ∙ sym (at-tab (length first) f i m)
      ])

-- a list that has ended takes nothing off
pub past_end : (row list : List ℕ) (i : ℕ) → length list ≤ i → at row i ≡ at row i - at list i
past_end row list i h = rw (get_or-eq_default list 0 h) (sym (sub-zero (at row i)))

-- one term more taken off
pub less-more : (start left c x : ℕ) (f : ℕ → ℕ) → left ≡ start - sum_to c f → x ≡ left - f c → x ≡ start - sum_to (c + 1) f
less-more start left c x f e h = omega (arith, sum_to-more c f)

pub less_none : (start : ℕ) (f : ℕ → ℕ) → start ≡ start - sum_to 0 f
less_none start f = omega (arith, sum_to-zero f)

-- one term more, added in 64 bits
pub wraps-more : (sum c x : ℕ) (f : ℕ → ℕ) → sum ≡ sum_to c f % 2 ^ 64 → x ≡ (sum + f c) % 2 ^ 64 → x ≡ sum_to (c + 1) f % 2 ^ 64
wraps-more sum c x f e h =
    h ∙ ap (λ (k : ℕ). (k + f c) % 2 ^ 64) e ∙ mod-add-mod (sum_to c f) (2 ^ 64) (f c) ∙ ap (λ (k : ℕ). k % 2 ^ 64) (sym (sum_to-more c f))

pub wraps-none : (f : ℕ → ℕ) → 0 ≡ sum_to 0 f % 2 ^ 64
wraps-none f = ap (λ (k : ℕ). k % 2 ^ 64) (sym (sum_to-zero f))

-- a sum below 2 ^ 64 is as it is
pub sum-whole : (r n : ℕ) (f : ℕ → ℕ) → r ≡ sum_to n f % 2 ^ 64 → sum_to n f < 2 ^ 64 → r ≡ sum_to n f
sum-whole r n f e small = e ∙ mod-eq_of_lt small

-- a row with what m lists have at each place taken off
abbrev pub lowered : (ℕ → ℕ → ℕ) → List ℕ → ℕ → List ℕ
lowered f first m = tab (length first) (λ i. at first i - sum_to m (λ h. f h i))

module _ (f : ℕ → ℕ → ℕ) (first : List ℕ) where
  pub lowered_none : first ≡ lowered f first 0
  lowered_none = sym (tab-at first) ∙ tab-same (length first) (at first) _ (λ i l. less_none (at first i) (λ h. f h i))

  pub lowered-next : (m : ℕ) (row after : List ℕ) → row ≡ lowered f first m → after ≡ tab (length row) (λ c. at row c - f m c) →
      after ≡ lowered f first (m + 1)
  lowered-next m row after e h =
      let size : length row ≡ length first = ap length e ∙ length-tab (length first) _ in
      h ∙ ap (λ n. tab n (λ c. at row c - f m c)) size
      ∙ tab-same (length first) (λ c. at row c - f m c) _
      (λ i l.
      less-more (at first i) (at row i) m (at row i - f m i) (λ k. f k i) (ap (λ l. at l i) e ∙ at-tab (length first) _ i l) refl)

-- a word of the part that came back
pub at_part : (a k : ℕ) (l part : List ℕ) (c : ℕ) → a ≤ length l → c < length part → at (put_mid a k l part) (a + c) ≡ at part c
at_part a k l part c inside b =
    let front : length (take a l) ≡ a = length-take-le a l inside in
    ap (λ n. at (put_mid a k l part) (n + c)) (sym front)
    ∙ get_or-append-add (take a l) (part ++ _) c 0
    ∙ get_or-append part _ 0 c b

-- a word before it
pub at-before-part : (a k : ℕ) (l part : List ℕ) (j : ℕ) → a ≤ length l → j < a → at (put_mid a k l part) j ≡ at l j
at-before-part a k l part j inside b =
    let front : length (take a l) ≡ a = length-take-le a l inside in
    get_or-append (take a l) (part ++ _) 0 j (omega arith) ∙ get_or-take a l j 0 b

-- a word of a part that is read
pub at_mid : (a k : ℕ) (l : List ℕ) (c : ℕ) → c < k → at (mid_of a k l) c ≡ at l (a + c)
at_mid a k l c b = get_or-take k (drop a l) c 0 b ∙ get_or-drop a l c 0

-- the sum of a part, from a up to e, that has n numbers
pub sum-part : (a e n : ℕ) (l : List ℕ) → e ≡ a + n → e ≤ length l →
    sum_to (length (mid_of a (e - a) l)) (at (mid_of a (e - a) l)) ≡ sum_to n (λ c. at l (a + c))
sum-part a e n l end inside =
    let size : length (mid_of a (e - a) l) ≡ n = mid_len a e l inside ∙ (omega arith) in
    ap (λ k. sum_to k (at (mid_of a (e - a) l))) size
    ∙ sum_to-same n (at (mid_of a (e - a) l)) (λ c. at l (a + c)) (λ c h. at_mid a (e - a) l c (omega arith))

-- a test of every number of such a part, and of the first n numbers
pub all-part : (a e n : ℕ) (l : List ℕ) (p : ℕ → Bool) → e ≡ a + n → e ≤ length l →
    all_to (length (mid_of a (e - a) l)) (λ c. p (at (mid_of a (e - a) l) c)) ≡ all_to n (λ c. p (at l (a + c)))
all-part a e n l p end inside =
    let size : length (mid_of a (e - a) l) ≡ n = mid_len a e l inside ∙ (omega arith) in
    ap (λ k. all_to k (λ c. p (at (mid_of a (e - a) l) c))) size
    ∙ all_to-same n (λ c. p (at (mid_of a (e - a) l) c)) (λ c. p (at l (a + c))) (λ c h. ap p (at_mid a (e - a) l c (omega arith)))

pub all-front : (n : ℕ) (l : List ℕ) (p : ℕ → Bool) → n ≤ length l →
    all_to (length (take n l)) (λ c. p (at (take n l) c)) ≡ all_to n (λ c. p (at l c))
all-front n l p inside =
    ap (λ k. all_to k (λ c. p (at (take n l) c))) (length-take-le n l inside)
    ∙ all_to-same n (λ c. p (at (take n l) c)) (λ c. p (at l c)) (λ c h. ap p (get_or-take n l c 0 h))

-- a table cut into rows of n words each: word c of row h is word n * h + c of the table
pub at-row : (n k h c : ℕ) (l : List ℕ) → h < k → c < n → at (get_or (first_chunks n k l) h []) c ≡ at l (n * h + c)
at-row n zero h c l few inside = absurd (omega arith)
at-row n (suc k) zero c l few inside = get_or-take n l c 0 inside ∙ ap (at l) (omega arith)
at-row n (suc k) (suc h) c l few inside =
    at-row n k h c (drop n l) (omega arith) inside
    ∙ get_or-drop n l (n * h + c) 0
    ∙ ap (at l) (omega arith)

pub length-rows : (n k : ℕ) (l : List ℕ) → length (first_chunks n k l) ≡ k
length-rows n zero l = refl
length-rows n (suc k) l = ap suc (length-rows n k (drop n l))

-- a row off which the first m rows of such a table are taken
pub off_rows : (n k m : ℕ) (l row : List ℕ) → m ≤ k → length row ≤ n →
    tab (length row) (λ c. at row c - sum_to (length (take m (first_chunks n k l))) (λ h. at (get_or (take m (first_chunks n k l)) h []) c))
    ≡ lowered (λ h c. at l (n * h + c)) row m
off_rows n k m l row few narrow =
    let rows = first_chunks n k l in
    let size : length (take m rows) ≡ m = length-take-le m rows (rw (length-rows n k l) few) in
    tab-same (length row) _ (λ c. at row c - sum_to m (λ h. at l (n * h + c)))
    (λ c inside.
    ap (λ (t : ℕ). at row c - sum_to t (λ h. at (get_or (take m rows) h []) c)) size
    ∙ ap (λ (s : ℕ). at row c - s)
    (sum_to-same m _ (λ h. at l (n * h + c))
    (λ h low. ap (λ w. at w c) (get_or-take m rows h [] low) ∙ at-row n k h c l (omega arith) (omega arith))))
