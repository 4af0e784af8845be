-- What whole rows change and what they leave.
use Prim.Native.Nat.{ℕ, zero, suc, ◌+◌, ◌≤◌, ◌<◌}
use mathlib.Core.Path.{◌≡◌, refl, ap, ◌∙◌}
use mathlib.Core.List.{List}
use mathlib.Core.Logic.{◌≢◌, ◌⊎◌, inl, inr, ⊎_elim}
use native.Mathlib.Nat.{not-suc-le-zero, le_step, lt-suc_self}
use native.Mathlib.Numerals.{add-one}
use native.Mathlib.Omega.{arith}
use lib.ListN.{length, length-set}
use Rattle.base.specs.Words.{at}
use Rattle.base.proofs.SumLaws.{below_suc}
use Rattle.base.specs.Limits.{state_words}
use Rattle.state.specs.Layout.{place}
use Rattle.state.proofs.FrameLaws.{at_stored, at-other-row, at-other-column, SameRows}
use Rattle.state_rows.specs.Rows.{fill_row, fill_pairs}

pub length-fill_row : (row n : ℕ) (f : ℕ → ℕ) (s : List ℕ) → length (fill_row row n f s) ≡ length s
unfolding fill_row
length-fill_row row zero f s = refl
length-fill_row row (suc n) f s = length-set (fill_row row n f s) (place row n) (f n) ∙ length-fill_row row n f s

-- a column of the row
pub at-fill_row : (row n : ℕ) (f : ℕ → ℕ) (s : List ℕ) (c : ℕ) → state_words ≤ length s → row < 333 → n ≤ 48 → c < n →
    at (fill_row row n f s) (place row c) ≡ f c
unfolding fill_row
at-fill_row row zero f s c long r most l = absurd (not-suc-le-zero l)
at-fill_row row (suc n) f s c long r most l =
    ⊎_elim
    (λ (e : c ≡ n).
    let still : state_words ≤ length (fill_row row n f s) = omega (arith, length-fill_row row n f s) in
    rw e (at_stored (fill_row row n f s) row n (f n) still r most))
    (λ (m : c < n).
    at-other-column (fill_row row n f s) row n (f n) row c most (omega arith) (omega arith)
    ∙ at-fill_row row n f s c long r (omega arith) m)
    (below_suc l)

-- another row
pub at-fill_row-apart : (row n : ℕ) (f : ℕ → ℕ) (s : List ℕ) (r c : ℕ) → n ≤ 48 → c < 48 → r ≢ row →
    at (fill_row row n f s) (place r c) ≡ at s (place r c)
unfolding fill_row
at-fill_row-apart row zero f s r c most l other = refl
at-fill_row-apart row (suc n) f s r c most l other =
    at-other-row (fill_row row n f s) row n (f n) r c most l other
    ∙ at-fill_row-apart row n f s r c (omega arith) l other

-- a column past those written
pub at-fill_row-past : (row n : ℕ) (f : ℕ → ℕ) (s : List ℕ) (r c : ℕ) → n ≤ 48 → c < 48 → n ≤ c →
    at (fill_row row n f s) (place r c) ≡ at s (place r c)
unfolding fill_row
at-fill_row-past row zero f s r c most l past = refl
at-fill_row-past row (suc n) f s r c most l past =
    at-other-column (fill_row row n f s) row n (f n) r c most l (omega arith)
    ∙ at-fill_row-past row n f s r c (omega arith) l (omega arith)

-- the same values write the same row
pub fill_row-same : (row n : ℕ) (f g : ℕ → ℕ) (s : List ℕ) → ((c : ℕ) → c < n → f c ≡ g c) → fill_row row n f s ≡ fill_row row n g s
unfolding fill_row
fill_row-same row zero f g s h = refl
fill_row-same row (suc n) f g s h =
    let e : fill_row row n f s ≡ fill_row row n g s = fill_row-same row n f g s (λ c l. h c (le_step l)) in
    let t : f n ≡ g n = h n (lt-suc_self n) in
    cc

pub same-fill_row-past : (a b row n : ℕ) (f : ℕ → ℕ) (s : List ℕ) → n ≤ 48 → b ≤ row → SameRows a b s (fill_row row n f s)
same-fill_row-past a b row n f s most past =
    record { same = λ r c l m k. at-fill_row-apart row n f s r c most k (omega arith) }

pub length-fill_pairs : (field m n : ℕ) (f : ℕ → ℕ → ℕ) (s : List ℕ) → length (fill_pairs field m n f s) ≡ length s
unfolding fill_pairs
length-fill_pairs field zero n f s = refl
length-fill_pairs field (suc m) n f s = length-fill_row (field + m) n (f m) (fill_pairs field m n f s) ∙ length-fill_pairs field m n f s

-- a pair of the field
pub at-fill_pairs : (field m n : ℕ) (f : ℕ → ℕ → ℕ) (s : List ℕ) (h i : ℕ) → state_words ≤ length s → field + m ≤ 333 → n ≤ 48 → h < m → i < n →
    at (fill_pairs field m n f s) (place (field + h) i) ≡ f h i
unfolding fill_pairs
at-fill_pairs field zero n f s h i long rows most k l = absurd (not-suc-le-zero k)
at-fill_pairs field (suc m) n f s h i long rows most k l =
    ⊎_elim
    (λ (e : h ≡ m).
    let still : state_words ≤ length (fill_pairs field m n f s) = omega (arith, length-fill_pairs field m n f s) in
    rw e (at-fill_row (field + m) n (f m) (fill_pairs field m n f s) i still (omega arith) most l))
    (λ (b : h < m).
    at-fill_row-apart (field + m) n (f m) (fill_pairs field m n f s) (field + h) i most (omega arith) (omega arith)
    ∙ at-fill_pairs field m n f s h i long (omega arith) most b l)
    (below_suc k)

-- another row
pub at-fill_pairs-apart : (field m n : ℕ) (f : ℕ → ℕ → ℕ) (s : List ℕ) (r c : ℕ) → n ≤ 48 → c < 48 → (r < field) ⊎ (field + m ≤ r) →
    at (fill_pairs field m n f s) (place r c) ≡ at s (place r c)
unfolding fill_pairs
at-fill_pairs-apart field zero n f s r c most l apart = refl
at-fill_pairs-apart field (suc m) n f s r c most l apart =
    let other : r ≢ field + m = ⊎_elim (λ (b : r < field). omega arith) (λ (p : field + suc m ≤ r). omega arith) apart in
    at-fill_row-apart (field + m) n (f m) (fill_pairs field m n f s) r c most l other
    ∙ at-fill_pairs-apart field m n f s r c most l (⊎_elim (λ (b : r < field). inl b) (λ (p : field + suc m ≤ r). inr (omega arith)) apart)

pub fill_pairs-none : (field n : ℕ) (f : ℕ → ℕ → ℕ) (s : List ℕ) → fill_pairs field 0 n f s ≡ s
unfolding fill_pairs
fill_pairs-none field n f s = refl

-- a turn of a loop that writes a field row by row
pub fill_pairs-turn : (field m n : ℕ) (f : ℕ → ℕ → ℕ) (s g : List ℕ) → g ≡ fill_pairs field m n f s →
    fill_row (field + m) n (f m) g ≡ fill_pairs field (m + 1) n f s
unfolding fill_pairs
fill_pairs-turn field m n f s g e = rw (add-one m, e)

-- the same values write the same field
pub fill_pairs-same : (field m n : ℕ) (f g : ℕ → ℕ → ℕ) (s : List ℕ) → ((h i : ℕ) → h < m → i < n → f h i ≡ g h i) →
    fill_pairs field m n f s ≡ fill_pairs field m n g s
unfolding fill_pairs
fill_pairs-same field zero n f g s h = refl
fill_pairs-same field (suc m) n f g s h =
    ap (fill_row (field + m) n (f m)) (fill_pairs-same field m n f g s (λ j i k l. h j i (le_step k) l))
    ∙ fill_row-same (field + m) n (f m) (g m) (fill_pairs field m n g s) (λ i l. h m i (lt-suc_self m) l)

pub same-fill_pairs-past : (a b field m n : ℕ) (f : ℕ → ℕ → ℕ) (s : List ℕ) → n ≤ 48 → b ≤ field → SameRows a b s (fill_pairs field m n f s)
same-fill_pairs-past a b field m n f s most past =
    record { same = λ r c l k j. at-fill_pairs-apart field m n f s r c most j (inl (omega arith)) }
