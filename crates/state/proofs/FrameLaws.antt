-- What a store changes and what it leaves, by rows and columns.
use Prim.Native.Nat.{ℕ, ◌+◌, ◌/◌, ◌%◌, ◌≤◌, ◌<◌}
use mathlib.Core.Path.{◌≡◌, refl, ◌∙◌}
use mathlib.Core.List.{List}
use mathlib.Core.Logic.{◌≢◌}
use native.Mathlib.Omega.{arith}
use lib.ListN.{length, set}
use lib.Seq.{get_or-set_same, get_or-set_other, set_out}
use Rattle.base.specs.Sums.{sum_to}
use Rattle.base.specs.Words.{at}
use Rattle.base.proofs.SumLaws.{sum_to-same, sum_to-change}
use Rattle.base.specs.Limits.{state_words}
use Rattle.state.specs.Layout.{place, first_written, interties, holders}

-- a word past the end is not stored
pub ruleset past_end = (set_out)

-- another row or another column is another place
pub place-apart : (r c r' c' : ℕ) → c < 48 → c' < 48 → (r' ≡ r → c' ≡ c → ⊥) → place r' c' ≢ place r c
place-apart r c r' c' l l' apart e =
    let row : r' ≡ r = omega arith in
    let column : c' ≡ c = omega arith in
    apart row column

-- the word that was stored
pub at_stored : (s : List ℕ) (r c v : ℕ) → state_words ≤ length s → r < 333 → c < 48 → at (set s (place r c) v) (place r c) ≡ v
at_stored s r c v long row column = get_or-set_same s (place r c) v 0 (omega arith)

-- a word elsewhere
pub at-apart :
    (s : List ℕ) (r c v r' c' : ℕ) → c < 48 → c' < 48 → (r' ≡ r → c' ≡ c → ⊥)
    → at (set s (place r c) v) (place r' c') ≡ at s (place r' c')
at-apart s r c v r' c' l l' apart = get_or-set_other s (place r c) (place r' c') v 0 (place-apart r c r' c' l l' apart)

pub at-other-row : (s : List ℕ) (r c v r' c' : ℕ) → c < 48 → c' < 48 → r' ≢ r → at (set s (place r c) v) (place r' c') ≡ at s (place r' c')
at-other-row s r c v r' c' l l' other = at-apart s r c v r' c' l l' (λ e f. other e)

pub at-other-column : (s : List ℕ) (r c v r' c' : ℕ) → c < 48 → c' < 48 → c' ≢ c → at (set s (place r c) v) (place r' c') ≡ at s (place r' c')
at-other-column s r c v r' c' l l' other = at-apart s r c v r' c' l l' (λ e f. other f)

-- the rows from a up to b have the same words in two states
pub record SameRows (a b : ℕ) (s t : List ℕ) : Type 0 where
  pub same : (r c : ℕ) → a ≤ r → r < b → c < 48 → at t (place r c) ≡ at s (place r c)

-- what opening wrote is the same in two states
abbrev pub SameOpening : List ℕ → List ℕ → Type 0
SameOpening s t = SameRows 0 first_written s t

pub same_refl : (a b : ℕ) (s : List ℕ) → SameRows a b s s
same_refl a b s = record { same = λ r c l m n. refl }

pub same-trans : {a b : ℕ} {s t u : List ℕ} → SameRows a b s t → SameRows a b t u → SameRows a b s u
same-trans f g = record { same = λ r c l m n. g.same r c l m n ∙ f.same r c l m n }

-- fewer rows
pub same-within : {a b a' b' : ℕ} {s t : List ℕ} → a ≤ a' → b' ≤ b → SameRows a b s t → SameRows a' b' s t
same-within p q f = record { same = λ r c l m n. f.same r c (omega arith) (omega arith) n }

-- a store below the rows, or past them
pub same-store-below : (a b : ℕ) (s : List ℕ) (r c v : ℕ) → c < 48 → r < a → SameRows a b s (set s (place r c) v)
same-store-below a b s r c v l below =
    record { same = λ r' c' m n k. at-other-row s r c v r' c' l k (omega arith) }

pub same-store-past : (a b : ℕ) (s : List ℕ) (r c v : ℕ) → c < 48 → b ≤ r → SameRows a b s (set s (place r c) v)
same-store-past a b s r c v l past =
    record { same = λ r' c' m n k. at-other-row s r c v r' c' l k (omega arith) }

-- what opening wrote, by places: all words below the first row that calls write
pub same-below : {s t : List ℕ} → SameOpening s t → (p : ℕ) → p < place first_written 0 → at t p ≡ at s p
same-below {s} {t} f p l =
    let whole : place (p / 48) (p % 48) ≡ p = omega arith in
    rw whole at (f.same (p / 48) (p % 48) (omega arith) (omega arith) (omega arith))

-- the sizes stay with what opening wrote
pub same-interties : {s t : List ℕ} → SameOpening s t → interties t ≡ interties s
same-interties f = f.same 0 0 (omega arith) (omega arith) (omega arith)

pub same-holders : {s t : List ℕ} → SameOpening s t → holders t ≡ holders s
same-holders f = f.same 0 1 (omega arith) (omega arith) (omega arith)

-- a field of the pairs, from row f on, whose rows are the same: its words, and its sums over n holders and over n interties
pub same-pair :
    {a b : ℕ} {s t : List ℕ} (f h i : ℕ) → SameRows a b s t → a ≤ f → f + 32 ≤ b → h < 32 → i < 48
    → at t (place (f + h) i) ≡ at s (place (f + h) i)
same-pair f h i rows low high l m = rows.same (f + h) i (omega arith) (omega arith) m

pub same-on-intertie :
    {a b : ℕ} {s t : List ℕ} (f n i : ℕ)
    → SameRows a b s t → a ≤ f → f + 32 ≤ b → n ≤ 32 → i < 48
    → sum_to n (λ h. at t (place (f + h) i)) ≡ sum_to n (λ h. at s (place (f + h) i))
same-on-intertie {a} {b} {s} {t} f n i rows low high l m =
    sum_to-same n (λ h. at t (place (f + h) i)) (λ h. at s (place (f + h) i))
    (λ h k. same-pair f h i rows low high (omega arith) m)

pub same-of-holder :
    {a b : ℕ} {s t : List ℕ} (f n h : ℕ)
    → SameRows a b s t → a ≤ f → f + 32 ≤ b → n ≤ 48 → h < 32
    → sum_to n (λ i. at t (place (f + h) i)) ≡ sum_to n (λ i. at s (place (f + h) i))
same-of-holder {a} {b} {s} {t} f n h rows low high l m =
    sum_to-same n (λ i. at t (place (f + h) i)) (λ i. at s (place (f + h) i))
    (λ i k. same-pair f h i rows low high m (omega arith))

-- the sums of a row's first n words, and of a column's first n words from row f on, after a store among them
pub row-sum-stored :
    (s : List ℕ) (r n c v : ℕ)
    → state_words ≤ length s → r < 333 → n ≤ 48 → c < n
    → sum_to n (λ k. at (set s (place r c) v) (place r k)) + at s (place r c) ≡ sum_to n (λ k. at s (place r k)) + v
row-sum-stored s r n c v long row most l =
    let change =
    sum_to-change n (λ k. at s (place r k)) (λ k. at (set s (place r c) v) (place r k)) c l
    (λ k m other. at-other-column s r c v r k (omega arith) (omega arith) other) in
    omega (arith, change, at_stored s r c v long row (omega arith))

pub column-sum-stored :
    (s : List ℕ) (f n h i v : ℕ)
    → state_words ≤ length s → f + 32 ≤ 333 → n ≤ 32 → h < n → i < 48
    → sum_to n (λ k. at (set s (place (f + h) i) v) (place (f + k) i)) + at s (place (f + h) i) ≡ sum_to n (λ k. at s (place (f + k) i)) + v
column-sum-stored s f n h i v long rows most l column =
    let change =
    sum_to-change n (λ k. at s (place (f + k) i)) (λ k. at (set s (place (f + h) i) v) (place (f + k) i)) h l
    (λ k m other. at-other-row s (f + h) i v (f + k) i column column (omega arith)) in
    omega (arith, change, at_stored s (f + h) i v long (omega arith) column)

-- the same sums where the store was elsewhere in the field
pub column-sum-apart :
    (s : List ℕ) (f n h i v j : ℕ) → i < 48 → j < 48 → j ≢ i
    → sum_to n (λ k. at (set s (place (f + h) i) v) (place (f + k) j)) ≡ sum_to n (λ k. at s (place (f + k) j))
column-sum-apart s f n h i v j l m other =
    sum_to-same n (λ k. at (set s (place (f + h) i) v) (place (f + k) j)) (λ k. at s (place (f + k) j))
    (λ k b. at-other-column s (f + h) i v (f + k) j l m other)

pub row-sum-apart :
    (s : List ℕ) (r c v r' n : ℕ) → c < 48 → n ≤ 48 → r' ≢ r
    → sum_to n (λ k. at (set s (place r c) v) (place r' k)) ≡ sum_to n (λ k. at s (place r' k))
row-sum-apart s r c v r' n l most other =
    sum_to-same n (λ k. at (set s (place r c) v) (place r' k)) (λ k. at s (place r' k))
    (λ k b. at-other-row s r c v r' k l (omega arith) other)
