-- What a chain over a list comes to, in sums and tests over its places.
use Rattle.std.proofs.Common.{◌≡◌, ℕ, zero, suc, ◌+◌, ◌-◌, ◌%◌, ◌^◌, ◌<◌, ◌≤◌, Bool, true, false, ◌&&◌, List, ◌∷◌, [], length, replicate, refl, sym, ap, ◌∙◌, add-one, suc-le-suc, le_of_suc-le-suc, not-suc-le-zero, zero-le, le_refl, le_trans, arith, ext_get_or}
use Rattle.std.specs.List.{fold, list_all}
use lib.Bits.{bit_or}
use mathlib.Core.Bool.{and_assoc}
use lib.ListN.{length-replicate, get_or-replicate}
use Rattle.base.specs.Sums.{sum_to, all_to}
use Rattle.base.specs.Words.{at, tab}
use Rattle.base.proofs.TestLaws.{or-left-most, or-right-most}
use Rattle.base.proofs.VectorLaws.{less-more, less_none, wraps-more, wraps-none}
use Rattle.base.proofs.WordLaws.{length-tab, at-tab}

-- a fold comes to what its turns come to, one after the other
pub fold_turns : {B : Type 0} (f : B → ℕ → B) (turn : ℕ → B) (l : List ℕ) → ((i : ℕ) → i < length l → f (turn i) (at l i) ≡ turn (suc i)) → fold f (turn 0) l ≡ turn (length l)
fold_turns f turn [] next = refl
fold_turns f turn (x ∷ l) next =
    ap (λ b. fold f b l) (next 0 (suc-le-suc zero-le))
    ∙ fold_turns f (λ i. turn (suc i)) l (λ i h. next (suc i) (suc-le-suc h))

-- what is left once the numbers of a list are taken off
pub fold_less : (start : ℕ) (l : List ℕ) → fold (λ left number. left - number) start l ≡ start - sum_to (length l) (at l)
fold_less start l =
    ap (λ b. fold (λ left number. left - number) b l) (less_none start (at l))
    ∙ fold_turns (λ left number. left - number) (λ i. start - sum_to i (at l)) l
    (λ i h. less-more start (start - sum_to i (at l)) i _ (at l) refl refl ∙ ap (λ n. start - sum_to n (at l)) (add-one i))

-- the sum of a list in 64 bits
pub fold_wraps : (l : List ℕ) → fold (λ sum number. (sum + number) % 2 ^ 64) 0 l ≡ sum_to (length l) (at l) % 2 ^ 64
fold_wraps l =
    ap (λ b. fold (λ sum number. (sum + number) % 2 ^ 64) b l) (wraps-none (at l))
    ∙ fold_turns (λ sum number. (sum + number) % 2 ^ 64) (λ i. sum_to i (at l) % 2 ^ 64) l
    (λ i h. wraps-more (sum_to i (at l) % 2 ^ 64) i _ (at l) refl refl ∙ ap (λ n. sum_to n (at l) % 2 ^ 64) (add-one i))

and-true-comm : (b : Bool) → b ≡ (b && true)
and-true-comm true = refl
and-true-comm false = refl

-- a test of every number, the first apart
pub all_to-first : (n : ℕ) (p : ℕ → Bool) → all_to (suc n) p ≡ (p 0 && all_to n (λ c. p (suc c)))
unfolding all_to
all_to-first zero p = and-true-comm (p 0)
all_to-first (suc n) p = ap (λ b. b && p (suc n)) (all_to-first n p) ∙ and_assoc (p 0) _ _

-- a test of every number of a list is one of every place
pub all_places : (p : ℕ → Bool) (l : List ℕ) → list_all p l ≡ all_to (length l) (λ c. p (at l c))
unfolding all_to
all_places p [] = refl
all_places p (x ∷ l) = ap (λ b. p x && b) (all_places p l) ∙ sym (all_to-first (length l) (λ c. p (at (x ∷ l) c)))

-- a list of one number
pub replicate-tab : (n v : ℕ) → replicate n v ≡ tab n (λ c. v)
replicate-tab n v =
    ext_get_or 0 (replicate n v) (tab n (λ c. v)) (length-replicate n v ∙ sym (length-tab n (λ c. v)))
    (λ i l.
    let m : i < n = omega (arith, length-replicate n v) in
    get_or-replicate n i v 0 m ∙ sym (at-tab n (λ c. v) i m))

-- bits put together over a list are no less than those at the start, nor than those of any number
fold-or-start : (f : ℕ → ℕ) (start : ℕ) (l : List ℕ) → start ≤ fold (λ bits number. bit_or bits (f number)) start l
fold-or-start f start [] = le_refl start
fold-or-start f start (x ∷ l) = le_trans (or-left-most start (f x)) (fold-or-start f (bit_or start (f x)) l)

pub fold-or-most : (f : ℕ → ℕ) (start : ℕ) (l : List ℕ) (i : ℕ) → i < length l →
    f (at l i) ≤ fold (λ bits number. bit_or bits (f number)) start l
fold-or-most f start [] i h = absurd (not-suc-le-zero h)
fold-or-most f start (x ∷ l) zero h = le_trans (or-right-most start (f x)) (fold-or-start f (bit_or start (f x)) l)
fold-or-most f start (x ∷ l) (suc i) h = fold-or-most f (bit_or start (f x)) l i (le_of_suc-le-suc h)
