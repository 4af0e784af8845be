-- The sellers of a mask, counted as its ones, and the weight of a holder.
use Prim.Native.Nat.{ℕ, zero, suc, ◌+◌, ◌*◌, ◌/◌, ◌%◌, ◌^◌, ◌≤◌, ◌<◌}
use mathlib.Core.Path.{◌≡◌, refl, sym, ap, ◌∙◌}
use mathlib.Core.List.{List}
use native.Mathlib.Nat.{mod-one, mod-eq_of_lt, mod-lt, div-zero}
use native.Mathlib.Numerals.{one-add}
use native.Mathlib.Omega.{arith}
use lib.Count.{ones, ones_cat}
use lib.Pow.{pow_pos, mod-pow-add}
use lib.ListN.{length}
use borrow.Author.Tests.{ne_eqb, le-leb}
use Rattle.base.specs.Limits.{state_words}
use Rattle.base.specs.Sums.{sum_to}
use Rattle.base.specs.Words.{fill}
use Rattle.state.specs.Layout.{holders, load_share_of, sellers_of}
use Rattle.weights.specs.Weight.{seller_bit, sellers_count, sellers_load, average_load, weight_of, weighed}

bit-one : (bit : ℕ) → bit < 2 → ones bit ≡ bit
unfolding ones
bit-one zero l = refl
bit-one (suc zero) l = refl
bit-one (suc (suc n)) l = absurd (omega arith)

-- the ones of a mask's first n bits
pub ones-of : (n mask : ℕ) → ones (mask % 2 ^ n) ≡ sum_to n (λ j. seller_bit mask j)
unfolding sum_to ones
ones-of zero mask = ap ones (mod-one mask)
ones-of (suc n) mask =
    let bit : ℕ = mask / 2 ^ n % 2 in
    ap (λ k. ones (mask % 2 ^ k)) (sym (one-add n))
    ∙ ap ones (mod-pow-add mask 1 n)
    ∙ ones_cat n bit (mask % 2 ^ n) (mod-lt mask (pow_pos n))
    ∙ ap (λ k. k + ones (mask % 2 ^ n)) (bit-one bit (mod-lt (mask / 2 ^ n) (omega arith)))
    ∙ ap (λ k. bit + k) (ones-of n mask)
    ∙ omega arith

-- the sellers are the ones of the mask, where no bit stands for a holder that isn't there
pub ones-sellers : (s : List ℕ) (h : ℕ) → sellers_of s h < 2 ^ holders s → ones (sellers_of s h) ≡ sellers_count s h
unfolding sellers_count
ones-sellers s h l = ap ones (sym (mod-eq_of_lt l)) ∙ ones-of (holders s) (sellers_of s h)

-- a load share that counts once or not at all is at most itself
pub bit-load : (mask j load : ℕ) → seller_bit mask j * load ≤ load
bit-load mask j load =
    let bit : ℕ = mask / 2 ^ j % 2 in
    let small : bit < 2 = mod-lt (mask / 2 ^ j) (omega arith) in
    by_bit bit load small
  where
    by_bit : (bit load : ℕ) → bit < 2 → bit * load ≤ load
    by_bit zero load l = omega arith
    by_bit (suc zero) load l = omega arith
    by_bit (suc (suc n)) load l = absurd (omega arith)

-- the average, from the sellers that were counted and their load shares: without sellers, and with some
module _ (s : List ℕ) (h n mask held count : ℕ) (a : n ≡ holders s) (b : mask ≡ sellers_of s h) (d : held ≡ mask % 2 ^ n) (e : count ≡ ones held) where
  counted : count ≡ sellers_count s h
  unfolding sellers_count
  counted = e ∙ ap ones d ∙ ones-of n mask ∙ rw (a, b)

  pub no_average : count ≡ 0 → 0 ≡ average_load s h
  unfolding average_load
  no_average none = sym (ap (λ k. sellers_load s h / k) (sym counted ∙ none) ∙ div-zero (sellers_load s h))

  pub some_average : (load : ℕ) → load ≡ sum_to n (λ j. seller_bit mask j * load_share_of s j) → load / count ≡ average_load s h
  unfolding average_load sellers_load
  some_average load f = rw (counted, f, a, b)

-- the weight: the load share, and the average where it is 0
pub own_load : (s : List ℕ) (h load : ℕ) → load ≡ load_share_of s h → (load ≡ 0 → ⊥) → load ≡ weight_of s h
unfolding weight_of
own_load s h load e some = rw (← e, ne_eqb load 0 some)

pub sellers_average : (s : List ℕ) (h load r : ℕ) → load ≡ load_share_of s h → load ≡ 0 → r ≡ average_load s h → r ≡ weight_of s h
unfolding weight_of
sellers_average s h load r e none f = rw (← e, none) f

-- what a state of its words and at most 32 holders gives
pub weighed-is : (s l : List ℕ) → state_words ≤ length s → holders s ≤ 32 → weighed s l ≡ fill (holders s) (weight_of s) l
weighed-is s l long few = rw (le-leb state_words (length s) long, le-leb (holders s) 32 few)
