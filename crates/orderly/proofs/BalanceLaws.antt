-- Why sums in 32 bits tell whether limits in range are met: a pair's kW are below 2 ^ 25 there, and 32 such pairs add up to less than 2 ^ 32.
use Rattle.std.proofs.Common.{◌≡◌, ℕ, zero, suc, ◌+◌, ◌*◌, ◌%◌, ◌^◌, ◌<◌, ◌≤◌, Bool, true, ◌&&◌, eqb, ltb, leb, List, length, sym, refl, ap, ◌∙◌, zero-le, add-zero, add-suc, add_assoc, mod-eq_of_lt, arith, ltb-true, lt-ltb}
use mathlib.Core.Bool.{and_assoc, and-true}
use native.Mathlib.Nat.{mod-add-mod, add-mod-mod}
use lib.Bits.{bit_or, or_lt, or_add_and, and_le_l, and_le_r}
use Rattle.base.specs.Sums.{sum_to, all_to}
use Rattle.base.specs.Words.{at, fill}
use Rattle.base.proofs.ChoiceLaws.{and_both, same_test, and_left, and_right}
use Rattle.base.proofs.SumLaws.{sum_to-add, sum_to-bound, sum_to-term, all_to-same, all_to-all, sum_to-more, each-le, each-eq, each-pair, all-pairs, all_to-both, all_more}
use Rattle.base.proofs.WordLaws.{at_fill, length-fill}
use Rattle.state.specs.Layout.{interties, holders, limit_of, existing_of, pre_ra_of, new_use_of, placed_of, taken_of}
use Rattle.state.specs.Orderly.{limits_in_range, balanced, intertie_kw}
use Rattle.orderly.specs.Workers.Check.{pair_kw, pair_fits, Cleared, Summed, Added, limit_met}

-- the bits of two words together are below 2 ^ k where and_both words are
pub or-below : (k a b : ℕ) → ltb (bit_or a b) (2 ^ k) ≡ (ltb a (2 ^ k) && ltb b (2 ^ k))
or-below k a b =
    let sum = or_add_and a b in
    same_test (ltb (bit_or a b) (2 ^ k)) (ltb a (2 ^ k) && ltb b (2 ^ k))
    (λ (e : ltb (bit_or a b) (2 ^ k) ≡ true). and_both (ltb a (2 ^ k)) (ltb b (2 ^ k))
    (lt-ltb a (2 ^ k) (omega (arith, sum, and_le_r a b, ltb-true (bit_or a b) (2 ^ k) e)))
    (lt-ltb b (2 ^ k) (omega (arith, sum, and_le_l a b, ltb-true (bit_or a b) (2 ^ k) e))))
    (λ (e : (ltb a (2 ^ k) && ltb b (2 ^ k)) ≡ true). lt-ltb (bit_or a b) (2 ^ k)
    (or_lt k a b (ltb-true a (2 ^ k) (and_left (ltb a (2 ^ k)) (ltb b (2 ^ k)) e)) (ltb-true b (2 ^ k) (and_right (ltb a (2 ^ k)) (ltb b (2 ^ k)) e))))

-- words and their sum in 32 bits are below 2 ^ 25 where the sum is
small-words :
    (e p n l t kw : ℕ) → kw ≡ (e + p + n + l + t) % 2 ^ 32
    → bit_or (bit_or (bit_or (bit_or (bit_or e p) n) l) t) kw < 2 ^ 25 → e + p + n + l + t < 2 ^ 25
small-words e p n l t kw w small =
    let a = or_add_and e p in
    let b = or_add_and (bit_or e p) n in
    let c = or_add_and (bit_or (bit_or e p) n) l in
    let d = or_add_and (bit_or (bit_or (bit_or e p) n) l) t in
    let f = or_add_and (bit_or (bit_or (bit_or (bit_or e p) n) l) t) kw in
    let words : e + p + n + l + t < 2 ^ 32 = omega (
      arith,
      small,
      a,
      b,
      c,
      d,
      f,
      and_le_l e p,
      and_le_r e p,
      and_le_l (bit_or e p) n,
      and_le_r (bit_or e p) n,
      and_le_l (bit_or (bit_or e p) n) l,
      and_le_r (bit_or (bit_or e p) n) l,
      and_le_l (bit_or (bit_or (bit_or e p) n) l) t,
      and_le_r (bit_or (bit_or (bit_or e p) n) l) t,
      and_le_r (bit_or (bit_or (bit_or (bit_or e p) n) l) t) kw,
    ) in
    omega (arith, small, f, and_le_l (bit_or (bit_or (bit_or (bit_or e p) n) l) t) kw, w ∙ mod-eq_of_lt words)

small-sum :
    (e p n l t kw : ℕ) → kw ≡ (e + p + n + l + t) % 2 ^ 32
    → e + p + n + l + t < 2 ^ 25 → bit_or (bit_or (bit_or (bit_or (bit_or e p) n) l) t) kw < 2 ^ 25
small-sum e p n l t kw w small =
    let wide : e + p + n + l + t < 2 ^ 32 = omega arith in
    let kw-small : kw < 2 ^ 25 = omega (arith, small, w ∙ mod-eq_of_lt wide) in
    or_lt 25 _ kw (or_lt 25 _ t (or_lt 25 _ l (or_lt 25 _ n (or_lt 25 e p (omega arith) (omega arith)) (omega arith)) (omega arith)) (omega arith)) kw-small

-- the bits of a pair
bits-tell :
    (s : List ℕ) (h i : ℕ) {e p n l t kw : ℕ}
    → e ≡ existing_of s h i → p ≡ pre_ra_of s h i → n ≡ new_use_of s h i → l ≡ placed_of s h i → t ≡ taken_of s h i
    → kw ≡ pair_kw s h i % 2 ^ 32
    → ltb (bit_or (bit_or (bit_or (bit_or (bit_or e p) n) l) t) kw) (2 ^ 25) ≡ pair_fits s h i
bits-tell s h i {e} {p} {n} {l} {t} {kw} a b c d f w =
    let bits = bit_or (bit_or (bit_or (bit_or (bit_or e p) n) l) t) kw in
    let sum : e + p + n + l + t ≡ pair_kw s h i = cc in
    let wraps : kw ≡ (e + p + n + l + t) % 2 ^ 32 = w ∙ ap (λ (x : ℕ). x % 2 ^ 32) (sym sum) in
    same_test (ltb bits (2 ^ 25)) (ltb (e + p + n + l + t) (2 ^ 25))
    (λ (y : ltb bits (2 ^ 25) ≡ true). lt-ltb (e + p + n + l + t) (2 ^ 25) (small-words e p n l t kw wraps (ltb-true bits (2 ^ 25) y)))
    (λ (y : ltb (e + p + n + l + t) (2 ^ 25) ≡ true). lt-ltb bits (2 ^ 25) (small-sum e p n l t kw wraps (ltb-true (e + p + n + l + t) (2 ^ 25) y)))
    ∙ ap (λ (x : ℕ). ltb x (2 ^ 25)) sum

-- a pair's words added in 32 bits, and their bits
module _ (s : List ℕ) (h i : ℕ) {e p n l t : ℕ} (a : e ≡ existing_of s h i) (b : p ≡ pre_ra_of s h i) (c : n ≡ new_use_of s h i)
    (d : l ≡ placed_of s h i) (f : t ≡ taken_of s h i) where
  pub pair_kw_wraps : ((((e + p) % 2 ^ 32 + n) % 2 ^ 32 + l) % 2 ^ 32 + t) % 2 ^ 32 ≡ pair_kw s h i % 2 ^ 32
  pair_kw_wraps = omega (arith, a, b, c, d, f)

  pub pair_bits_tell :
      ltb (bit_or (bit_or (bit_or (bit_or (bit_or e p) n) l) t) (((((e + p) % 2 ^ 32 + n) % 2 ^ 32 + l) % 2 ^ 32 + t) % 2 ^ 32)) (2 ^ 25)
      ≡ pair_fits s h i
  pair_bits_tell = bits-tell s h i a b c d f pair_kw_wraps

-- a loop that puts bits together: a turn
pub bits_turn : (n : ℕ) (p : ℕ → Bool) (bits b : ℕ) → ltb bits (2 ^ 25) ≡ all_to n p → ltb b (2 ^ 25) ≡ p n → ltb (bit_or bits b) (2 ^ 25) ≡ all_to (n + 1) p
bits_turn n p bits b e t = or-below 25 bits b ∙ all_more n p (ltb bits (2 ^ 25)) (ltb b (2 ^ 25)) e t

-- a loop that adds kW in 32 bits: a turn
pub kw_turn : (n : ℕ) (f : ℕ → ℕ) (kw x : ℕ) → kw ≡ sum_to n f % 2 ^ 32 → x ≡ f n % 2 ^ 32 → (kw + x) % 2 ^ 32 ≡ sum_to (n + 1) f % 2 ^ 32
kw_turn n f kw x e t =
    ap (λ (k : ℕ). (k + x) % 2 ^ 32) e
    ∙ mod-add-mod (sum_to n f) (2 ^ 32) x
    ∙ ap (λ (k : ℕ). (sum_to n f + k) % 2 ^ 32) t
    ∙ add-mod-mod (sum_to n f) (f n) (2 ^ 32)
    ∙ ap (λ (k : ℕ). k % 2 ^ 32) (sym (sum_to-more n f))

pub ruleset turns = (bits_turn, kw_turn)

-- kW added to the sums of n interties, in 32 bits
sums-turn :
    (sums next : List ℕ) (n : ℕ) (kw before : ℕ → ℕ)
    → next ≡ fill n (λ i. (at sums i + kw i % 2 ^ 32) % 2 ^ 32) sums
    → n ≤ length sums
    → ((i : ℕ) → i < n → at sums i ≡ before i % 2 ^ 32)
    → (i : ℕ) → i < n → at next i ≡ (before i + kw i) % 2 ^ 32
sums-turn sums next n kw before e long held i l =
    ap (λ (k : List ℕ). at k i) e
    ∙ at_fill n (λ j. (at sums j + kw j % 2 ^ 32) % 2 ^ 32) sums i l long
    ∙ add-mod-mod (at sums i) (kw i) (2 ^ 32)
    ∙ ap (λ (x : ℕ). (x + kw i) % 2 ^ 32) (held i l)
    ∙ mod-add-mod (before i) (2 ^ 32) (kw i)

-- the first m numbers, and n after them
sum_to-split : (m n : ℕ) (f : ℕ → ℕ) → sum_to m f + sum_to n (λ k. f (m + k)) ≡ sum_to (m + n) f
unfolding sum_to
sum_to-split m zero f = add-zero (sum_to m f) ∙ ap (λ (k : ℕ). sum_to k f) (sym (add-zero m))
sum_to-split m (suc n) f = rw add-suc (sym (add_assoc _ _ _) ∙ ap (λ (k : ℕ). k + f (m + n)) (sum_to-split m n f))

all_to-split : (m n : ℕ) (p : ℕ → Bool) → (all_to m p && all_to n (λ k. p (m + k))) ≡ all_to (m + n) p
unfolding all_to
all_to-split m zero p = rw add-zero (and-true (all_to m p))
all_to-split m (suc n) p = rw add-suc (sym (and_assoc (all_to m p) _ _) ∙ ap (λ (b : Bool). b && p (m + n)) (all_to-split m n p))

-- the sums of no holder, and of some more
pub added_none : (s sums : List ℕ) → Cleared (interties s) sums → Added s 0 0 sums
unfolding all_to sum_to
added_none s sums c =
    record {
      few = c.few;
      places = c.places;
      summed = record { most = zero-le; fit = sym (all_to-all (interties s) (λ i. true) (λ i l. refl)); held = c.zeros };
    }

pub added_more :
    (s sums next : List ℕ) (m n bits b : ℕ) → m + n ≤ 32 → Added s m bits sums
    → ltb b (2 ^ 25) ≡ all_to (interties s) (λ i. all_to n (λ k. pair_fits s (m + k) i))
    → next ≡ fill (interties s) (λ i. (at sums i + sum_to n (λ k. pair_kw s (m + k) i) % 2 ^ 32) % 2 ^ 32) sums
    → Added s (m + n) (bit_or bits b) next
added_more s sums next m n bits b most added fits e =
    record {
      few = added.few;
      places = ap (λ (k : List ℕ). length k) e ∙ length-fill (interties s) _ sums ∙ added.places;
      summed = record {
        most = most;
        fit =
            or-below 25 bits b
            ∙ ap (λ (x : Bool). x && ltb b (2 ^ 25)) added.summed.fit
            ∙ ap (λ (x : Bool). all_to (interties s) (λ i. all_to m (λ h. pair_fits s h i)) && x) fits
            ∙ sym (all_to-both (interties s) (λ i. all_to m (λ h. pair_fits s h i)) (λ i. all_to n (λ k. pair_fits s (m + k) i)))
            ∙ all_to-same (interties s) _ _ (λ i l. all_to-split m n (λ h. pair_fits s h i));
        held =
            λ i l.
            sums-turn sums next (interties s) (λ j. sum_to n (λ k. pair_kw s (m + k) j)) (λ j. sum_to m (λ h. pair_kw s h j)) e
            (omega (arith, added.places, added.few)) added.summed.held i l
            ∙ ap (λ (x : ℕ). x % 2 ^ 32) (sum_to-split m n (λ h. pair_kw s h i));
      };
    }

pub added-same : (s sums : List ℕ) (m n bits : ℕ) → m ≡ n → Added s m bits sums → Added s n bits sums
added-same s sums m n bits e added = rw e at added

-- the sum of pairs that fit passes no 32 bits
sum_fits : (s : List ℕ) (m i : ℕ) → m ≤ 32 → ((h : ℕ) → h < m → pair_kw s h i < 2 ^ 25) → sum_to m (λ h. pair_kw s h i) % 2 ^ 32 ≡ sum_to m (λ h. pair_kw s h i)
sum_fits s m i most each =
    let bound : sum_to m (λ h. pair_kw s h i) ≤ m * 33554431 = sum_to-bound m 33554431 (λ h. pair_kw s h i) (λ h l. omega (arith, each h l)) in
    mod-eq_of_lt (omega (arith, bound))

-- the kW of the pairs on an intertie, field by field
pub pairs-on :
    (s : List ℕ) (n i : ℕ)
    → sum_to n (λ h. pair_kw s h i)
    ≡ sum_to n (λ h. existing_of s h i) + sum_to n (λ h. pre_ra_of s h i) + sum_to n (λ h. new_use_of s h i) + sum_to n (λ h. placed_of s h i) + sum_to n (λ h. taken_of s h i)
pairs-on s n i =
    cc (
      sum_to-add n (λ h. existing_of s h i) (λ h. pre_ra_of s h i),
      sum_to-add n (λ h. existing_of s h i + pre_ra_of s h i) (λ h. new_use_of s h i),
      sum_to-add n (λ h. existing_of s h i + pre_ra_of s h i + new_use_of s h i) (λ h. placed_of s h i),
      sum_to-add n (λ h. existing_of s h i + pre_ra_of s h i + new_use_of s h i + placed_of s h i) (λ h. taken_of s h i),
    )

-- limits met by the sums of the pairs
pub balanced-is :
    (s sums : List ℕ)
    → ((i : ℕ) → i < interties s → at sums i ≡ sum_to (holders s) (λ h. pair_kw s h i))
    → all_to (interties s) (λ i. limit_met s i (at sums i)) ≡ balanced s
unfolding balanced
balanced-is s sums h =
    all_to-same (interties s)
    (λ i. limit_met s i (at sums i))
    (λ i. eqb (limit_of s i) (intertie_kw s i))
    (λ i l. ap (λ (x : ℕ). eqb (limit_of s i) x) (omega (arith, h i l, pairs-on s (holders s) i)))

-- under limits that are in range and met, the kW of every pair fit
met-fits : (s : List ℕ) → limits_in_range s ≡ true → balanced s ≡ true → (i h : ℕ) → i < interties s → h < holders s → pair_fits s h i ≡ true
unfolding limits_in_range balanced
met-fits s range met i h l k =
    lt-ltb (pair_kw s h i) (2 ^ 25)
    (omega (
      arith,
      sum_to-term (holders s) (λ j. pair_kw s j i) h k,
      pairs-on s (holders s) i,
      each-eq (interties s) (λ j. limit_of s j) (λ j. intertie_kw s j) met i l,
      each-le (interties s) (λ j. limit_of s j) (λ j. 20000000) range i l,
    ))

-- the sums of pairs that fit tell whether the limits are met
fits-tell :
    (s sums : List ℕ) → holders s ≤ 32
    → ((i : ℕ) → i < interties s → at sums i ≡ sum_to (holders s) (λ h. pair_kw s h i) % 2 ^ 32)
    → ((i h : ℕ) → i < interties s → h < holders s → pair_fits s h i ≡ true)
    → all_to (interties s) (λ i. limit_met s i (at sums i)) ≡ balanced s
fits-tell s sums most held fits =
    balanced-is s sums (λ i l. held i l ∙ sum_fits s (holders s) i most (λ h k. ltb-true (pair_kw s h i) (2 ^ 25) (fits i h l k)))

-- limits in range and met, from the three tests of them
pub limits-balance-is :
    (s sums : List ℕ) (n bits : ℕ) → n ≡ interties s → {range met : Bool}
    → range ≡ all_to n (λ i. leb (limit_of s i) 20000000)
    → Summed s (holders s) bits sums
    → met ≡ all_to (interties s) (λ i. limit_met s i (at sums i))
    → (range && ltb bits (2 ^ 25) && met) ≡ (limits_in_range s && balanced s)
unfolding limits_in_range
limits-balance-is s sums n bits count {range} {met} tested summed c =
    let small : Bool = ltb bits (2 ^ 25) in
    let b = summed.fit in
    let held = summed.held in
    let a : range ≡ all_to (interties s) (λ i. leb (limit_of s i) 20000000) = rw count at tested in
    same_test (range && small && met) (limits_in_range s && balanced s)
    (λ (e : (range && small && met) ≡ true).
    let two : (range && small) ≡ true = and_left (range && small) met e in
    let fits = each-pair (interties s) (holders s) (λ i h. pair_fits s h i) (sym b ∙ and_right range small two) in
    and_both (limits_in_range s) (balanced s) (sym a ∙ and_left range small two)
    (sym (fits-tell s sums summed.most held fits) ∙ sym c ∙ and_right (range && small) met e))
    (λ (e : (limits_in_range s && balanced s) ≡ true).
    let in-range = and_left (limits_in_range s) (balanced s) e in
    let Met-all = and_right (limits_in_range s) (balanced s) e in
    let fits = met-fits s in-range Met-all in
    and_both (range && small) met
    (and_both range small (a ∙ in-range) (b ∙ all-pairs (interties s) (holders s) (λ i h. pair_fits s h i) fits))
    (c ∙ fits-tell s sums summed.most held fits ∙ Met-all))
