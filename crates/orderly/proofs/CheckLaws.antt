-- Why the parts of the check, put together, say what "Orderly" says.
use Rattle.std.proofs.Common.{◌≡◌, ℕ, zero, suc, ◌+◌, ◌-◌, ◌*◌, ◌/◌, ◌^◌, ◌<◌, ◌≤◌, Bool, true, false, not, ◌&&◌, eqb, ltb, leb, List, length, sym, refl, ap, ◌∙◌, arith, lt_of_le_ones, ltb-true, lt-ltb, le-ltb, le-leb, leb-true}
use mathlib.Core.Bool.{and_assoc, and_comm, and-true}
use lib.Bits.{bit_or}
use lib.Dec.{leb-zero, leb-suc-zero, eqb-suc-zero}
use lib.Pow.{ones_split, ones_lt, le_ones, high}
use Rattle.base.specs.Choice.{pick}
use Rattle.base.specs.Sums.{sum_to, all_to}
use Rattle.base.specs.declared.refusals.Refusal.TheVariants.{Room, NotOrderly}
use Rattle.base.specs.declared.stages.Stage.{Stage}
use Rattle.base.specs.declared.stages.Stage.TheVariants.{Trading, FirstRequests, SecondRequests, Open}
use Rattle.base.specs.Refused.{number_of as refusal_number}
use Rattle.base.specs.Stage.{number_of}
use Rattle.base.proofs.ChoiceLaws.{and_both, and-false, same_test, and_left, and_right, and-left-comm, four}
use Rattle.base.proofs.SumLaws.{all_to-each, all_to-all, all_to-same, all_to-both, all_to-pairs-both, all_more}
use Rattle.base.specs.Limits.{state_words}
use Rattle.base.proofs.TestLaws.{or-none}
use Rattle.state.specs.Layout.{interties, holders, load_share_of, step5_share_of, step7_total_of, reserved_of, unplaced_of, sellers_of, takings_of, placed_of, locked_of, term_of, pending_of, of_holder, stage_of}
use Rattle.state.specs.Orderly.{orderly, state_refusal, sizes_in_range, stage_in_range, limits_in_range, load_shares_in_range, balanced, locked_within_placed, pending_within_unplaced, kw_in_range, takings_in_range, sellers_are_holders, terms_fit, term_fits, no_requests}
use Rattle.orderly.specs.Workers.Check.{Fit, Sized, fields_in_range, rows_in_order, lock_fits, pair_lock_fits, unlocked, most_pending}

-- locked and terms of every pair together
pub locks_are : (s : List ℕ) → all_to (holders s) (λ h. all_to (interties s) (λ i. pair_lock_fits s h i)) ≡ (locked_within_placed s && terms_fit s)
unfolding locked_within_placed terms_fit
locks_are s =
    all_to-pairs-both (holders s) (interties s)
    (λ h i. leb (locked_of s h i) (placed_of s h i))
    (λ h i. term_fits (locked_of s h i) (term_of s h i))

-- a loop that puts the bits of locked kW and terms together: a turn
pub unlocked_turn :
    (s : List ℕ) (h i bits locked term : ℕ)
    → eqb bits 0 ≡ all_to i (λ j. unlocked s h j) → locked ≡ locked_of s h i → term ≡ term_of s h i
    → eqb (bit_or (bit_or bits locked) term) 0 ≡ all_to (i + 1) (λ j. unlocked s h j)
unlocked_turn s h i bits locked term e l t =
    or-none (bit_or bits locked) term
    ∙ ap (λ (b : Bool). b && leb term 0) (or-none bits locked)
    ∙ and_assoc (eqb bits 0) (leb locked 0) (leb term 0)
    ∙ all_more i (λ j. unlocked s h j) (eqb bits 0) (leb locked 0 && leb term 0) e (cc)

-- a holder without a lock has its locks in order
unlocked-fits : (placed locked term : ℕ) → locked ≤ 0 → term ≤ 0 → lock_fits placed locked term ≡ true
unlocked-fits placed zero zero l t = rw (leb-zero placed) refl
unlocked-fits placed zero (suc t) l h = absurd (omega arith)
unlocked-fits placed (suc k) t l h = absurd (omega arith)

pub no_lock_fits :
    (s : List ℕ) (h : ℕ) {b : Bool} → b ≡ all_to (interties s) (λ i. unlocked s h i) → b ≡ true
    → true ≡ all_to (interties s) (λ i. pair_lock_fits s h i)
no_lock_fits s h e t =
    sym (all_to-all (interties s) (λ i. pair_lock_fits s h i) (λ i l.
    let none : unlocked s h i ≡ true = all_to-each (interties s) (λ j. unlocked s h j) (sym e ∙ t) i l in
    unlocked-fits (placed_of s h i) (locked_of s h i) (term_of s h i)
    (leb-true (locked_of s h i) 0 (and_left (leb (locked_of s h i) 0) (leb (term_of s h i) 0) none))
    (leb-true (term_of s h i) 0 (and_right (leb (locked_of s h i) 0) (leb (term_of s h i) 0) none))))

-- words are all 0 where their sum is
zero-both : (a b : ℕ) → leb (a + b) 0 ≡ (leb a 0 && leb b 0)
zero-both a b =
    same_test (leb (a + b) 0) (leb a 0 && leb b 0)
    (λ (e : leb (a + b) 0 ≡ true). and_both _ _ (le-leb a 0 (omega (arith, leb-true (a + b) 0 e))) (le-leb b 0 (omega (arith, leb-true (a + b) 0 e))))
    (λ (e : leb a 0 && leb b 0 ≡ true). le-leb (a + b) 0 (omega (arith, leb-true a 0 (and_left (leb a 0) (leb b 0) e), leb-true b 0 (and_right (leb a 0) (leb b 0) e))))

zero-sum : (n : ℕ) (f : ℕ → ℕ) → all_to n (λ i. leb (f i) 0) ≡ leb (sum_to n f) 0
unfolding all_to sum_to
zero-sum zero f = sym (leb-zero 0)
zero-sum (suc n) f = ap (λ (b : Bool). b && leb (f n) 0) (zero-sum n f) ∙ sym (zero-both (sum_to n f) (f n))

-- pending that may only be 0, from the words one by one
pub none_pending : (s : List ℕ) (h : ℕ) {most : ℕ} {b : Bool} → most ≡ most_pending s h → most ≡ 0
    → b ≡ all_to (interties s) (λ i. leb (pending_of s h i) 0) → b ≡ leb (of_holder pending_of s h) (most_pending s h)
none_pending s h m z e = e ∙ zero-sum (interties s) (λ i. pending_of s h i) ∙ ap (leb (of_holder pending_of s h)) (sym z ∙ m)

-- nothing is at most 0, and within any bound
zero_test : (kw most : ℕ) → leb kw 0 ≡ (leb kw most && eqb kw 0)
zero_test zero most = sym (rw (leb-zero most))
zero_test (suc k) most = rw (leb-suc-zero k, eqb-suc-zero k) (sym (and-false (leb (suc k) most) false refl))

-- pending within its most
pending-test :
    (n : ℕ) (b : Bool) (kw most : ℕ → ℕ)
    → all_to n (λ h. leb (kw h) (pick b 0 (most h)))
    ≡ (all_to n (λ h. leb (kw h) (most h)) && pick b (all_to n (λ h. eqb (kw h) 0)) true)
pending-test n false kw most = sym (and-true (all_to n (λ h. leb (kw h) (most h))))
pending-test n true kw most =
    all_to-same n (λ h. leb (kw h) 0) (λ h. leb (kw h) (most h) && eqb (kw h) 0) (λ h l. zero_test (kw h) (most h))
    ∙ all_to-both n (λ h. leb (kw h) (most h)) (λ h. eqb (kw h) 0)

pub pending_is : (s : List ℕ) → all_to (holders s) (λ h. leb (of_holder pending_of s h) (most_pending s h)) ≡ pending_within_unplaced s
unfolding pending_within_unplaced
pending_is s = pending-test (holders s) (no_requests s) (λ h. of_holder pending_of s h) (λ h. unplaced_of s h)

-- the largest mask of n bits, by a shift
mask-ones : (n : ℕ) → n ≤ 32 → 4294967295 / 2 ^ (32 - n) ≡ 2 ^ n - 1
mask-ones n h =
    let width : n + (32 - n) ≡ 32 = omega arith in
    let split : 4294967295 ≡ (2 ^ n - 1) * 2 ^ (32 - n) + (2 ^ (32 - n) - 1) = ap (λ (k : ℕ). 2 ^ k - 1) (sym width) ∙ ones_split n (32 - n) in
    ap (λ (x : ℕ). x / 2 ^ (32 - n)) split ∙ high (2 ^ n - 1) (32 - n) (ones_lt (32 - n))

-- a mask at most the largest of n bits is below 2 ^ n
pub mask-test : (n x : ℕ) → n ≤ 32 → leb x (4294967295 / 2 ^ (32 - n)) ≡ ltb x (2 ^ n)
mask-test n x h =
    rw (mask-ones n h)
    (same_test (leb x (2 ^ n - 1)) (ltb x (2 ^ n))
    (λ (e : leb x (2 ^ n - 1) ≡ true). lt-ltb x (2 ^ n) (lt_of_le_ones n (leb-true x (2 ^ n - 1) e)))
    (λ (e : ltb x (2 ^ n) ≡ true). le-leb x (2 ^ n - 1) (le_ones n (ltb-true x (2 ^ n) e))))

pub sellers-are : (s : List ℕ) → holders s ≤ 32 → all_to (holders s) (λ h. leb (sellers_of s h) (4294967295 / 2 ^ (32 - holders s))) ≡ sellers_are_holders s
unfolding sellers_are_holders
sellers-are s h =
    all_to-same (holders s) (λ j. leb (sellers_of s j) (4294967295 / 2 ^ (32 - holders s))) (λ j. ltb (sellers_of s j) (2 ^ holders s))
    (λ j l. mask-test (holders s) (sellers_of s j) h)

-- the fields in the order in which they are tested
pub fields-are :
    (s : List ℕ) (m : ℕ) → m ≡ holders s → m ≤ 32
    → {shares step5 step7 reserved takings sellers : Bool} {unplaced : ℕ}
    → shares ≡ all_to m (λ h. leb (load_share_of s h) 100000000)
    → unplaced ≡ sum_to m (λ h. unplaced_of s h)
    → step5 ≡ all_to m (λ h. leb (step5_share_of s h) 960000000)
    → step7 ≡ all_to m (λ h. leb (step7_total_of s h) 960000000)
    → reserved ≡ all_to m (λ h. leb (reserved_of s h) 960000000)
    → takings ≡ all_to m (λ h. leb (takings_of s h) 2)
    → sellers ≡ all_to m (λ h. leb (sellers_of s h) (4294967295 / 2 ^ (32 - m)))
    → (shares && leb unplaced 960000000 && step5 && step7 && reserved && takings && sellers) ≡ fields_in_range s
unfolding load_shares_in_range kw_in_range takings_in_range
fields-are s m em most {shares} {step5} {step7} {reserved} {takings} {sellers} {unplaced} e2 e3 e4 e5 e6 e7 e8 =
    let mask : all_to m (λ h. leb (sellers_of s h) (4294967295 / 2 ^ (32 - m))) ≡ sellers_are_holders s = rw em (sellers-are s (rw em at most)) in
    rw (e2, e3, e4, e5, e6, e7, e8, mask, em) (simp and_assoc)

is-false : (b : Bool) → not b ≡ true → b ≡ false
is-false true e = sym e
is-false false e = refl

stage-ranged : (stage : Stage) → (leb 1 (number_of stage) && leb (number_of stage) 4) ≡ true
stage-ranged Trading = refl
stage-ranged FirstRequests = refl
stage-ranged SecondRequests = refl
stage-ranged Open = refl

-- a state of 16,000 words whose sizes or stage are out of range
refused : (s : List ℕ) → state_words ≤ length s → (sizes_in_range s && stage_in_range s) ≡ false → refusal_number NotOrderly ≡ state_refusal s
unfolding state_refusal orderly
refused s long e = rw (le-ltb (length s) state_words long, e) refl

pub short : (s : List ℕ) → length s < state_words → refusal_number Room ≡ state_refusal s
unfolding state_refusal
short s l = rw (lt-ltb (length s) state_words l) refl

-- the sizes and the stage that were read of a state of 16,000 words: they are in range, or it is refused
module _ (s : List ℕ) (I H n : ℕ) (b : Bool) (long : state_words ≤ length s) (i : I ≡ interties s) (h : H ≡ holders s) (e : n ≡ stage_of s)
    (tested : b ≡ (leb 1 I && leb I 48 && leb 1 H && leb H 32)) where
  sizes-are : b ≡ sizes_in_range s
  unfolding sizes_in_range
  sizes-are = cc

  pub no_sizes : b ≡ false → refusal_number NotOrderly ≡ state_refusal s
  no_sizes t = refused s long (rw (← sizes-are, t) refl)

  pub no_stage : not (leb 1 n && leb n 4) ≡ true → refusal_number NotOrderly ≡ state_refusal s
  unfolding stage_in_range
  no_stage t = refused s long (and-false (sizes_in_range s) (stage_in_range s) (rw (← e) (is-false (leb 1 n && leb n 4) t)))

  module _ (stage : Stage) (t : b ≡ true) (is : number_of stage ≡ n) where
    pub fit : Fit s
    unfolding stage_in_range
    fit = record {
      long = long;
      ranged = and_both (sizes_in_range s) (stage_in_range s) (sym sizes-are ∙ t) (rw (← e, ← is) (stage-ranged stage));
    }

    pub sized : Sized s I H stage
    sized =
        let sizes = four (leb 1 I) (leb I 48) (leb 1 H) (leb H 32) (sym tested ∙ t) in
        record {
          long = long;
          interties-are = i;
          interties-most = leb-true I 48 sizes.1;
          holders-are = h;
          holders-least = leb-true 1 H sizes.2;
          holders-most = leb-true H 32 sizes.3;
          stage-is = is ∙ e;
        }

pub ruleset told = (short, no_sizes, no_stage, fit, sized)

-- the parts in the order in which they are tested
regroup :
    (sizes limits shares balance locked pending kw takings sellers terms : Bool)
    → sizes ≡ true → (shares && kw && takings && sellers && (limits && balance) && (locked && terms) && pending)
    ≡ (sizes && limits && shares && balance && locked && pending && kw && takings && sellers && terms)
regroup z l o b k p w t s m e = rw e (simp (and_assoc, and_comm, and-left-comm))

orderly-is : (s : List ℕ) → (sizes_in_range s && stage_in_range s) ≡ true → rows_in_order s ≡ orderly s
unfolding orderly
orderly-is s e =
    regroup (sizes_in_range s && stage_in_range s) (limits_in_range s) (load_shares_in_range s) (balanced s) (locked_within_placed s)
    (pending_within_unplaced s) (kw_in_range s) (takings_in_range s) (sellers_are_holders s) (terms_fit s) e

-- a state whose rows were tested
module _ (s rows : List ℕ) (b : Bool) (fit : (rows ≡ s) × Fit s) (tested : b ≡ rows_in_order rows) where
  tested-orderly : b ≡ orderly s
  tested-orderly = tested ∙ ap rows_in_order fit.0 ∙ orderly-is s fit.1.ranged

  pub in_order : b ≡ true → 0 ≡ state_refusal s
  unfolding state_refusal
  in_order t = rw (le-ltb (length s) state_words fit.1.long, ← tested-orderly, t) refl

  pub not_in_order : b ≡ false → refusal_number NotOrderly ≡ state_refusal s
  unfolding state_refusal
  not_in_order t = rw (le-ltb (length s) state_words fit.1.long, ← tested-orderly, t) refl

pub ruleset checked = (in_order, not_in_order)
