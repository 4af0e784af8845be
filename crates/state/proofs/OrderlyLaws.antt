-- "Orderly" as plain facts. What stands above the check uses these and no test.
use Prim.Native.Nat.{ℕ, zero, suc, ◌^◌, ◌≤◌, ◌<◌}
use mathlib.Core.Path.{◌≡◌, refl}
use mathlib.Core.Bool.{Bool, true, false, ◌&&◌, ◌||◌}
use mathlib.Core.List.{List}
use mathlib.Core.Logic.{◌⊎◌, inl, inr, ⊎_elim}
use native.Mathlib.Omega.{arith}
use lib.Dec.{leb, ltb, eqb}
use lib.ListN.{length}
use borrow.Author.Tests.{le-leb, lt-ltb, eq-eqb, le-ltb, leb-true, ltb-false, eqb-true}
use Rattle.base.specs.Choice.{pick}
use Rattle.base.specs.Sums.{sum_to, all_to}
use Rattle.base.proofs.SumLaws.{sum_to-term, sum_to-none, each-le, all-le, each-eq, all-eq, each-pair, all-pairs}
use Rattle.base.proofs.ChoiceLaws.{and_both, and_left, and_right, four, all-four}
use Rattle.base.specs.Limits.{state_words}
use Rattle.state.specs.Layout.{interties, holders, limit_of, load_share_of, step5_share_of, step7_total_of, reserved_of, stage_of, unassigned_of, unplaced_of, sellers_of, takings_of, placed_of, taken_of, locked_of, term_of, pending_of, of_holder}
use Rattle.state.specs.Orderly.{orderly, sizes_in_range, stage_in_range, limits_in_range, load_shares_in_range, balanced, locked_within_placed, pending_within_unplaced, kw_in_range, takings_in_range, sellers_are_holders, terms_fit, term_fits, intertie_kw, no_requests, state_refusal}

pub record Orderly (s : List ℕ) : Type 0 where
  -- sizes and stage in range
  pub interties-least : 1 ≤ interties s
  pub interties-most : interties s ≤ 48
  pub holders-least : 1 ≤ holders s
  pub holders-most : holders s ≤ 32
  pub stage-least : 1 ≤ stage_of s
  pub stage-most : stage_of s ≤ 4
  -- limits and load shares within the sheet's ranges
  pub limit-most : (i : ℕ) → i < interties s → limit_of s i ≤ 20000000
  pub load-share-most : (h : ℕ) → h < holders s → load_share_of s h ≤ 100000000
  -- on each intertie
  pub balance : (i : ℕ) → i < interties s → limit_of s i ≡ intertie_kw s i
  -- locked at most placed
  pub locked-most : (h i : ℕ) → h < holders s → i < interties s → locked_of s h i ≤ placed_of s h i
  -- each holder's pending at most its unplaced, and 0 in stages 1 and 4
  pub pending-most : (h : ℕ) → h < holders s → of_holder pending_of s h ≤ unplaced_of s h
  pub no-pending : (stage_of s ≡ 1) ⊎ (stage_of s ≡ 4) → (h : ℕ) → h < holders s → of_holder pending_of s h ≡ 0
  -- unplaced summed over holders, and each Step 5 share, Step 7 total and reserved
  pub unplaced-sum-most : sum_to (holders s) (λ h. unplaced_of s h) ≤ 960000000
  pub step5-share-most : (h : ℕ) → h < holders s → step5_share_of s h ≤ 960000000
  pub step7-total-most : (h : ℕ) → h < holders s → step7_total_of s h ≤ 960000000
  pub reserved-most : (h : ℕ) → h < holders s → reserved_of s h ≤ 960000000
  -- takings at most 2
  pub takings-most : (h : ℕ) → h < holders s → takings_of s h ≤ 2
  -- sellers are holders below H
  pub sellers-below : (h : ℕ) → h < holders s → sellers_of s h < 2 ^ holders s
  -- a lock term is 1 to 30 where locked is above 0, else 0
  pub term-range : (h i : ℕ) → h < holders s → i < interties s → 0 < locked_of s h i → (1 ≤ term_of s h i) × (term_of s h i ≤ 30)
  pub no-term : (h i : ℕ) → h < holders s → i < interties s → locked_of s h i ≡ 0 → term_of s h i ≡ 0

-- a term that fits, and the two facts it says
term_fits-parts : (locked term : ℕ) → term_fits locked term ≡ true → (0 < locked → (1 ≤ term) × (term ≤ 30)) × (locked ≡ 0 → term ≡ 0)
term_fits-parts zero term e = (λ l. omega arith, λ z. eqb-true term 0 e)
term_fits-parts (suc k) term e =
    let range : (leb 1 term && leb term 30) ≡ true = rw (lt-ltb 0 (suc k) (omega arith)) at e in (
      λ l. (leb-true 1 term (and_left (leb 1 term) (leb term 30) range), leb-true term 30 (and_right (leb 1 term) (leb term 30) range)),
      λ z. omega arith,
    )

fits-term : (locked term : ℕ) → (0 < locked → (1 ≤ term) × (term ≤ 30)) → (locked ≡ 0 → term ≡ 0) → term_fits locked term ≡ true
fits-term zero term range none = eq-eqb term 0 (none refl)
fits-term (suc k) term range none =
    rw (lt-ltb 0 (suc k) (omega arith))
    (and_both (leb 1 term) (leb term 30) (le-leb 1 term (range (omega arith)).0) (le-leb term 30 (range (omega arith)).1))

terms-facts :
    (s : List ℕ) → terms_fit s ≡ true → (h i : ℕ) → h < holders s → i < interties s
    → (0 < locked_of s h i → (1 ≤ term_of s h i) × (term_of s h i ≤ 30)) × (locked_of s h i ≡ 0 → term_of s h i ≡ 0)
unfolding terms_fit
terms-facts s e h i k l =
    term_fits-parts (locked_of s h i) (term_of s h i)
    (each-pair (holders s) (interties s) (λ h i. term_fits (locked_of s h i) (term_of s h i)) e h i k l)

either : (a b : Bool) → (a || b) ≡ true → (a ≡ true) ⊎ (b ≡ true)
either true b e = inl refl
either false b e = inr e

-- the stages without requests
closed-test : (stage : ℕ) → (stage ≡ 1) ⊎ (stage ≡ 4) → (eqb stage 1 || eqb stage 4) ≡ true
closed-test stage = ⊎_elim (λ (e : stage ≡ 1). rw e) (λ (e : stage ≡ 4). rw e)

test-closed : (stage : ℕ) → (eqb stage 1 || eqb stage 4) ≡ true → (stage ≡ 1) ⊎ (stage ≡ 4)
test-closed stage e =
    ⊎_elim (λ (f : eqb stage 1 ≡ true). inl (eqb-true stage 1 f)) (λ (f : eqb stage 4 ≡ true). inr (eqb-true stage 4 f))
    (either (eqb stage 1) (eqb stage 4) e)

-- a test that is asked only where another holds
where-holds : (b a : Bool) → pick b a true ≡ true → b ≡ true → a ≡ true
where-holds true a e h = e
where-holds false true e h = refl
where-holds false false e h = h

holds-where : (b a : Bool) → (b ≡ true → a ≡ true) → pick b a true ≡ true
holds-where true a f = f refl
holds-where false a f = refl

pub orderly-facts : (s : List ℕ) → orderly s ≡ true → Orderly s
unfolding orderly sizes_in_range stage_in_range limits_in_range load_shares_in_range balanced locked_within_placed pending_within_unplaced kw_in_range takings_in_range sellers_are_holders terms_fit
orderly-facts s e =
    let n = interties s in
    let m = holders s in
    let late = four _ (takings_in_range s) (sellers_are_holders s) (terms_fit s) e in
    let middle = four _ (locked_within_placed s) (pending_within_unplaced s) (kw_in_range s) late.0 in
    let early = four _ (limits_in_range s) (load_shares_in_range s) (balanced s) middle.0 in
    let sizes = four (leb 1 n) (leb n 48) (leb 1 m) (leb m 32) (and_left (sizes_in_range s) (stage_in_range s) early.0) in
    let stage = and_right (sizes_in_range s) (stage_in_range s) early.0 in
    let within = all_to m (λ h. leb (of_holder pending_of s h) (unplaced_of s h)) in
    let none = all_to m (λ h. eqb (of_holder pending_of s h) 0) in
    let kw = four (leb (sum_to m (λ h. unplaced_of s h)) 960000000)
    (all_to m (λ h. leb (step5_share_of s h) 960000000))
    (all_to m (λ h. leb (step7_total_of s h) 960000000))
    (all_to m (λ h. leb (reserved_of s h) 960000000))
    middle.3 in
    record {
      interties-least = leb-true 1 n sizes.0;
      interties-most = leb-true n 48 sizes.1;
      holders-least = leb-true 1 m sizes.2;
      holders-most = leb-true m 32 sizes.3;
      stage-least = leb-true 1 (stage_of s) (and_left (leb 1 (stage_of s)) (leb (stage_of s) 4) stage);
      stage-most = leb-true (stage_of s) 4 (and_right (leb 1 (stage_of s)) (leb (stage_of s) 4) stage);
      limit-most = each-le n (λ i. limit_of s i) (λ i. 20000000) early.1;
      load-share-most = each-le m (λ h. load_share_of s h) (λ h. 100000000) early.2;
      balance = each-eq n (λ i. limit_of s i) (λ i. intertie_kw s i) early.3;
      locked-most =
          λ h i k l.
          leb-true (locked_of s h i) (placed_of s h i)
          (each-pair m n (λ h i. leb (locked_of s h i) (placed_of s h i)) middle.1 h i k l);
      pending-most =
          each-le m (λ h. of_holder pending_of s h) (λ h. unplaced_of s h)
          (and_left within (pick (no_requests s) none true) middle.2);
      no-pending =
          λ c.
          each-eq m (λ h. of_holder pending_of s h) (λ h. 0)
          (where-holds (no_requests s) none (and_right within (pick (no_requests s) none true) middle.2) (closed-test (stage_of s) c));
      unplaced-sum-most = leb-true (sum_to m (λ h. unplaced_of s h)) 960000000 kw.0;
      step5-share-most = each-le m (λ h. step5_share_of s h) (λ h. 960000000) kw.1;
      step7-total-most = each-le m (λ h. step7_total_of s h) (λ h. 960000000) kw.2;
      reserved-most = each-le m (λ h. reserved_of s h) (λ h. 960000000) kw.3;
      takings-most = each-le m (λ h. takings_of s h) (λ h. 2) late.1;
      sellers-below = each-le m (λ h. suc (sellers_of s h)) (λ h. 2 ^ holders s) late.2;
      term-range = λ h i k l. (terms-facts s late.3 h i k l).0;
      no-term = λ h i k l. (terms-facts s late.3 h i k l).1;
    }

pub facts-orderly : {s : List ℕ} → Orderly s → orderly s ≡ true
unfolding orderly sizes_in_range stage_in_range limits_in_range load_shares_in_range balanced locked_within_placed pending_within_unplaced kw_in_range takings_in_range sellers_are_holders terms_fit
facts-orderly {s} o =
    let n = interties s in
    let m = holders s in
    let sizes : sizes_in_range s ≡ true =
    all-four (leb 1 n) (leb n 48) (leb 1 m) (leb m 32)
    (le-leb 1 n o.interties-least)
    (le-leb n 48 o.interties-most)
    (le-leb 1 m o.holders-least)
    (le-leb m 32 o.holders-most) in
    let stage : stage_in_range s ≡ true =
    and_both (leb 1 (stage_of s)) (leb (stage_of s) 4)
    (le-leb 1 (stage_of s) o.stage-least)
    (le-leb (stage_of s) 4 o.stage-most) in
    let limits : limits_in_range s ≡ true = all-le n (λ i. limit_of s i) (λ i. 20000000) o.limit-most in
    let shares : load_shares_in_range s ≡ true = all-le m (λ h. load_share_of s h) (λ h. 100000000) o.load-share-most in
    let balance : balanced s ≡ true = all-eq n (λ i. limit_of s i) (λ i. intertie_kw s i) o.balance in
    let locked : locked_within_placed s ≡ true =
    all-pairs m n (λ h i. leb (locked_of s h i) (placed_of s h i))
    (λ h i k l. le-leb (locked_of s h i) (placed_of s h i) (o.locked-most h i k l)) in
    let none = all_to m (λ h. eqb (of_holder pending_of s h) 0) in
    let pending : pending_within_unplaced s ≡ true =
    and_both (all_to m (λ h. leb (of_holder pending_of s h) (unplaced_of s h))) (pick (no_requests s) none true)
    (all-le m (λ h. of_holder pending_of s h) (λ h. unplaced_of s h) o.pending-most)
    (holds-where (no_requests s) none
    (λ c. all-eq m (λ h. of_holder pending_of s h) (λ h. 0) (o.no-pending (test-closed (stage_of s) c)))) in
    let kw : kw_in_range s ≡ true =
    all-four (leb (sum_to m (λ h. unplaced_of s h)) 960000000)
    (all_to m (λ h. leb (step5_share_of s h) 960000000))
    (all_to m (λ h. leb (step7_total_of s h) 960000000))
    (all_to m (λ h. leb (reserved_of s h) 960000000))
    (le-leb (sum_to m (λ h. unplaced_of s h)) 960000000 o.unplaced-sum-most)
    (all-le m (λ h. step5_share_of s h) (λ h. 960000000) o.step5-share-most)
    (all-le m (λ h. step7_total_of s h) (λ h. 960000000) o.step7-total-most)
    (all-le m (λ h. reserved_of s h) (λ h. 960000000) o.reserved-most) in
    let takings : takings_in_range s ≡ true = all-le m (λ h. takings_of s h) (λ h. 2) o.takings-most in
    let sellers : sellers_are_holders s ≡ true = all-le m (λ h. suc (sellers_of s h)) (λ h. 2 ^ holders s) o.sellers-below in
    let terms : terms_fit s ≡ true =
    all-pairs m n (λ h i. term_fits (locked_of s h i) (term_of s h i))
    (λ h i k l. fits-term (locked_of s h i) (term_of s h i) (o.term-range h i k l) (o.no-term h i k l)) in
    let b2 = sizes_in_range s && stage_in_range s in
    let b5 = b2 && limits_in_range s && load_shares_in_range s && balanced s in
    let b8 = b5 && locked_within_placed s && pending_within_unplaced s && kw_in_range s in
    all-four b8 (takings_in_range s) (sellers_are_holders s) (terms_fit s)
    (all-four b5 (locked_within_placed s) (pending_within_unplaced s) (kw_in_range s)
    (all-four b2 (limits_in_range s) (load_shares_in_range s) (balanced s) (and_both (sizes_in_range s) (stage_in_range s) sizes stage) limits shares balance)
    locked pending kw)
    takings sellers terms

none-applies : (short good : Bool) → pick {A = ℕ} short 5 (pick good 0 6) ≡ 0 → (short ≡ false) × (good ≡ true)
none-applies true good e = absurd (omega arith)
none-applies false true e = (refl, refl)
none-applies false false e = absurd (omega arith)

-- the state's refusal is 0 exactly for a long enough orderly state
pub refusal-none : (s : List ℕ) → state_refusal s ≡ 0 → (state_words ≤ length s) × Orderly s
unfolding state_refusal
refusal-none s e =
    let none = none-applies (ltb (length s) state_words) (orderly s) e in
    (ltb-false (length s) state_words none.0, orderly-facts s none.1)

pub none-refused : {s : List ℕ} → state_words ≤ length s → Orderly s → state_refusal s ≡ 0
unfolding state_refusal
none-refused {s} long o = rw (le-ltb (length s) state_words long, facts-orderly o)

-- bounds that follow
module _ {s : List ℕ} (o : Orderly s) where
  pub unassigned-most : (i : ℕ) → i < interties s → unassigned_of s i ≤ 20000000
  unassigned-most i l = omega (arith, o.balance i l, o.limit-most i l)

  -- what an intertie has placed or taken is at most its limit, and so is a pair's
  pub placed-most : (h i : ℕ) → h < holders s → i < interties s → placed_of s h i ≤ 20000000
  placed-most h i k l = omega (arith, sum_to-term (holders s) (λ j. placed_of s j i) h k, o.balance i l, o.limit-most i l)

  pub taken-most : (h i : ℕ) → h < holders s → i < interties s → taken_of s h i ≤ 20000000
  taken-most h i k l = omega (arith, sum_to-term (holders s) (λ j. taken_of s j i) h k, o.balance i l, o.limit-most i l)

  pub unplaced-most : (h : ℕ) → h < holders s → unplaced_of s h ≤ 960000000
  unplaced-most h k = omega (arith, sum_to-term (holders s) (λ j. unplaced_of s j) h k, o.unplaced-sum-most)

  -- a pair's pending is at most its holder's unplaced, and 0 in stages 1 and 4
  pub pair-pending-most : (h i : ℕ) → h < holders s → i < interties s → pending_of s h i ≤ unplaced_of s h
  pair-pending-most h i k l = omega (arith, sum_to-term (interties s) (λ j. pending_of s h j) i l, o.pending-most h k)

  pub no-pair-pending : (stage_of s ≡ 1) ⊎ (stage_of s ≡ 4) → (h i : ℕ) → h < holders s → i < interties s → pending_of s h i ≡ 0
  no-pair-pending c h i k l = sum_to-none (interties s) (λ j. pending_of s h j) (o.no-pending c h k) i l
