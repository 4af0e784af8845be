-- What a sheet that stands says, in plain facts.
use Prim.Native.Nat.{ℕ, ◌+◌, ◌-◌, ◌*◌, ◌≤◌, ◌<◌}
use mathlib.Core.Path.{◌≡◌, refl, sym, ◌∙◌}
use mathlib.Core.Bool.{Bool, true, false, ◌&&◌, not, false≢true}
use mathlib.Core.List.{List, []}
use native.Mathlib.Omega.{arith}
use lib.ListN.{length}
use native.Mathlib.Nat.{le_trans, mul-le-mul_left, mul-le-mul_right}
use borrow.Author.Tests.{eqb-true, leb-true, ltb-true, not-false}
use lib.Dec.{leb, eqb}
use Rattle.base.specs.Choice.{pick}
use Rattle.base.specs.Sums.{all_to}
use Rattle.base.proofs.SumLaws.{all_to-each}
use Rattle.base.proofs.ChoiceLaws.{pick-by}
use Rattle.sheet_keys.specs.Key.{kind_of, holder_of, intertie_of, rank_of}
use Rattle.sheet_records.specs.Sheet.{interties, holders, count, key_at, kw_at, sum_over, how_many, kw_of, is_limit, is_load_share, is_new_use, limit, outside, load_share, existing, existing_on, pre_ra, new_use_kw, new_use_intertie}
use Rattle.sheet_records.specs.Refusal.{within, bad_length, bad_sizes, some_holder, no_holder, some_intertie, no_intertie, some_rank, no_rank, some_years, no_years, repeatable, record_stands, records_stand, one_limit_each, one_load_share_each, no_rank_twice, rules_hold, limits_hold, sheet_refusal}
use Rattle.sheet_reading.specs.declared.tables.Tables.{Tables}
use Rattle.std.proofs.Common.{Result, Ok, Err, ap}
use native.Mathlib.Nat.{suc-ne-zero}
use Rattle.base.specs.declared.refusals.Refusal.{Refusal}
use Rattle.base.specs.declared.refusals.Refusal.TheVariants.{SheetLength, Sizes}
use Rattle.base.specs.Refused.{number_of, number_in}
use Rattle.base.proofs.RefusedLaws.{numbered}
use Rattle.sheet_reading.specs.Headed.{headed}
use Rattle.sheet_reading.specs.Tables.{ReadSheet}
use Rattle.sheet_reading.specs.Workers.Adding.{Filled}
use Rattle.base.proofs.ChoiceLaws.{both, equal-two, equal-three}
use Rattle.sheet_records.proofs.RefusalLaws.{whole, Sized, sized}
use Rattle.sheet_records.proofs.OverLaws.{over-passing, over-all}

-- a record that keeps its rule: all kinds but the load share name an intertie and have at most 20,000,000 kW
pub record Kept (I key kw : ℕ) : Type 0 where
  pub modest : kw ≤ 100_000_000
  pub small : (kind_of key ≡ 3 → ⊥) → kw ≤ 20_000_000
  pub placed : (kind_of key ≡ 3 → ⊥) → intertie_of key < I

-- five tests together: the second and the last
two-of-five : (a b c d e : Bool) → a && b && c && d && e ≡ true → (b ≡ true) × (e ≡ true)
two-of-five a b c d e t =
    let p = (both (a && b && c && d) e).0 t in
    let q = (both (a && b && c) d).0 p.0 in
    let r = (both (a && b) c).0 q.0 in
    (((both a b).0 r.0).1, p.1)

pub kept : (I H key kw : ℕ) → record_stands I H key kw ≡ true → Kept I key kw
unfolding record_stands
kept I H key kw =
    let P : Bool → Type 0 = λ b. b ≡ true → Kept I key kw in
    pick-by P (eqb (kind_of key) 1) _ _ (λ _ t. let p = two-of-five (no_holder key) (some_intertie I key) (no_rank key) (no_years key) (leb kw 20_000_000) t in on-intertie p.0 (leb-true kw 20_000_000 p.1)) (λ _.
    pick-by P (eqb (kind_of key) 2) _ _ (λ _ t. repeated (no_holder key) (no_rank key) (no_years key) t) (λ _.
    pick-by P (eqb (kind_of key) 3) _ _ (λ k t. of-holder (eqb-true (kind_of key) 3 k) (two-of-five (some_holder H key) (no_intertie key) (no_rank key) (no_years key) (leb kw 100_000_000) t).1) (λ _.
    pick-by P (within 4 5 (kind_of key)) _ _ (λ _ t. repeated (some_holder H key) (no_rank key) (some_years key) t) (λ _.
    pick-by P (eqb (kind_of key) 6) _ _ (λ _ t. repeated (some_holder H key) (some_rank key) (some_years key) t) (λ _ t.
    absurd (false≢true t))))))
  where
    of-holder : kind_of key ≡ 3 → leb kw 100_000_000 ≡ true → Kept I key kw
    of-holder e l = record { modest = leb-true kw 100_000_000 l; small = λ n. absurd (n e); placed = λ n. absurd (n e) }

    on-intertie : some_intertie I key ≡ true → kw ≤ 20_000_000 → Kept I key kw
    on-intertie i l = record { modest = omega arith; small = λ _. l; placed = λ _. ltb-true (intertie_of key) I i }

    repeated : (a c d : Bool) → a && some_intertie I key && c && d && repeatable kw ≡ true → Kept I key kw
    repeated a c d t =
        let p = two-of-five a (some_intertie I key) c d (repeatable kw) t in
        on-intertie p.0 (leb-true kw 20_000_000 ((both (leb 1 kw) (leb kw 20_000_000)).0 p.1).1)

-- a sheet that no number refuses
pub record Stands (s : List ℕ) : Type 0 where
  pub sizes : Sized s
  pub few-records : count s ≤ 1024
  pub each-record : (k : ℕ) → k < count s → record_stands (interties s) (holders s) (key_at s k) (kw_at s k) ≡ true
  pub limit-bound : (i : ℕ) → i < interties s → limit s i ≤ 20_000_000
  pub load-share-bound : (h : ℕ) → h < holders s → load_share s h ≤ 100_000_000
  pub within-limit : (i : ℕ) → i < interties s → outside s i + existing_on s i ≤ limit s i
  pub existing-bound : (h i : ℕ) → existing s h i ≤ 20_480_000_000
  pub pre-ra-bound : (h i : ℕ) → pre_ra s h i ≤ 20_480_000_000
  pub new-use-bound : (h r : ℕ) → h < holders s → r < 256 → new_use_kw s h r ≤ 20_000_000
  pub new-use-place : (h r : ℕ) → h < holders s → r < 256 → new_use_intertie s h r < interties s

passed-by : (b : Bool) (n rest : ℕ) → (n ≡ 0 → ⊥) → pick b n rest ≡ 0 → (b ≡ false) × (rest ≡ 0)
passed-by true n rest f e = absurd (f e)
passed-by false n rest f e = (refl, e)

-- the four conditions of a sheet that stands
pub conditions : (s : List ℕ) → sheet_refusal s ≡ 0 → (bad_length s ≡ false) × (bad_sizes s ≡ false) × (rules_hold s ≡ true) × (limits_hold s ≡ true)
unfolding sheet_refusal
conditions s e =
    let one = passed-by (bad_length s) 1 _ (omega arith) e in
    let two = passed-by (bad_sizes s) 2 _ (omega arith) one.1 in
    let three = passed-by (not (rules_hold s)) 3 _ (omega arith) two.1 in
    let four = passed-by (not (limits_hold s)) 4 0 (omega arith) three.1 in
    (one.0, two.0, not-false (rules_hold s) three.0, not-false (limits_hold s) four.0)

module _ (s : List ℕ) (few : count s ≤ 1024) (some : 1 ≤ interties s) (rules : rules_hold s ≡ true) where
  -- the four rules that hold together
  parted : (records_stand s ≡ true) × (one_limit_each s ≡ true) × (one_load_share_each s ≡ true) × (no_rank_twice s ≡ true)
  unfolding rules_hold
  parted =
      let p = (both (records_stand s && one_limit_each s && one_load_share_each s) (no_rank_twice s)).0 rules in
      let q = (both (records_stand s && one_limit_each s) (one_load_share_each s)).0 p.0 in
      let r = (both (records_stand s) (one_limit_each s)).0 q.0 in
      (r.0, r.1, q.1, p.1)

  each_stands : (k : ℕ) → k < count s → record_stands (interties s) (holders s) (key_at s k) (kw_at s k) ≡ true
  unfolding records_stand
  each_stands = all_to-each (count s) (λ k. record_stands (interties s) (holders s) (key_at s k) (kw_at s k)) parted.0

  each-kept : (k : ℕ) → k < count s → Kept (interties s) (key_at s k) (kw_at s k)
  each-kept k l = kept (interties s) (holders s) (key_at s k) (kw_at s k) (each_stands k l)

  -- a record of a kind other than 3 is small
  each-small : (n k : ℕ) → (n ≡ 3 → ⊥) → k < count s → kind_of (key_at s k) ≡ n → kw_at s k ≤ 20_000_000
  each-small n k f l e = (each-kept k l).small (λ t. f (sym e ∙ t))

  limit-small : (i : ℕ) → i < interties s → limit s i ≤ 20_000_000
  unfolding limit one_limit_each
  limit-small i l =
      let one : how_many s (is_limit i) ≡ 1 = eqb-true (how_many s (is_limit i)) 1 (all_to-each (interties s) (λ j. eqb (how_many s (is_limit j)) 1) parted.1 i l) in
      let all : kw_of s (is_limit i) ≤ 20_000_000 * how_many s (is_limit i) =
      over-passing s (is_limit i) (kw_at s) 20_000_000 (λ k m t. each-small 1 k (omega arith) m ((equal-two (kind_of (key_at s k)) 1 (intertie_of (key_at s k)) i).0 t).0) in
      omega arith

  load-share-small : (h : ℕ) → h < holders s → load_share s h ≤ 100_000_000
  unfolding load_share one_load_share_each
  load-share-small h l =
      let one : how_many s (is_load_share h) ≤ 1 = leb-true (how_many s (is_load_share h)) 1 (all_to-each (holders s) (λ j. leb (how_many s (is_load_share j)) 1) parted.2 h l) in
      let all : kw_of s (is_load_share h) ≤ 100_000_000 * how_many s (is_load_share h) =
      over-passing s (is_load_share h) (kw_at s) 100_000_000 (λ k m _. (each-kept k m).modest) in
      omega arith

  -- existing contracts, and Pre-RA commitments
  contracts-small : (n h i : ℕ) → (n ≡ 3 → ⊥) → kw_of s (λ key. eqb (kind_of key) n && eqb (holder_of key) h && eqb (intertie_of key) i) ≤ 20_480_000_000
  contracts-small n h i f =
      le_trans
      (over-all s (λ key. eqb (kind_of key) n && eqb (holder_of key) h && eqb (intertie_of key) i) (kw_at s) 20_000_000
      (λ k m t. each-small n k f m ((equal-three (kind_of (key_at s k)) n (holder_of (key_at s k)) h (intertie_of (key_at s k)) i).0 t).0))
      (mul-le-mul_right 20_000_000 few)

  existing-small : (h i : ℕ) → existing s h i ≤ 20_480_000_000
  unfolding existing
  existing-small h i = contracts-small 4 h i (omega arith)

  pre-ra-small : (h i : ℕ) → pre_ra s h i ≤ 20_480_000_000
  unfolding pre_ra
  pre-ra-small h i = contracts-small 5 h i (omega arith)

  one_rank : (h r : ℕ) → h < holders s → r < 256 → how_many s (is_new_use h r) ≤ 1
  unfolding no_rank_twice
  one_rank h r l m =
      leb-true (how_many s (is_new_use h r)) 1
      (all_to-each 256 (λ j. leb (how_many s (is_new_use h j)) 1)
      (all_to-each (holders s) (λ g. all_to 256 (λ j. leb (how_many s (is_new_use g j)) 1)) parted.3 h l) r m)

  new-use-kind : (h r k : ℕ) → is_new_use h r (key_at s k) ≡ true → kind_of (key_at s k) ≡ 6
  new-use-kind h r k t = ((equal-three (kind_of (key_at s k)) 6 (holder_of (key_at s k)) h (rank_of (key_at s k)) r).0 t).0

  new-use-small : (h r : ℕ) → h < holders s → r < 256 → new_use_kw s h r ≤ 20_000_000
  unfolding new_use_kw
  new-use-small h r l m =
      let all : kw_of s (is_new_use h r) ≤ 20_000_000 * how_many s (is_new_use h r) =
      over-passing s (is_new_use h r) (kw_at s) 20_000_000 (λ k b t. each-small 6 k (omega arith) b (new-use-kind h r k t)) in
      omega (arith, one_rank h r l m)

  new-use-placed : (h r : ℕ) → h < holders s → r < 256 → new_use_intertie s h r < interties s
  unfolding new_use_intertie
  new-use-placed h r l m =
      let top : ℕ = interties s - 1 in
      let all : sum_over s (is_new_use h r) (λ k. intertie_of (key_at s k)) ≤ top * how_many s (is_new_use h r) =
      over-passing s (is_new_use h r) (λ k. intertie_of (key_at s k)) top
      (λ k b t. let e = new-use-kind h r k t in let p = (each-kept k b).placed (λ n. omega arith) in omega arith) in
      let most : top * how_many s (is_new_use h r) ≤ top * 1 = mul-le-mul_left top (one_rank h r l m) in
      omega arith

-- its first three words are there
pub first-words : (s : List ℕ) → sheet_refusal s ≡ 0 → 12 ≤ length s
first-words s e = omega (arith, (whole s (count s) (conditions s e).0 refl).exact)

pub standing : (s : List ℕ) → sheet_refusal s ≡ 0 → Stands s
unfolding limits_hold
standing s e =
    let c = conditions s e in
    let z = sized s c.1 in
    let few : count s ≤ 1024 = (whole s (count s) c.0 refl).few in
    let some : 1 ≤ interties s = z.some-interties in
    record {
      sizes = z;
      few-records = few;
      each-record = each_stands s few some c.2;
      limit-bound = limit-small s few some c.2;
      load-share-bound = load-share-small s few some c.2;
      within-limit = λ i l.
          leb-true (outside s i + existing_on s i) (limit s i)
          (all_to-each (interties s) (λ j. leb (outside s j + existing_on s j) (limit s j)) c.3 i l);
      existing-bound = existing-small s few some c.2;
      pre-ra-bound = pre-ra-small s few some c.2;
      new-use-bound = new-use-small s few some c.2;
      new-use-place = new-use-placed s few some c.2;
    }

-- a reading that refuses nothing: the sheet stands, and the tables are its own
pub read-stands : (s : List ℕ) (before now : Tables) (r : ℕ) → ReadSheet s before r now → r ≡ 0 → Stands s × Filled s now
read-stands s before now r read e =
    let zero : sheet_refusal s ≡ 0 = sym read.answer ∙ e in
    let c = conditions s zero in (
      standing s zero,
      record {
        counted = simp (c.0, c.1) at read.counted;
        summed = simp (c.0, c.1) at read.summed;
        placed = simp (c.0, c.1) at read.placed;
      },
    )

abbrev given : Result (List ℕ) Refusal → List ℕ
given (Ok s) = s
given (Err r) = []

-- a sheet's head: the sheet itself goes on, and what refuses the head refuses the sheet
module _ (s : List ℕ) where
  pub head-kept : (h : List ℕ) → headed s ≡ Ok h → h ≡ s
  unfolding headed
  head-kept h = go (bad_length s) (bad_sizes s)
    where
      go : (a b : Bool) → pick a (Err SheetLength) (pick b (Err Sizes) (Ok s)) ≡ Ok h → h ≡ s
      go true b e = absurd (suc-ne-zero 0 (ap number_in e))
      go false true e = absurd (suc-ne-zero 1 (ap number_in e))
      go false false e = sym (ap given e)

  pub head-refused : (r : Refusal) → headed s ≡ Err r → number_of r ≡ sheet_refusal s
  unfolding headed sheet_refusal
  head-refused r = go (bad_length s) (bad_sizes s) _
    where
      go : (a b : Bool) (rest : ℕ) → pick a (Err SheetLength) (pick b (Err Sizes) (Ok s)) ≡ Err r → number_of r ≡ pick a 1 (pick b 2 rest)
      go true b rest e = sym (ap number_in e)
      go false true rest e = sym (ap number_in e)
      go false false rest e = omega (arith, ap number_in e, numbered r)
