-- Refusals 2, 3 and 4 as they are decided from the sizes and the tables.
use Prim.Native.Nat.{ℕ, ◌+◌, ◌*◌, ◌/◌, ◌≤◌, ◌<◌, zero-le}
use mathlib.Core.Path.{◌≡◌, refl, sym, ap, ◌∙◌}
use mathlib.Core.Bool.{Bool, true, false, ◌&&◌, not}
use mathlib.Core.Logic.{⊎_elim}
use mathlib.Core.List.{List, []}
use native.Mathlib.Omega.{arith}
use native.Mathlib.Nat.{le_trans, mul-le-mul_right, add_assoc}
use lib.Dec.{leb, ltb, eqb}
use lib.ListN.{length, take, drop, get_or, get_or-eq_default}
use lib.Seq.{length-take-le}
use Rattle.std.proofs.lemmas.List.{get_or-take, get_or-drop, length-drop}
use Rattle.base.specs.Sums.{sum_to, all_to}
use Rattle.base.specs.Words.{at}
use Rattle.base.proofs.WordLaws.{length-tab, at-tab}
use Rattle.base.proofs.VectorLaws.{at_mid, at-row, length-rows}
use borrow.Rule.Slice.PartMut.{mid_of, mid_len}
use Rattle.std.specs.Simd.{first_chunks}
use Rattle.base.proofs.SumLaws.{sum_to-bound, sum_to-same, all_to-same}
use Rattle.sheet_records.specs.Sheet.{interties, holders, count, kw_at, sum_over, how_many, is_limit, is_load_share, is_new_use, limit, outside, existing, existing_on}
use Rattle.sheet_records.specs.Refusal.{within, bad_length, bad_sizes, records_stand, one_limit_each, one_load_share_each, no_rank_twice, rules_hold, limits_hold, sheet_refusal}
use Rattle.sheet_reading.specs.Headed.{headed}
use Rattle.sheet_reading.proofs.HeadLaws.{sizes-pass}
use Rattle.sheet_reading.specs.Tables.{slots, slot_of, limit_slot, outside_slot, load_share_slot, existing_slot, new_use_slot, table, count_table, kw_table, ReadSheet}
use Rattle.sheet_reading.specs.Workers.Adding.{Filled}
use Rattle.sheet_reading.specs.declared.tables.Tables.{Tables}
use Rattle.base.specs.declared.refusals.Refusal.TheVariants.{SheetLength, Sizes}
use Rattle.base.specs.Choice.{pick}
use Rattle.std.proofs.Common.{Ok, Err}
use Rattle.sheet_reading.specs.Workers.Deciding.{table_rules_hold, table_existing_on, table_limit_holds, Modest}
use Rattle.base.proofs.ChoiceLaws.{le-or-lt, test_by, both}
use borrow.Author.Tests.{leb-true, le-leb}
use Rattle.base.proofs.SumLaws.{all_to-rows}
use mathlib.Core.Bool.{and_assoc}
use Rattle.sheet_reading.proofs.TableLaws.{at-limit, at-load-share, at-new-use, limit-at, outside-at, existing-at}
use Rattle.sheet_records.proofs.RefusalLaws.{Sized, sized, long-enough, whole}
use Rattle.sheet_records.proofs.OverLaws.{over-all}
use Rattle.sheet_records.proofs.ReadingLaws.{word_below}

pub existing-bound : (kw : List ℕ) (H i : ℕ) → H ≤ 32 → Modest kw → table_existing_on kw H i ≤ 32 * (1024 * 4_294_967_295)
existing-bound kw H i h modest =
    le_trans (sum_to-bound H (1024 * 4_294_967_295) (λ k. at kw (existing_slot k i)) (λ k _. modest (existing_slot k i)))
    (mul-le-mul_right (1024 * 4_294_967_295) h)

-- E of a holder on an intertie in the table cut into the rows of holders
pub existing-in_row : (kw : List ℕ) (rows : List (List ℕ)) (H h i : ℕ) → length kw ≡ slots → H ≤ 32 → i < 64
    → rows ≡ first_chunks 64 (length (mid_of 192 12289 kw) / 64) (mid_of 192 12289 kw) → h < length (take H rows)
    → (h < 32) × (at (get_or (take H rows) h []) i ≡ at kw (existing_slot h i))
existing-in_row kw rows H h i full few narrow cut inside =
    let part : List ℕ = mid_of 192 12289 kw in
    let long : length part ≡ 12289 = mid_len 192 12481 kw (omega arith) in
    let k : ℕ = length part / 64 in
    let size : length rows ≡ k = ap length cut ∙ length-rows 64 k part in
    let before : h < H = omega (arith, length-take-le H rows (omega arith)) in (
      omega arith,
      ap (λ r. at r i) (get_or-take H rows h [] before)
          ∙ ap (λ t. at (get_or t h []) i) cut
          ∙ at-row 64 k h i part (omega arith) narrow
          ∙ at_mid 192 12289 kw (64 * h + i) (omega arith)
          ∙ ap (at kw) (sym (add_assoc 192 (64 * h) i)),
    )

-- the ranks of all holders in one row
pub ranks-row : (counts : List ℕ) (H : ℕ) → all_to (256 * H) (λ j. leb (at counts (4288 + j)) 1) ≡ all_to H (λ h. all_to 256 (λ r. leb (at counts (new_use_slot h r)) 1))
ranks-row counts H =
    all_to-rows 256 H (λ j. leb (at counts (4288 + j)) 1)
    ∙ all_to-same H (λ h. all_to 256 (λ r. leb (at counts (4288 + (256 * h + r))) 1)) (λ h. all_to 256 (λ r. leb (at counts (new_use_slot h r)) 1))
    (λ h _. all_to-same 256 (λ r. leb (at counts (4288 + (256 * h + r))) 1) (λ r. leb (at counts (new_use_slot h r)) 1)
    (λ r _. ap (λ (j : ℕ). leb (at counts j) 1) (sym (add_assoc 4288 (256 * h) r))))

-- from 1 to 1 is 1, and from 0 to 1 is at most 1
once : (n : ℕ) → within 1 1 n ≡ eqb n 1
once n = sym (test_by n 1 (within 1 1 n) (n ≡ 1) (λ t. let p = (both (leb 1 n) (leb n 1)).0 t in antisym (leb-true 1 n p.0) (leb-true n 1 p.1), λ e. rw e refl) (λ e. e, λ e. e))
  where
    antisym : 1 ≤ n → n ≤ 1 → n ≡ 1
    antisym a b = omega arith

at-most-once : (n : ℕ) → within 0 1 n ≡ leb n 1
at-most-once n = simp (le-leb 0 n zero-le)

-- a test of each number of a part
part-all : (q p : ℕ → Bool) → ((n : ℕ) → q n ≡ p n) → (l : List ℕ) (from n m : ℕ) → n ≡ m → from + m ≤ length l
    → all_to (length (take n (drop from l))) (λ i. q (at (take n (drop from l)) i)) ≡ all_to m (λ i. p (at l (from + i)))
part-all q p same l from n m e room =
    let size : length (take n (drop from l)) ≡ m = length-take-le n (drop from l) (omega (arith, length-drop from l)) ∙ e in
    ap (λ k. all_to k (λ i. q (at (take n (drop from l)) i))) size
    ∙ all_to-same m (λ i. q (at (take n (drop from l)) i)) (λ i. p (at l (from + i)))
    (λ i h. same _ ∙ ap p (get_or-take n (drop from l) i 0 (omega arith) ∙ get_or-drop from l i 0))

-- the tests of parts of a table of counts
module _ (counts : List ℕ) (H I : ℕ) (few : I ≤ 64) (low : H ≤ 32) (full : length counts ≡ slots) where
  pub rules-by-parts : (stand limits shares ranks : Bool) (l r : ℕ)
      → limits ≡ all_to (length (take I counts)) (λ i. within 1 1 (at (take I counts) i))
      → shares ≡ all_to (length (take l (drop 128 counts))) (λ i. within 0 1 (at (take l (drop 128 counts)) i))
      → ranks ≡ all_to (length (take r (drop 4288 counts))) (λ i. within 0 1 (at (take r (drop 4288 counts)) i))
      → l ≡ H → r ≡ 256 * H → stand && limits && shares && ranks ≡ table_rules_hold stand counts H I
  rules-by-parts stand limits shares ranks l r a b c el er =
      let first = a ∙ part-all (within 1 1) (λ x. eqb x 1) once counts 0 I I refl (omega arith)
      ∙ all_to-same I (λ i. eqb (at counts (0 + i)) 1) (λ i. eqb (at counts i) 1) (λ i _. let same : 0 + i ≡ i = omega arith in ap (λ (j : ℕ). eqb (at counts j) 1) same) in
      let second = b ∙ part-all (within 0 1) (λ x. leb x 1) at-most-once counts 128 l H el (omega arith) in
      let third = c ∙ part-all (within 0 1) (λ x. leb x 1) at-most-once counts 4288 r (256 * H) er (omega arith) ∙ ranks-row counts H in
      rw (first, second, third) refl

-- the counts and sums of the tables are those of the rules
module _ (s : List ℕ) (few : interties s ≤ 48) (small : holders s ≤ 32) where
  pub rules-counted : table_rules_hold (records_stand s) (count_table s) (holders s) (interties s) ≡ rules_hold s
  unfolding rules_hold one_limit_each one_load_share_each no_rank_twice
  rules-counted =
      let limits : all_to (interties s) (λ i. eqb (at (count_table s) (limit_slot i)) 1) ≡ one_limit_each s =
      all_to-same (interties s) (λ i. eqb (at (count_table s) (limit_slot i)) 1) (λ i. eqb (how_many s (is_limit i)) 1)
      (λ i l. ap (λ (n : ℕ). eqb n 1) (at-limit s (λ k. 1) i (omega arith))) in
      let shares : all_to (holders s) (λ h. leb (at (count_table s) (load_share_slot h)) 1) ≡ one_load_share_each s =
      all_to-same (holders s) (λ h. leb (at (count_table s) (load_share_slot h)) 1) (λ h. leb (how_many s (is_load_share h)) 1)
      (λ h l. ap (λ (n : ℕ). leb n 1) (at-load-share s (λ k. 1) h (omega arith))) in
      let ranks : all_to (holders s) (λ h. all_to 256 (λ r. leb (at (count_table s) (new_use_slot h r)) 1)) ≡ no_rank_twice s =
      all_to-same (holders s) (λ h. all_to 256 (λ r. leb (at (count_table s) (new_use_slot h r)) 1)) (λ h. all_to 256 (λ r. leb (how_many s (is_new_use h r)) 1))
      (λ h l. all_to-same 256 (λ r. leb (at (count_table s) (new_use_slot h r)) 1) (λ r. leb (how_many s (is_new_use h r)) 1)
      (λ r m. ap (λ (n : ℕ). leb n 1) (at-new-use s (λ k. 1) h r (omega arith) m))) in
      rw (limits, shares, ranks) refl

  pub limits-summed : all_to (interties s) (table_limit_holds (kw_table s) (holders s)) ≡ limits_hold s
  unfolding limits_hold existing_on
  limits-summed =
      all_to-same (interties s) (table_limit_holds (kw_table s) (holders s)) (λ i. leb (outside s i + existing_on s i) (limit s i))
      (λ i l.
      let o : at (kw_table s) (outside_slot i) ≡ outside s i = outside-at s i (omega arith) in
      let m : at (kw_table s) (limit_slot i) ≡ limit s i = limit-at s i (omega arith) in
      let e : table_existing_on (kw_table s) (holders s) i ≡ sum_to (holders s) (λ h. existing s h i) =
      sum_to-same (holders s) (λ h. at (kw_table s) (existing_slot h i)) (λ h. existing s h i) (λ h b. existing-at s h i (omega arith) (omega arith)) in
      cc)

-- the table of kilowatts of a sheet of at most 1,024 records
pub modest : (s : List ℕ) → count s ≤ 1024 → ((i : ℕ) → at s i < 256) → Modest (kw_table s)
unfolding table
modest s few bytes j =
    ⊎_elim
    (λ (l : slots ≤ j).
    let past : length (kw_table s) ≤ j = rw (length-tab slots (λ i. sum_over s (λ key. eqb (slot_of key) i) (kw_at s))) l in
    rw (get_or-eq_default (kw_table s) 0 {n = j} past) zero-le)
    (λ (l : j < slots).
    rw (at-tab slots (λ i. sum_over s (λ key. eqb (slot_of key) i) (kw_at s)) j l)
    (le_trans
    (over-all s (λ key. eqb (slot_of key) j) (kw_at s) 4_294_967_295 (λ k _ _. word_below s (12 + 4 * count s + 4 * k) bytes))
    (mul-le-mul_right 4_294_967_295 few)))
    (le-or-lt slots j)

pub sizes-decided : (s : List ℕ) (I H : ℕ) (b : Bool) → I ≡ interties s → H ≡ holders s → b ≡ (within 1 48 I && leb 1 H && leb H 32) → not b ≡ bad_sizes s
unfolding bad_sizes
sizes-decided s I H b ei eh eb = rw (← ei, ← eh) (ap not (eb ∙ and_assoc (within 1 48 I) (leb 1 H) (leb H 32)))

-- refusals 1 and 2 as they are decided
module _ (s : List ℕ) where
  pub sizes-1 : (a : Bool) → a ≡ bad_length s → a ≡ true → Err SheetLength ≡ headed s
  unfolding headed
  sizes-1 a e t = simp (← e, t)

  module _ (a b : Bool) (e : a ≡ bad_length s) (f : a ≡ false) (I H : ℕ) (ei : I ≡ pick (ltb (length s) 12) 0 (interties s)) (eh : H ≡ pick (ltb (length s) 12) 0 (holders s))
      (eb : b ≡ (within 1 48 I && leb 1 H && leb H 32)) where
    sizes-bad : not b ≡ bad_sizes s
    sizes-bad = let whole = sym e ∙ f in sizes-decided s I H b (long-enough s I _ whole ei) (long-enough s H _ whole eh) eb

    pub sizes-2 : b ≡ false → Err Sizes ≡ headed s
    unfolding headed
    sizes-2 t = simp (← e, f, ← sizes-bad, t)

    pub sizes-0 : b ≡ true → Ok s ≡ headed s
    unfolding headed
    sizes-0 t = simp (← e, f, ← sizes-bad, t)

-- refusals 3 and 4 from what the code has read: the sizes, the tables, and the tests on them
module _ (s : List ℕ) (passed : headed s ≡ Ok s) (H I : ℕ) (eh : H ≡ pick (ltb (length s) 12) 0 (holders s)) (ei : I ≡ pick (ltb (length s) 12) 0 (interties s)) where
  sizes : Sized s
  sizes = sized s (sizes-pass s passed).1

  the-holders : H ≡ holders s
  the-holders = long-enough s H _ (sizes-pass s passed).0 eh

  the-interties : I ≡ interties s
  the-interties = long-enough s I _ (sizes-pass s passed).0 ei

  -- what the tests ask
  pub modest-table : ((i : ℕ) → at s i < 256) → (kw : List ℕ) → kw ≡ kw_table s → Modest kw
  modest-table bytes kw e = rw e (modest s (whole s (count s) (sizes-pass s passed).0 refl).few bytes)

  pub few-sizes : (H ≤ 32) × (I ≤ 64)
  few-sizes = (omega (arith, the-holders, sizes), omega (arith, the-interties, sizes))

  module _ (stand b : Bool) (counts : List ℕ) (es : stand ≡ records_stand s) (ec : counts ≡ count_table s) (eb : b ≡ table_rules_hold stand counts H I) where
    rules-decided : b ≡ rules_hold s
    rules-decided = eb ∙ rw (es, ec, the-holders, the-interties) (rules-counted s sizes.few-interties sizes.few-holders)

    pub refused-3 : b ≡ false → 3 ≡ sheet_refusal s
    unfolding sheet_refusal
    refused-3 f = let p = sizes-pass s passed in simp (p.0, p.1, ← rules-decided, f)

    module _ (t : b ≡ true) (d : Bool) (kw : List ℕ) (ek : kw ≡ kw_table s) (ed : d ≡ all_to I (table_limit_holds kw H)) where
      limits-decided : d ≡ limits_hold s
      limits-decided = ed ∙ rw (ek, the-holders, the-interties) (limits-summed s sizes.few-interties sizes.few-holders)

      pub refused-4 : d ≡ false → 4 ≡ sheet_refusal s
      unfolding sheet_refusal
      refused-4 f = let p = sizes-pass s passed in simp (p.0, p.1, ← rules-decided, t, ← limits-decided, f)

      pub stands : d ≡ true → 0 ≡ sheet_refusal s
      unfolding sheet_refusal
      stands f = let p = sizes-pass s passed in simp (p.0, p.1, ← rules-decided, t, ← limits-decided, f)

-- how a reading ends
pub read-filled : (s : List ℕ) (before now : Tables) (r : ℕ) → headed s ≡ Ok s → r ≡ sheet_refusal s → Filled s now → ReadSheet s before r now
read-filled s before now r e a t =
    let p = sizes-pass s e in
    record {
      answer = a;
      counted = simp (p.0, p.1) t.counted;
      summed = simp (p.0, p.1) t.summed;
      placed = simp (p.0, p.1) t.placed;
    }
