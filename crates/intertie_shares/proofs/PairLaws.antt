-- Laws of tables of the pairs: what stands at the pairs that were filled, and that the other words stay.
use Prim.Native.Nat.{ℕ, zero, suc, ◌+◌, ◌≤◌, ◌<◌}
use mathlib.Core.Path.{◌≡◌, refl, ap, ◌∙◌}
use mathlib.Core.Logic.{◌≢◌, ⊎_elim}
use mathlib.Core.List.{List, ◌++◌}
use native.Mathlib.Nat.{le_step, lt-suc_self, not-suc-le-zero}
use native.Mathlib.Numerals.{add-one}
use native.Mathlib.Omega.{arith}
use lib.ListN.{length, set, length-set}
use lib.Seq.{get_or-set_same, get_or-set_other}
use Rattle.std.proofs.lemmas.List.{set-append_left}
use Rattle.base.specs.Words.{at}
use Rattle.base.proofs.SumLaws.{below_suc}
use Rattle.intertie_shares.specs.Pairs.{pair_at, fill_column, fill_table}

module _ (i : ℕ) (f : ℕ → ℕ) (table : List ℕ) where
  pub fill_column-zero : fill_column i 0 f table ≡ table
  unfolding fill_column
  fill_column-zero = refl

  -- one holder more, as a loop counts
  pub fill_column-more : (H : ℕ) → fill_column i (H + 1) f table ≡ set (fill_column i H f table) (pair_at H i) (f H)
  unfolding fill_column
  fill_column-more H = rw (add-one H)

  pub length-fill_column : (H : ℕ) → length (fill_column i H f table) ≡ length table
  unfolding fill_column
  length-fill_column zero = refl
  length-fill_column (suc H) = length-set (fill_column i H f table) (pair_at H i) (f H) ∙ length-fill_column H

  -- a holder that was filled
  pub at-fill_column : (H h : ℕ) → h < H → H ≤ 32 → i < 48 → 1536 ≤ length table → at (fill_column i H f table) (pair_at h i) ≡ f h
  unfolding fill_column
  at-fill_column zero h l few low whole = absurd (not-suc-le-zero l)
  at-fill_column (suc H) h l few low whole =
      ⊎_elim
      (λ (e : h ≡ H).
      let len : length (fill_column i H f table) ≡ length table = length-fill_column H in
      let k : pair_at H i < length (fill_column i H f table) = omega arith in
      rw e (get_or-set_same (fill_column i H f table) (pair_at H i) (f H) 0 k))
      (λ (m : h < H).
      let ne : pair_at h i ≢ pair_at H i = omega arith in
      get_or-set_other (fill_column i H f table) (pair_at H i) (pair_at h i) (f H) 0 ne ∙ at-fill_column H h m (omega arith) low whole)
      (below_suc l)

  -- a word that is none of those
  pub at-fill_column-other : (H p : ℕ) → ((h : ℕ) → h < H → p ≢ pair_at h i) → at (fill_column i H f table) p ≡ at table p
  unfolding fill_column
  at-fill_column-other zero p h = refl
  at-fill_column-other (suc H) p h =
      get_or-set_other (fill_column i H f table) (pair_at H i) p (f H) 0 (h H (lt-suc_self H))
      ∙ at-fill_column-other H p (λ k l. h k (le_step l))

-- the same values fill alike
pub fill_column-same : (i H : ℕ) (f g : ℕ → ℕ) (table : List ℕ) → ((h : ℕ) → h < H → f h ≡ g h) → fill_column i H f table ≡ fill_column i H g table
unfolding fill_column
fill_column-same i zero f g table same = refl
fill_column-same i (suc H) f g table same =
    let e : fill_column i H f table ≡ fill_column i H g table = fill_column-same i H f g table (λ h l. same h (le_step l)) in
    let t : f H ≡ g H = same H (lt-suc_self H) in
    cc

module _ (H : ℕ) (f : ℕ → ℕ → ℕ) (table : List ℕ) where
  pub fill_table-zero : fill_table 0 H f table ≡ table
  unfolding fill_table
  fill_table-zero = refl

  -- one intertie more, as a loop counts
  pub fill_table-more : (I : ℕ) → fill_table (I + 1) H f table ≡ fill_column I H (λ h. f h I) (fill_table I H f table)
  unfolding fill_table
  fill_table-more I = rw (add-one I)

  pub length-fill_table : (I : ℕ) → length (fill_table I H f table) ≡ length table
  unfolding fill_table
  length-fill_table zero = refl
  length-fill_table (suc I) = length-fill_column I (λ h. f h I) (fill_table I H f table) H ∙ length-fill_table I

  -- a pair that was filled
  pub at-fill_table : (I h i : ℕ) → h < H → i < I → H ≤ 32 → I ≤ 48 → 1536 ≤ length table → at (fill_table I H f table) (pair_at h i) ≡ f h i
  unfolding fill_table
  at-fill_table zero h i k l few low whole = absurd (not-suc-le-zero l)
  at-fill_table (suc I) h i k l few low whole =
      ⊎_elim
      (λ (e : i ≡ I).
      rw e (at-fill_column I (λ h. f h I) (fill_table I H f table) H h k few (omega arith) (omega (arith, length-fill_table I))))
      (λ (m : i < I).
      at-fill_column-other I (λ h. f h I) (fill_table I H f table) H (pair_at h i) (λ o n. omega arith)
      ∙ at-fill_table I h i k m few (omega arith) whole)
      (below_suc l)

  -- a word of no pair that was filled
  pub at-fill_table-other : (I p : ℕ) → ((h i : ℕ) → h < H → i < I → p ≢ pair_at h i) → at (fill_table I H f table) p ≡ at table p
  unfolding fill_table
  at-fill_table-other zero p h = refl
  at-fill_table-other (suc I) p other =
      at-fill_column-other I (λ h. f h I) (fill_table I H f table) H p (λ h l. other h I l (lt-suc_self I))
      ∙ at-fill_table-other I p (λ h i l m. other h i l (le_step m))

-- filled in front of other words
pub fill_column-front : (i H : ℕ) (f : ℕ → ℕ) (table rest : List ℕ) → H ≤ 32 → i < 48 → 1536 ≤ length table →
    fill_column i H f (table ++ rest) ≡ fill_column i H f table ++ rest
unfolding fill_column
fill_column-front i zero f table rest few low whole = refl
fill_column-front i (suc H) f table rest few low whole =
    let inside : pair_at H i < length (fill_column i H f table) = omega (arith, length-fill_column i f table H) in
    ap (λ t. set t (pair_at H i) (f H)) (fill_column-front i H f table rest (omega arith) low whole)
    ∙ set-append_left (fill_column i H f table) rest (pair_at H i) (f H) inside

pub fill_table-front : (I H : ℕ) (f : ℕ → ℕ → ℕ) (table rest : List ℕ) → H ≤ 32 → I ≤ 48 → 1536 ≤ length table →
    fill_table I H f (table ++ rest) ≡ fill_table I H f table ++ rest
unfolding fill_table
fill_table-front zero H f table rest few low whole = refl
fill_table-front (suc I) H f table rest few low whole =
    ap (fill_column I H (λ h. f h I)) (fill_table-front I H f table rest few (omega arith) whole)
    ∙ fill_column-front I H (λ h. f h I) (fill_table I H f table) rest few (omega arith) (omega (arith, length-fill_table H f table I))

-- the same values fill alike
pub fill_table-same : (I H : ℕ) (f g : ℕ → ℕ → ℕ) (table : List ℕ) → ((h i : ℕ) → h < H → i < I → f h i ≡ g h i) →
    fill_table I H f table ≡ fill_table I H g table
unfolding fill_table
fill_table-same zero H f g table same = refl
fill_table-same (suc I) H f g table same =
    let e : fill_table I H f table ≡ fill_table I H g table = fill_table-same I H f g table (λ h i l m. same h i l (le_step m)) in
    rw e (fill_column-same I H (λ h. f h I) (λ h. g h I) (fill_table I H g table) (λ h l. same h I l (lt-suc_self I)))
