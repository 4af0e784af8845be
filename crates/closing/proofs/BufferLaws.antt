-- The grants buffer while it is written, word by word.
use Prim.Native.Nat.{ℕ, zero, suc, ◌+◌, ◌*◌, ◌/◌, ◌%◌, ◌≤◌, ◌<◌}
use mathlib.Core.Path.{◌≡◌, refl, sym, ap, ◌∙◌}
use mathlib.Core.List.{List, []}
use native.Mathlib.Nat.{add-zero, zero-mul, suc-mul, mul-add-div_right, mul-add-mod_self_right, div-eq_of_lt, mod-eq_of_lt}
use native.Mathlib.Numerals.{add-one}
use native.Mathlib.Omega.{arith}
use lib.ListN.{length, take, drop, get_or, set, length-set}
use Rattle.std.proofs.lemmas.List.{get_or-take, length-drop, length-take, length-take-le}
use Rattle.std.specs.Simd.{first_chunks}
use Rattle.base.specs.Sums.{sum_to}
use Rattle.base.specs.Words.{at, fill}
use Rattle.base.proofs.SumLaws.{sum_to-same}
use Rattle.base.proofs.VectorLaws.{at-row, length-rows}
use Rattle.base.proofs.WordLaws.{fill-zero, fill-turn}
use Rattle.state.specs.Layout.{interties, holders}
use Rattle.intertie_shares.specs.Pairs.{at_pair}
use Rattle.closing.specs.Close.{close_grant, close_grants}
use Rattle.closing.specs.Workers.Work.{Grants}

-- the place h·I + i tells its holder and its intertie
holder-of : (I h i : ℕ) → i < I → (h * I + i) / I ≡ h
holder-of I h i l = mul-add-div_right (omega arith) h i ∙ ap (λ k. h + k) (div-eq_of_lt l) ∙ add-zero h

intertie-of : (I h i : ℕ) → i < I → (h * I + i) % I ≡ i
intertie-of I h i l = mul-add-mod_self_right h I i ∙ mod-eq_of_lt l

-- the word of a place
abbrev pub word : List ℕ → ℕ → ℕ
word s p = close_grant s (p / interties s) (p % interties s)

-- a word of a row, of the first H rows of a table and the first I words of each
pub row_word : (table : List ℕ) {rows : List (List ℕ)} (H I h i : ℕ) → length table ≡ 1536 → rows ≡ first_chunks 48 (length table / 48) table → I ≤ 48 →
    h < length (take H rows) → i < length (take I (get_or (take H rows) h [])) → (h < H) × (i < I) × (get_or (take I (get_or (take H rows) h [])) i 0 ≡ at_pair table h i)
row_word table {rows = rows} H I h i size e few p q =
    let low : h < H = omega (arith, length-take H rows) in
    let inside : i < I = omega (arith, length-take I (get_or (take H rows) h [])) in
    let all : length rows ≡ length table / 48 = ap length e ∙ length-rows 48 (length table / 48) table in (
      low,
      inside,
      get_or-take I _ i 0 inside ∙ ap (λ r. at r i) (get_or-take H rows h [] low) ∙ ap (λ r. at (get_or r h []) i) e
          ∙ at-row 48 (length table / 48) h i table (omega (arith, length-take H rows)) (omega arith),
    )

-- a row of a table has 48 words
length-row : (k h : ℕ) (l : List ℕ) → h < k → 48 * k ≤ length l → length (get_or (first_chunks 48 k l) h []) ≡ 48
length-row zero h l few inside = absurd (omega arith)
length-row (suc k) zero l few inside = length-take-le 48 l (omega arith)
length-row (suc k) (suc h) l few inside = length-row k h (drop 48 l) (omega arith) (omega (arith, length-drop 48 l))

-- the first n words of a row of a table, summed
pub row-sum : (table : List ℕ) {rows : List (List ℕ)} (n h : ℕ) → length table ≡ 1536 → rows ≡ first_chunks 48 (length table / 48) table → n ≤ 48 → h < 32 →
    sum_to (length (take n (get_or rows h []))) (at (take n (get_or rows h []))) ≡ sum_to n (λ i. at_pair table h i)
row-sum table {rows = rows} n h size e few low =
    let row : List ℕ = get_or rows h [] in
    let whole : length row ≡ 48 = ap (λ r. length (get_or r h [])) e ∙ length-row (length table / 48) h table (omega arith) (omega arith) in
    ap (λ k. sum_to k (at (take n row))) (length-take-le n row (omega arith))
    ∙ sum_to-same n (at (take n row)) (λ i. at_pair table h i)
    (λ i l. get_or-take n row i 0 l ∙ ap (λ r. at (get_or r h []) i) e ∙ at-row 48 (length table / 48) h i table (omega arith) (omega arith))

-- the first n words of the buffer are this closing's
pub record Writing (s first grants : List ℕ) (n : ℕ) : Type 0 where
  pub size : length grants ≡ length first
  pub written : grants ≡ fill n (word s) first

module _ (s first : List ℕ) where
  pub writing-none : (I : ℕ) → Writing s first first (0 * I)
  writing-none I = record { size = refl; written = rw (zero-mul I) (sym (fill-zero (word s) first)) }

  pub writing-row : (grants : List ℕ) (n : ℕ) → Writing s first grants n → Writing s first grants (n + 0)
  writing-row grants n w = rw (add-zero n) w

  pub writing-next : (grants table : List ℕ) (I h i x : ℕ) → Writing s first grants (h * I + i) → Grants s table → I ≡ interties s → h < holders s → i < I →
      x ≡ at_pair table h i → Writing s first (set grants (h * I + i) x) (h * I + (i + 1))
  writing-next grants table I h i x w g e p q v =
      let own : x ≡ word s (h * I + i) = v ∙ g.pairs h i p (rw (← e) q) ∙ rw (← e, holder-of I h i q, intertie-of I h i q) refl in
      let next : h * I + (i + 1) ≡ h * I + i + 1 = omega arith in
      record {
        size = length-set grants (h * I + i) x ∙ w.size;
        written = rw next (fill-turn (h * I + i) (word s) first grants x w.written own);
      }

  pub writing-rows : (grants : List ℕ) (I h i : ℕ) → Writing s first grants (h * I + i) → i ≤ I → I ≤ i → Writing s first grants ((h + 1) * I)
  writing-rows grants I h i w a b =
      let end : i ≡ I = omega arith in
      let rows : (h + 1) * I ≡ h * I + I = ap (λ k. k * I) (add-one h) ∙ suc-mul h I in
      let all : h * I + i ≡ (h + 1) * I = ap (λ k. h * I + k) end ∙ sym rows in
      rw (← all) w

  pub writing-all : (grants : List ℕ) (I H h : ℕ) → Writing s first grants (h * I) → I ≡ interties s → H ≡ holders s → h ≤ H → H ≤ h → grants ≡ close_grants s first
  unfolding close_grants
  writing-all grants I H h w e f a b =
      let end : h ≡ H = omega arith in
      let all : h * I ≡ holders s * interties s = cc in
      w.written ∙ ap (λ n. fill n (word s) first) all
