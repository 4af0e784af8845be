-- What the line that was written of a record reads as.
use Prim.Native.Nat.{ℕ, suc, ◌≤◌, ◌<◌}
use mathlib.Core.Path.{◌≡◌, refl, sym, ap, ◌∙◌}
use mathlib.Core.Logic.{◌≢◌, ⊎_elim}
use mathlib.Core.List.{List, [], ◌∷◌, map}
use native.Mathlib.Nat.{not-suc-le-zero}
use native.Mathlib.Omega.{arith}
use lib.ListN.{length, length-append}
use borrow.Author.Tests.{le-ltb}
use Rattle.base.proofs.SumLaws.{below_suc}
use Rattle.text.specs.Pieces.{fields}
use Rattle.text.specs.Decimal.{all_digits, value, decimal, decimal_to, number_of}
use Rattle.text.specs.Lines.{figure, figures_of}
use Rattle.std.specs.Prelude.{Ok, Some}
use Rattle.text.proofs.ReadLaws.{read_back}
use Rattle.sheet_keys.specs.Key.{kind_of, holder_of, intertie_of, rank_of, years_of, key_from}
use Rattle.sheet_keys.proofs.KeyLaws.{same_key}
use Rattle.text.specs.Ascii.{same}
use Rattle.sheet_table.specs.Kinds.{name_of, named}
use Rattle.sheet_records.specs.Sheet.{most_word}
use Rattle.sheet_table.specs.Fields.{comma, within, kind_in, with_number, numbers_in, sizes_in, entry_in}
use Rattle.sheet_table.specs.Lines.{bare, entry_of}
use Rattle.sheet_table.proofs.ReadingLaws.{line-says}
use Rattle.sheet_table.specs.Table.{label_of}
use Rattle.sheet_table.proofs.SplitLaws.{label-without, body, body-bare, body-fields}

-- what holds of each kind holds of all 16
below-16 : (P : ℕ → Type 0) → P 0 → P 1 → P 2 → P 3 → P 4 → P 5 → P 6 → P 7 → P 8 → P 9 → P 10 → P 11 → P 12 → P 13 → P 14 → P 15 →
    (k : ℕ) → k < 16 → P k
below-16 P a0 a1 a2 a3 a4 a5 a6 a7 a8 a9 a10 a11 a12 a13 a14 a15 k h =
    top 15 a15 (top 14 a14 (top 13 a13 (top 12 a12 (top 11 a11 (top 10 a10 (top 9 a9 (top 8 a8
    (top 7 a7 (top 6 a6 (top 5 a5 (top 4 a4 (top 3 a3 (top 2 a2 (top 1 a1 (top 0 a0 (λ k l. absurd (not-suc-le-zero l))))))))))))))))) k h
  where
    top : (n : ℕ) → P n → ((k : ℕ) → k < n → P k) → (k : ℕ) → k < suc n → P k
    top n a below k h = ⊎_elim (λ (e : k ≡ n). rw e a) (λ (l : k < n). below k l) (below_suc h)

-- a kind is read back from its name or its number
pub label-back : (kind : ℕ) → kind < 16 → kind_in (label_of kind) ≡ Ok kind
unfolding label_of name_of kind_in named same decimal_to number_of all_digits value
label-back kind low =
    below-16 (λ (k : ℕ). kind_in (label_of k) ≡ Ok k)
    refl refl refl refl refl refl refl refl refl refl refl refl refl refl refl refl kind low

-- numbers within their fields
within-back : (most n : ℕ) → n ≤ most → most ≤ most_word → within most (number_of (decimal n)) ≡ Ok n
within-back most n small fits = ap (within most) (read_back n (omega arith)) ∙ rw (le-ltb most n small) refl

number-back : (column most n : ℕ) (mosts : List ℕ) (fs : List (List ℕ)) → n ≤ most → most ≤ most_word →
    numbers_in column (most ∷ mosts) (decimal n ∷ fs) ≡ with_number column (Ok n) (numbers_in (suc column) mosts fs)
unfolding numbers_in
number-back column most n mosts fs small fits = ap (λ r. with_number column r (numbers_in (suc column) mosts fs)) (within-back most n small fits)

no_fields : (column : ℕ) → numbers_in column [] [] ≡ Ok []
unfolding numbers_in
no_fields column = refl

-- the sizes
module _ (I H : ℕ) (i : I ≤ most_word) (h : H ≤ most_word) where
  abbrev sizes : List (List ℕ)
  sizes = decimal I ∷ map decimal (H ∷ [])

  pub sizes-back : sizes_in sizes ≡ Ok (record { interties = I; holders = H })
  unfolding sizes_in
  sizes-back = rw (number-back 1 most_word I (most_word ∷ []) (map decimal (H ∷ [])) i (omega arith), number-back 2 most_word H [] [] h (omega arith), no_fields 3) refl

-- a record's figures, its fields, and its line without the end
abbrev numbers : ℕ → ℕ → List ℕ
numbers key kw = holder_of key ∷ intertie_of key ∷ rank_of key ∷ years_of key ∷ kw ∷ []

abbrev row : ℕ → ℕ → List (List ℕ)
row key kw = label_of (kind_of key) ∷ map decimal (numbers key kw)

abbrev pub row_text : ℕ → ℕ → List ℕ
row_text key kw = body (label_of (kind_of key)) (numbers key kw)

module _ (key kw : ℕ) (k : key ≤ most_word) (q : kw ≤ most_word) where
  kind-back : kind_in (label_of (kind_of key)) ≡ Ok (kind_of key)
  kind-back = label-back (kind_of key) (omega arith)

  pub row-back : entry_in (row key kw) ≡ Ok (record { key = key; kw = kw })
  unfolding entry_in
  row-back =
      let kind : within 15 (kind_in (label_of (kind_of key))) ≡ Ok (kind_of key) = ap (within 15) kind-back ∙ rw (le-ltb 15 (kind_of key) (omega arith)) refl in
      let same : Ok (record { key = key_from (kind_of key) (holder_of key) (intertie_of key) (rank_of key) (years_of key); kw = kw }) ≡ Ok (record { key = key; kw = kw }) = rw (same_key key) refl in
      rw (
        kind,
        number-back 2 63 (holder_of key) (63 ∷ 255 ∷ 255 ∷ most_word ∷ []) (map decimal (intertie_of key ∷ rank_of key ∷ years_of key ∷ kw ∷ [])) (omega arith) (omega arith),
        number-back 3 63 (intertie_of key) (255 ∷ 255 ∷ most_word ∷ []) (map decimal (rank_of key ∷ years_of key ∷ kw ∷ [])) (omega arith) (omega arith),
        number-back 4 255 (rank_of key) (255 ∷ most_word ∷ []) (map decimal (years_of key ∷ kw ∷ [])) (omega arith) (omega arith),
        number-back 5 255 (years_of key) (most_word ∷ []) (map decimal (kw ∷ [])) (omega arith) (omega arith),
        number-back 6 most_word kw [] [] q (omega arith),
        no_fields 7,
      ) same

  pub text-fields : fields comma (row_text key kw) ≡ row key kw
  text-fields = body-fields (label_of (kind_of key)) (numbers key kw) (λ separator low. label-without separator (kind_of key) low)

  pub text-bare : bare (row_text key kw) ≡ row_text key kw
  text-bare = body-bare (label_of (kind_of key)) (numbers key kw) (λ separator low. label-without separator (kind_of key) low)

  pub text-some : length (row_text key kw) ≢ 0
  unfolding figures_of figure
  text-some z = absurd (omega (arith, length-append (label_of (kind_of key)) (figures_of comma (numbers key kw))))

  pub text-read : (number n : ℕ) → n < 1024 → entry_of number n (row_text key kw) ≡ Ok (Some (record { key = key; kw = kw }))
  text-read number n few =
      sym (line-says number n (row_text key kw) text-some few (Ok (record { key = key; kw = kw })) (sym (ap entry_in text-fields ∙ row-back)))
