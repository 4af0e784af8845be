-- What converting a text gives, by where the reading stopped.
use Prim.Native.Nat.{ℕ, ◌≤◌}
use mathlib.Core.Path.{◌≡◌, refl, sym, ap, ◌∙◌}
use mathlib.Core.List.{List, [], ◌∷◌, map}
use native.Mathlib.Omega.{arith}
use lib.ListN.{length, take, drop, get_or}
use lib.Seq.{take_all, take-append-le}
use Rattle.std.specs.Prelude.{Result, Ok, Err}
use Rattle.text.specs.Pieces.{fields}
use Rattle.text.specs.Lines.{line_end}
use Rattle.std.specs.Prelude.{Option}
use Rattle.std.specs.Option.{unwrap_or}
use Rattle.sheet_records.specs.Bytes.{sheet_bytes, SheetWritten}
use Rattle.sheet_records.proofs.BytesLaws.{sheet-length, written-whole}
use Rattle.sheet_table.specs.Fields.{comma, sizes_in}
use Rattle.sheet_table.specs.Lines.{bare, lines_of, sizes_on, entries_of, first_fields, later_lines, sheet_with, sheet_of}
use Rattle.sheet_table.specs.Workers.Steps.{records, records_read}
use Rattle.std.specs.Result.{IsErrAnd, result_map_both}
use Rattle.sheet_table.specs.declared.lines.Records.{Records}
use Rattle.sheet_table.specs.declared.faults.Unreadable.{Unreadable}
use Rattle.sheet_table.specs.declared.fields.Sizes.{Sizes}
use Rattle.sheet_table.proofs.ReadingLaws.{keys-of, kws-of}

-- what is written of a sheet into room for the longest, cut to its length
sheet-put : (I H : ℕ) (keys kws l m : List ℕ) (o : Option ℕ) (r : ℕ) → length keys ≤ 1024 → length kws ≡ length keys → length l ≡ 8204 → SheetWritten I H keys kws l o m →
    r ≡ unwrap_or o 0 → take r m ≡ sheet_bytes I H keys kws
sheet-put I H keys kws l m o r few even room wrote e =
    let written = written-whole I H keys kws l few even (omega (arith)) o m wrote in
    let bytes : List ℕ = sheet_bytes I H keys kws in
    let size : r ≡ length bytes = e ∙ ap (λ x. unwrap_or x 0) written.0 ∙ sym (sheet-length I H keys kws even) in
    ap (take r) written.1
    ∙ take-append-le r bytes (drop (length bytes) l) (omega (arith, size))
    ∙ take_all r bytes (omega (arith, size))

first-bare : (lines : List (List ℕ)) → get_or (map bare lines) 0 [] ≡ bare (get_or lines 0 [])
first-bare [] = refl
first-bare (line ∷ lines) = refl

later-bare : (lines : List (List ℕ)) → drop 1 (map bare lines) ≡ map bare (drop 1 lines)
later-bare [] = refl
later-bare (line ∷ lines) = refl

module _ (text first : List ℕ) (past : List (List ℕ)) (is : first ≡ get_or (fields line_end text) 0 []) (rest : past ≡ drop 1 (fields line_end text))
    (sizes : Result Sizes Unreadable) (s : sizes ≡ sizes_on (sizes_in (fields comma (bare first)))) where
  sizes-are : sizes ≡ sizes_on (sizes_in (first_fields text))
  unfolding lines_of
  sizes-are = s ∙ ap (λ l. sizes_on (sizes_in (fields comma l))) (ap bare is ∙ sym (first-bare (fields line_end text)))

  later-are : map bare past ≡ later_lines text
  unfolding lines_of
  later-are = ap (map bare) rest ∙ sym (later-bare (fields line_end text))

  says : sheet_of text ≡ sheet_with sizes (entries_of 2 0 (map bare past))
  unfolding sheet_of
  says = sym (ap (λ z. sheet_with z (entries_of 2 0 (map bare past))) sizes-are ∙ ap (λ l. sheet_with (sizes_on (sizes_in (first_fields text))) (entries_of 2 0 l)) later-are)

  pub first_stops : (unreadable : Unreadable) → sizes ≡ Err unreadable → Err unreadable ≡ sheet_of text
  first_stops unreadable e = sym (says ∙ ap (λ z. sheet_with z (entries_of 2 0 (map bare past))) e)

  module _ (z : Sizes) (good : sizes ≡ Ok z) (read : Result Records Unreadable) (all : records_read read ≡ entries_of 2 0 (map bare past)) where
    sheet : sheet_of text ≡ sheet_with (Ok z) (records_read read)
    sheet = says ∙ ap (λ x. sheet_with x (entries_of 2 0 (map bare past))) good ∙ ap (sheet_with (Ok z)) (sym all)

    pub line-stops : (unreadable : Unreadable) → read ≡ Err unreadable → Err unreadable ≡ sheet_of text
    line-stops unreadable e = sym (sheet ∙ ap (λ r. sheet_with (Ok z) (records_read r)) e)

    pub text-converts : (r : Records) (l m n : List ℕ) (o : Option ℕ) (count : ℕ) → read ≡ Ok r → length r.keys.items ≤ 1024 → length r.kws.items ≡ length r.keys.items → length l ≡ 8204 →
        SheetWritten z.interties z.holders r.keys.items r.kws.items l o m → count ≡ unwrap_or o 0 → n ≡ take count m → Ok n ≡ sheet_of text
    text-converts r l m n o count e few even room wrote u cut =
        let whole : sheet_of text ≡ Ok (sheet_bytes z.interties z.holders r.keys.items r.kws.items) =
        sheet
        ∙ ap (λ x. sheet_with (Ok z) (records_read x)) e
        ∙ ap (λ t. Ok (sheet_bytes z.interties z.holders t (map (λ x. x.kw) (records r.keys.items r.kws.items)))) (keys-of r.keys.items r.kws.items even)
        ∙ ap (λ t. Ok (sheet_bytes z.interties z.holders r.keys.items t)) (kws-of r.keys.items r.kws.items even) in
        ap Ok (cut ∙ sheet-put z.interties z.holders r.keys.items r.kws.items l m o count few even room wrote u) ∙ sym whole

-- a fault that `?` hands on
pub faulty-answer : {A B : Type 0} (f : A → B) (r : Result A Unreadable) (e : Unreadable) (whole : Result B Unreadable) → IsErrAnd r (λ x. x ≡ e) → Err e ≡ whole →
    result_map_both f (λ unreadable. unreadable) r ≡ whole
faulty-answer f (Ok x) e whole same done = absurd same
faulty-answer f (Err x) e whole same done = ap Err same ∙ done
