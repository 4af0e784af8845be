-- What the first line and the line of a record say.
use Rattle.std.specs.Result.{IsErrAnd, result_unwrap_or}
use Prim.Native.Nat.{ℕ, ◌<◌}
use mathlib.Core.Path.{◌≡◌, refl, ap, ◌∙◌}
use mathlib.Core.List.{List, [], ◌∷◌}
use native.Mathlib.Omega.{arith}
use lib.ListN.{get_or, drop}
use Rattle.std.specs.Prelude.{Result, Ok, Err}
use Rattle.base.specs.Words.{at}
use Rattle.sheet_keys.specs.Key.{key_from}
use Rattle.sheet_records.specs.Sheet.{most_word}
use Rattle.sheet_table.specs.Fields.{within, kind_in, flaw, with_number, numbers_in, sizes_as, sizes_in, entry_as, entry_in}
use Rattle.sheet_table.specs.Workers.Steps.{entry_of}
use Rattle.sheet_table.specs.declared.faults.Fault.{Fault}
use Rattle.sheet_records.specs.declared.reader.Record.{Record}
use Rattle.sheet_table.specs.declared.fields.Flaw.{Flaw}
use Rattle.sheet_table.proofs.FieldLaws.{numbers-within}

-- the sizes
pub sizes-read : (fs : List (List ℕ)) (n : List ℕ) → Ok n ≡ numbers_in 1 (most_word ∷ most_word ∷ []) fs → Ok (record { interties = at n 0; holders = at n 1 }) ≡ sizes_in fs
unfolding sizes_in
sizes-read fs n e = ap sizes_as e

pub sizes-stop : (fs : List (List ℕ)) (first : Flaw) → Err first ≡ numbers_in 1 (most_word ∷ most_word ∷ []) fs → Err first ≡ sizes_in fs
unfolding sizes_in
sizes-stop fs first e = ap sizes_as e

-- the fields of a record after its kind
abbrev mosts : List ℕ
mosts = 63 ∷ 63 ∷ 255 ∷ 255 ∷ most_word ∷ []

module _ (kind : ℕ) (fs : List (List ℕ)) where
  pub entry-read : (n : List ℕ) (key : ℕ) → Ok n ≡ numbers_in 2 mosts fs → key ≡ key_from kind (at n 0) (at n 1) (at n 2) (at n 3) →
      Ok (record { key = key; kw = at n 4 }) ≡ entry_of kind fs
  unfolding entry_of
  entry-read n key e k = ap (λ m. Ok (record { key = m; kw = at n 4 })) k ∙ ap (λ r. entry_as (with_number 1 (Ok kind) r)) e

  pub entry-stop : (first : Flaw) → Err first ≡ numbers_in 2 mosts fs → Err first ≡ entry_of kind fs
  unfolding entry_of
  entry-stop first e = ap (λ r. entry_as (with_number 1 (Ok kind) r)) e

pub widths : (fs : List (List ℕ)) (n : List ℕ) → Ok n ≡ numbers_in 2 mosts fs → (at n 0 < 64) × (at n 1 < 64) × (at n 2 < 256) × (at n 3 < 256)
widths fs n e =
    let most = numbers-within 2 mosts n fs e in (
      omega (arith, most 0 (omega arith)),
      omega (arith, most 1 (omega arith)),
      omega (arith, most 2 (omega arith)),
      omega (arith, most 3 (omega arith)),
    )

-- a record
module _ (fs rest : List (List ℕ)) (name : List ℕ) (is : name ≡ get_or fs 0 []) (later : rest ≡ drop 1 fs) where
  abbrev after_kind : Result ℕ Fault → Result Record Flaw
  after_kind r = entry_as (with_number 1 r (numbers_in 2 mosts (drop 1 fs)))

  pub kind-read : (kind : ℕ) (r : Result Record Flaw) → Ok kind ≡ within 15 (kind_in name) → r ≡ entry_of kind rest → r ≡ entry_in fs
  unfolding entry_in entry_of
  kind-read kind r e entry =
      entry ∙ ap (entry_of kind) later ∙ ap after_kind e ∙ ap (λ t. after_kind (within 15 (kind_in t))) is

  pub kind-stop : (fault : Fault) → Err fault ≡ within 15 (kind_in name) → Err (flaw 1 fault) ≡ entry_in fs
  unfolding entry_in
  kind-stop fault e = ap after_kind e ∙ ap (λ t. after_kind (within 15 (kind_in t))) is

-- a number whose fault is put in a column
abbrev pub in_column : ℕ → Result ℕ Fault → Result ℕ Flaw
in_column column (Ok n) = Ok n
in_column column (Err fault) = Err (flaw column fault)

abbrev is_number : Result ℕ Flaw → ℕ
is_number (Ok n) = 1
is_number (Err first) = 0

pub same-number : (column n : ℕ) (r : Result ℕ Fault) → Ok n ≡ in_column column r → Ok n ≡ r
same-number column n (Ok m) e = ap (λ (o : Result ℕ Flaw). Ok (result_unwrap_or o 0)) e
same-number column n (Err fault) e = absurd (omega (arith, ap is_number e))

abbrev flaw_or : Flaw → Result ℕ Flaw → Flaw
flaw_or other (Ok n) = other
flaw_or other (Err first) = first

pub fault-in : (column : ℕ) (first : Flaw) (r : Result ℕ Fault) → Err first ≡ in_column column r → (fault : Fault) × (Err fault ≡ r) × (first ≡ flaw column fault)
fault-in column first (Ok m) e = absurd (omega (arith, ap is_number e))
fault-in column first (Err fault) e = (fault, refl, ap (flaw_or first) e)

-- a fault that `?` hands on
pub handed-fault : {A E : Type 0} (r : Result A E) (e : E) → IsErrAnd r (λ x. x ≡ e) → r ≡ Err e
handed-fault (Ok x) e same = absurd same
handed-fault (Err x) e same = ap Err same
