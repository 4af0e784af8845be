-- A text read line by line.
use Prim.Native.Nat.{ℕ, suc, ◌+◌, ◌≤◌, ◌<◌}
use mathlib.Core.Path.{◌≡◌, refl, sym, ap, ◌∙◌}
use mathlib.Core.Logic.{◌≢◌}
use mathlib.Core.List.{List, [], ◌∷◌, ◌++◌, map, append_assoc, append-nil}
use native.Mathlib.Omega.{arith}
use lib.Dec.{leb, eqb}
use lib.ListN.{length, length-append}
use borrow.Author.Tests.{eq-eqb, ne_eqb, le-leb, lt-leb, leb-false}
use Rattle.std.specs.Prelude.{Option, Some, None, Result, Ok, Err, IfOk}
use Rattle.std.specs.Result.{IsErrAnd}
use Rattle.text.specs.Pieces.{fields}
use Rattle.text.proofs.PieceLaws.{by-test}
use Rattle.sheet_table.specs.Fields.{comma, entry_in}
use Rattle.sheet_table.specs.Lines.{bare, entry_on, entry_of, with_entry, past_line, entries_of}
use Rattle.sheet_table.specs.Workers.Steps.{records, records_read}
use Rattle.sheet_table.specs.declared.faults.Fault.TheVariants.{TooManyRecords}
use Rattle.sheet_table.specs.declared.faults.Unreadable.{Unreadable}
use Rattle.sheet_records.specs.declared.reader.Record.{Record}
use Rattle.sheet_table.specs.declared.fields.Flaw.{Flaw}
use Rattle.sheet_table.specs.declared.lines.Records.{Records}

-- what a line says, by cases
module _ (number count : ℕ) (line : List ℕ) where
  pub line-empty : length line ≡ 0 → Ok None ≡ entry_of number count line
  unfolding entry_of
  line-empty none = rw (eq-eqb (length line) 0 none) refl

  module _ (some : length line ≢ 0) where
    pub line-over : 1024 ≤ count → Err (record { line = number; column = 1; fault = TooManyRecords }) ≡ entry_of number count line
    unfolding entry_of
    line-over many = rw (ne_eqb (length line) 0 some, le-leb 1024 count many) refl

    pub line-says : count < 1024 → (said : Result Record Flaw) → said ≡ entry_in (fields comma line) → entry_on number said ≡ entry_of number count line
    unfolding entry_of
    line-says room said is = ap (entry_on number) is ∙ rw (ne_eqb (length line) 0 some, lt-leb 1024 count room) refl

  -- a line with a record has room for it
  pub line-room : (entry : Record) → Ok (Some entry) ≡ entry_of number count line → count < 1024
  unfolding entry_of
  line-room entry e =
      by-test (eqb (length line) 0)
      (λ t. let wrong : Ok (Some entry) ≡ Ok None = e ∙ rw t refl in absurd (omega (arith, ap filled wrong)))
      (λ f.
      by-test (leb 1024 count)
      (λ t. let wrong : Ok (Some entry) ≡ Err (record { line = number; column = 1; fault = TooManyRecords }) = e ∙ rw (f, t) refl in absurd (omega (arith, ap filled wrong)))
      (λ g. leb-false 1024 count g))
    where
      filled : Result (Option Record) Unreadable → ℕ
      filled (Ok (Some e)) = 1
      filled (Ok None) = 0
      filled (Err u) = 0

-- records that were read, before those that a later reading gives
abbrev pub before : List Record → Result (List Record) Unreadable → Result (List Record) Unreadable
before front (Ok entries) = Ok (front ++ entries)
before front (Err unreadable) = Err unreadable

pub before-entry : (front : List Record) (entry : Record) (later : Result (List Record) Unreadable) → before front (with_entry entry later) ≡ before (front ++ (entry ∷ [])) later
before-entry front entry (Ok entries) = ap Ok (sym (append_assoc front (entry ∷ []) entries))
before-entry front entry (Err unreadable) = refl

pub before-none : (later : Result (List Record) Unreadable) → later ≡ before [] later
before-none (Ok entries) = refl
before-none (Err unreadable) = refl

-- the records of lines, line by line
pub entries-cons : (number count : ℕ) (line : List ℕ) (lines : List (List ℕ)) →
    entries_of number count (line ∷ lines) ≡ past_line (entry_of number count line) (entries_of (suc number) count lines) (entries_of (suc number) (suc count) lines)
unfolding entries_of
entries-cons number count line lines = refl

pub entries-end : (number count : ℕ) → entries_of number count [] ≡ Ok []
unfolding entries_of
entries-end number count = refl

-- the records of two lists
records_next : (entry : Record) (keys kws : List ℕ) → length kws ≡ length keys → records (keys ++ (entry.key ∷ [])) (kws ++ (entry.kw ∷ [])) ≡ records keys kws ++ (entry ∷ [])
unfolding records
records_next entry [] [] e = refl
records_next entry [] (q ∷ kws) e = absurd (omega arith)
records_next entry (k ∷ keys) [] e = absurd (omega arith)
records_next entry (k ∷ keys) (q ∷ kws) e = ap (λ (l : List Record). record { key = k; kw = q } ∷ l) (records_next entry keys kws (omega arith))

records_none : records [] [] ≡ []
unfolding records
records_none = refl

pub keys-of : (keys kws : List ℕ) → length kws ≡ length keys → map (λ e. e.key) (records keys kws) ≡ keys
unfolding records
keys-of [] kws e = refl
keys-of (k ∷ keys) [] e = absurd (omega arith)
keys-of (k ∷ keys) (q ∷ kws) e = ap (λ (l : List ℕ). k ∷ l) (keys-of keys kws (omega arith))

pub kws-of : (keys kws : List ℕ) → length kws ≡ length keys → map (λ e. e.kw) (records keys kws) ≡ kws
unfolding records
kws-of [] [] e = refl
kws-of [] (q ∷ kws) e = absurd (omega arith)
kws-of (k ∷ keys) [] e = absurd (omega arith)
kws-of (k ∷ keys) (q ∷ kws) e = ap (λ (l : List ℕ). q ∷ l) (kws-of keys kws (omega arith))

pub map-append : {A B : Type 0} (f : A → B) (a b : List A) → map f (a ++ b) ≡ map f a ++ map f b
map-append f [] b = refl
map-append f (x ∷ a) b = ap (λ l. f x ∷ l) (map-append f a b)

-- the loop that reads lines: what is left of them decides
pub lines_begin : (lines left : List (List ℕ)) (place : ℕ) → place ≡ 0 → left ≡ lines → entries_of 2 0 (map bare lines) ≡ before (records [] []) (entries_of (place + 2) 0 (map bare left))
lines_begin lines left place none same =
    before-none (entries_of 2 0 (map bare lines))
    ∙ ap (λ l. before l (entries_of 2 0 (map bare lines))) (sym records_none)
    ∙ ap (λ n. before (records [] []) (entries_of (n + 2) 0 (map bare lines))) (sym none)
    ∙ ap (λ l. before (records [] []) (entries_of (place + 2) 0 (map bare l))) (sym same)

module _ (place count : ℕ) (keys kws : List ℕ) (left : List (List ℕ)) (whole : Result (List Record) Unreadable)
    (so_far : whole ≡ before (records keys kws) (entries_of (place + 2) count (map bare left))) where
  module _ (line : List ℕ) (others : List (List ℕ)) (are : left ≡ line ∷ others) (said : Result (Option Record) Unreadable) (is : said ≡ entry_of (place + 2) count (bare line)) where
    here : whole ≡ before (records keys kws) (past_line said (entries_of (suc (place + 2)) count (map bare others)) (entries_of (suc (place + 2)) (suc count) (map bare others)))
    here =
        so_far
        ∙ ap (λ l. before (records keys kws) (entries_of (place + 2) count (map bare l))) are
        ∙ ap (before (records keys kws)) (entries-cons (place + 2) count (bare line) (map bare others))
        ∙ ap (λ o. before (records keys kws) (past_line o (entries_of (suc (place + 2)) count (map bare others)) (entries_of (suc (place + 2)) (suc count) (map bare others)))) (sym is)

    next : suc (place + 2) ≡ place + 1 + 2
    next = omega arith

    pub lines-stop : (unreadable : Unreadable) → said ≡ Err unreadable → Err unreadable ≡ whole
    lines-stop unreadable e =
        sym (here ∙ ap (λ o. before (records keys kws) (past_line o (entries_of (suc (place + 2)) count (map bare others)) (entries_of (suc (place + 2)) (suc count) (map bare others)))) e)

    pub lines-skip : said ≡ Ok None → whole ≡ before (records keys kws) (entries_of (place + 1 + 2) count (map bare others))
    lines-skip e =
        here
        ∙ ap (λ o. before (records keys kws) (past_line o (entries_of (suc (place + 2)) count (map bare others)) (entries_of (suc (place + 2)) (suc count) (map bare others)))) e
        ∙ ap (λ n. before (records keys kws) (entries_of n count (map bare others))) next

    pub lines-take : (entry : Record) → said ≡ Ok (Some entry) → count ≡ length keys → length kws ≡ length keys → (ks qs : List ℕ) → ks ≡ keys ++ (entry.key ∷ []) → qs ≡ kws ++ (entry.kw ∷ []) →
        whole ≡ before (records ks qs) (entries_of (place + 1 + 2) (length ks) (map bare others))
    lines-take entry e size even ks qs k q =
        let more : suc count ≡ length ks = omega (arith, ap length k, length-append keys (entry.key ∷ [])) in
        here
        ∙ ap (λ o. before (records keys kws) (past_line o (entries_of (suc (place + 2)) count (map bare others)) (entries_of (suc (place + 2)) (suc count) (map bare others)))) e
        ∙ before-entry (records keys kws) entry (entries_of (suc (place + 2)) (suc count) (map bare others))
        ∙ ap (λ l. before l (entries_of (suc (place + 2)) (suc count) (map bare others))) (sym (records_next entry keys kws even) ∙ ap (λ l. records l (kws ++ (entry.kw ∷ []))) (sym k) ∙ ap (records ks) (sym q))
        ∙ ap (λ n. before (records ks qs) (entries_of n (suc count) (map bare others))) next
        ∙ ap (λ n. before (records ks qs) (entries_of (place + 1 + 2) n (map bare others))) more

  pub lines-end : left ≡ [] → Ok (records keys kws) ≡ whole
  lines-end none =
      sym
      (so_far
      ∙ ap (λ l. before (records keys kws) (entries_of (place + 2) count (map bare l))) none
      ∙ ap (before (records keys kws)) (entries-end (place + 2) count)
      ∙ ap Ok (append-nil (records keys kws)))

-- a fault that `?` hands on
pub lines-stopped : (r : Result Records Unreadable) (unreadable : Unreadable) (whole : Result (List Record) Unreadable) → IsErrAnd r (λ x. x ≡ unreadable) → Err unreadable ≡ whole →
    (records_read r ≡ whole) × IfOk r (λ read. length read.kws.items ≡ length read.keys.items)
lines-stopped (Ok x) unreadable whole same done = absurd same
lines-stopped (Err x) unreadable whole same done = (ap Err same ∙ done, tt)
