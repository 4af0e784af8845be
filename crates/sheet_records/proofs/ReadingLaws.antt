-- What reading at a place of a sheet finds, and what a reader of it gives.
use Rattle.std.proofs.Common.{◌≡◌, ℕ, ◌+◌, ◌-◌, ◌*◌, ◌/◌, ◌≤◌, ◌<◌, ◌^◌, Bool, true, false, ◌||◌, List, [], ◌∷◌, ◌++◌, length, map, rules, ltb, leb, refl, sym, ap, ◌∙◌, arith, Option, Some, None, suc, subst}
use Rattle.std.specs.List.{range_with_len}
use Rattle.std.specs.Iterator.{YieldsFirst, Yields, MakesProgress, item_count}
use Rattle.std.proofs.lemmas.List.FromFn.{length-map-range_with_len, get_or-map-range_with_len}
use lib.ListN.{length-append, get_or}
use Rattle.std.proofs.lemmas.Option.{none-some}
use Rattle.base.proofs.ChoiceLaws.{or_left}
use Rattle.std.proofs.lemmas.List.{length-map}
use Rattle.std.specs.Iterator.Adapters.{enumerate_steps, enumerate_source, enumerate_count}
use Rattle.std.specs.declared.iter.Enumerate.{Enumerate}
use lib.Seq.{get_or-append-add}
use borrow.Author.Tests.{lt-ltb, le-ltb, le-leb, lt-leb, eq-eqb, ne_eqb, leb-true, leb-false, ltb-false, ltb-true}
use Rattle.base.specs.Choice.{pick}
use Rattle.base.specs.Words.{at}
use Rattle.base.proofs.VectorLaws.{at-row}
use Rattle.std.specs.Simd.{first_chunks}
use Rattle.std.specs.Int.{from_le_bytes, w32}
use Rattle.sheet_records.specs.Sheet.{word_at, count, key_at, kw_at}
use Rattle.sheet_records.specs.Refusal.{bad_length, Whole}
use Rattle.sheet_records.specs.Reading.{record_at, read_at, records_of, record_of, read_of, records_from}
use Rattle.sheet_records.specs.declared.reader.Record.{Record}
use Rattle.sheet_records.proofs.RefusalLaws.{whole, long-enough}

-- a word of bytes fits 32 bits
pub word_below : (s : List ℕ) (b : ℕ) → ((i : ℕ) → at s i < 256) → word_at s b ≤ 4_294_967_295
unfolding word_at
word_below s b bytes = omega (arith, bytes b, bytes (b + 1), bytes (b + 2), bytes (b + 3))

-- bytes cut into words: the word that four of them say is that of their place
pub word-cut : (s : List ℕ) (rows : List (List ℕ)) (place n : ℕ) → rows ≡ first_chunks 4 (length s / 4) s → n ≡ from_le_bytes w32 (get_or rows place [])
    → 4 * place + 4 ≤ length s → n ≡ word_at s (4 * place)
unfolding word_at
word-cut s rows place n e f room =
    let here : place < length s / 4 = omega arith in
    let byte : (i : ℕ) → i < 4 → at (get_or rows place []) i ≡ at s (4 * place + i) =
    λ i l. ap (λ r. at (get_or r place []) i) e ∙ at-row 4 (length s / 4) place i s here l in
    let first : at (get_or rows place []) 0 ≡ at s (4 * place) = byte 0 (omega arith) ∙ ap (at s) (omega arith) in
    omega (arith, f, first, byte 1 (omega arith), byte 2 (omega arith), byte 3 (omega arith))

-- reading in bytes of n records: n is too large, the length is another, the place is past the last, or a record is there
module _ (s : List ℕ) (n k : ℕ) where
  pub of-many : 1024 < n → None ≡ read_of s n k
  unfolding read_of
  of-many h = simp (lt-ltb 1024 n h)

  pub of_other : n ≤ 1024 → (length s ≡ 12 + 8 * n → ⊥) → None ≡ read_of s n k
  unfolding read_of
  of_other few h = simp (le-ltb 1024 n few, ne_eqb (length s) (12 + 8 * n) h)

  module _ (few : n ≤ 1024) (exact : length s ≡ 12 + 8 * n) where
    pub of-past : n ≤ k → None ≡ read_of s n k
    unfolding read_of
    of-past h = simp (le-ltb 1024 n few, eq-eqb (length s) (12 + 8 * n) exact, le-leb n k h)

    pub of-next : (key kw : ℕ) → k < n → key ≡ word_at s (4 * (3 + k)) → kw ≡ word_at s (4 * (3 + n + k))
        → Some (record { key = key; kw = kw }) ≡ read_of s n k
    unfolding read_of
    of-next key kw h p q =
        let one : 12 + 4 * k ≡ 4 * (3 + k) = omega arith in
        let other : 12 + 4 * n + 4 * k ≡ 4 * (3 + n + k) = omega arith in
        simp (le-ltb 1024 n few, eq-eqb (length s) (12 + 8 * n) exact, lt-leb n k h, p, q, one, other)

-- what is left from a place on, where no record was found there, and where one was
nothing-left : (a b : Bool) (r : Record) (l : List Record) → pick (a || b) None (Some r) ≡ None → (b ≡ true → l ≡ []) → pick a [] l ≡ []
nothing-left true b r l e f = refl
nothing-left false true r l e f = f refl
nothing-left false false r l e f = absurd (none-some r (sym e))

one-left : (a b : Bool) (r x : Record) (l m : List Record) → pick (a || b) None (Some r) ≡ Some x → (b ≡ false → l ≡ r ∷ m)
    → (a ≡ false) × (b ≡ false) × (pick a [] l ≡ x ∷ pick a [] m)
one-left true b r x l m e f = absurd (none-some x e)
one-left false true r x l m e f = absurd (none-some x e)
one-left false false r x l m e f = let same : r ≡ x = cc in (refl, refl, f refl ∙ ap (λ y. y ∷ m) same)

module _ (s : List ℕ) (n k : ℕ) where
  pub left-none : read_of s n k ≡ None → (records_from s n k ≡ []) × (records_from s n (k + 1) ≡ [])
  unfolding read_of records_from
  left-none e = (
    nothing-left _ (leb n k) _ _ e
        (λ t. let l = leb-true n k t in let z : n - k ≡ 0 = omega arith in ap (λ m. map (record_of s n) (range_with_len k m)) z),
    nothing-left _ (leb n k) _ _ e
        (λ t. let l = leb-true n k t in let z : n - (k + 1) ≡ 0 = omega arith in ap (λ m. map (record_of s n) (range_with_len (k + 1) m)) z),
  )

  pub left-some : (x : Record) → read_of s n k ≡ Some x → (k < n) × (n ≤ 1024) × (records_from s n k ≡ x ∷ records_from s n (k + 1))
  unfolding read_of records_from
  left-some x e =
      let found = one-left _ (leb n k) _ x _ _ e
      (λ t. let l = leb-false n k t in let m : n - k ≡ suc (n - (k + 1)) = omega arith in ap (λ m. map (record_of s n) (range_with_len k m)) m) in
      (leb-false n k found.1, ltb-false 1024 n (or_left _ _ found.0), found.2)

-- a walk that finds no record has none left, and one that finds a record had it first
module _ (s : List ℕ) (n k : ℕ) (left : List Record) (view : records_from s n k ≡ left) where
  pub none_left : read_of s n k ≡ None → left ≡ []
  none_left e = sym view ∙ (left-none s n k e).0

  pub some_left : (x : Record) → read_of s n k ≡ Some x → (k < 1024) × (left ≡ x ∷ records_from s n (k + 1))
  some_left x e = let one = left-some s n k x e in (omega (arith, one.0, one.1), sym view ∙ one.2)

-- what is left after a record is fewer
pub fewer_left : {can : List Record → Type 0} (left after : List Record) (r : Option Record) → ((x : List Record) → can x) → YieldsFirst (λ (x : List Record). x) left r after
    → MakesProgress can (item_count (λ (x : List Record). x)) left r after
fewer_left left after None can e = search rules
fewer_left left after (Some x) can e = search rules

-- a reader of a whole sheet has its records left
pub left-first : (s : List ℕ) (n : ℕ) → n ≡ pick (ltb (length s) 12) 0 (count s) → records_from s n 0 ≡ records_of s
unfolding records_from records_of bad_length
left-first s n e = go (ltb (length s) 12) refl
  where
    go : (b : Bool) → ltb (length s) 12 ≡ b → records_from s n 0 ≡ records_of s
    go true t =
        let short = ltb-true (length s) 12 t in
        let none : n ≡ 0 = rw t at e in
        simp (t, le-ltb 1024 n (omega arith), ne_eqb (length s) (12 + 8 * n) (λ x. omega arith))
    go false f =
        let counts : n ≡ count s = rw f at e in
        let all : count s - 0 ≡ count s = omega arith in
        ap (λ m. records_from s m 0) counts ∙ rw (f, all) refl

-- what a loop over records has had, and what it has left, are all of them
pub had-and-left : (all had left : List Record) → Yields (YieldsFirst (λ (l : List Record). l)) all had left → all ≡ had ++ left
had-and-left all [] left y = y
had-and-left all (x ∷ had) left y = y.1 ∙ ap (λ l. x ∷ l) (had-and-left y.0 had left y.2)

-- what a record that was read says
pub record RecordRead (s : List ℕ) (k : ℕ) (r : Record) : Type 0 where
  pub inside : k < count s
  pub key-is : r.key ≡ key_at s k
  pub kw-is : r.kw ≡ kw_at s k

-- in a sheet that refusal 1 lets pass, what is read at a place is its record there, and past the last there is none
pub of-whole : (s : List ℕ) (n k : ℕ) → Whole s n → read_of s n k ≡ read_at s k
unfolding read_of read_at
of-whole s n k w = simp (w.passes, le-ltb 1024 n w.few, eq-eqb (length s) (12 + 8 * n) w.exact, ← w.records)

module _ (s : List ℕ) (k : ℕ) (passes : bad_length s ≡ false) (o : Option Record) (found : o ≡ read_at s k) where
  pub place-read : (r : Record) → o ≡ Some r → RecordRead s k r
  unfolding read_at
  place-read r e = go (leb (count s) k) refl (rw passes at (sym e ∙ found))
    where
      go : (b : Bool) → leb (count s) k ≡ b → Some r ≡ pick b None (Some (record_at s k)) → RecordRead s k r
      go true t p = absurd (none-some r (sym p))
      go false t p =
          let there : r ≡ record_at s k = cc in
          record { inside = leb-false (count s) k t; key-is = ap (λ (x : Record). x.key) there; kw-is = ap (λ (x : Record). x.kw) there }

  pub at-end : o ≡ None → count s ≤ k
  unfolding read_at
  at-end e = go (leb (count s) k) refl (rw passes at (sym e ∙ found))
    where
      go : (b : Bool) → leb (count s) k ≡ b → None ≡ pick b None (Some (record_at s k)) → count s ≤ k
      go true t p = leb-true (count s) k t
      go false t p = absurd (none-some (record_at s k) p)

-- the same of a reading in a sheet of as many records as its head says
module _ (s : List ℕ) (n k : ℕ) (passes : bad_length s ≡ false) (read : n ≡ pick (ltb (length s) 12) 0 (count s)) (o : Option Record)
    (found : o ≡ read_of s n k) where
  in-whole : o ≡ read_at s k
  in-whole = found ∙ of-whole s n k (whole s n passes (long-enough s n (count s) passes read))

  pub read_next : (r : Record) → o ≡ Some r → RecordRead s k r
  read_next = place-read s k passes o in-whole

  pub read-end : o ≡ None → count s ≤ k
  read-end = at-end s k passes o in-whole

-- a loop over the records of a sheet that refusal 1 lets pass: the next one, and the end
module _ (s : List ℕ) (passes : bad_length s ≡ false) (all had left : List Record) (begun : all ≡ records_of s)
    (by : Yields (YieldsFirst (λ (l : List Record). l)) all had left) where
  whole-list : had ++ left ≡ map (record_at s) (range_with_len 0 (count s))
  unfolding records_of
  whole-list = sym (had-and-left all had left by) ∙ begun ∙ rw passes refl

  whole-length : length had + length left ≡ count s
  whole-length = sym (length-append had left) ∙ ap length whole-list ∙ length-map-range_with_len (record_at s) 0 (count s)

  pub record-read : (r : Record) (rest : List Record) → left ≡ r ∷ rest → RecordRead s (length had) r
  record-read r rest e =
      let inside : length had < count s = omega (arith, whole-length, ap length e) in
      let there : r ≡ record_at s (length had) =
      ap (λ l. get_or l 0 r) (sym e) ∙ sym (get_or-append-add had left 0 r) ∙ ap (λ l. get_or l (length had + 0) r) whole-list
      ∙ get_or-map-range_with_len (record_at s) 0 (count s) (length had + 0) (length had) r (omega arith) (omega arith) in
      record { inside = inside; key-is = ap (λ (x : Record). x.key) there; kw-is = ap (λ (x : Record). x.kw) there }

  pub all-read : left ≡ [] → length had ≡ count s
  all-read e = omega (arith, whole-length, ap length e)

-- a loop over records and their places is one over the records
abbrev pub PlacedSteps : Enumerate (List Record) → Option (ℕ × Record) → Enumerate (List Record) → Type 0
PlacedSteps = enumerate_steps (YieldsFirst (λ (l : List Record). l))

abbrev records-had : List (ℕ × Record) → List Record
records-had = map (λ p. p.1)

places-had : (begin now : Enumerate (List Record)) (had : List (ℕ × Record)) → Yields PlacedSteps begin had now
    → Yields (YieldsFirst (λ (l : List Record). l)) (enumerate_source begin) (records-had had) (enumerate_source now) × (enumerate_count now ≡ enumerate_count begin + length had)
places-had begin now [] by = (ap enumerate_source by, let e = ap enumerate_count by in omega arith)
places-had begin now (x ∷ had) by =
    let more = places-had by.0 now had by.2 in
    ((enumerate_source by.0, by.1.0, more.0), omega (arith, more.1, by.1.2))

-- a list with one more
pub one-more : {A : Type 0} (had : List A) (x : A) → length (had ++ x ∷ []) ≡ length had + 1
one-more had x = length-append had (x ∷ [])

-- where such a loop begins
pub record Begun (s : List ℕ) (begin : Enumerate (List Record)) : Type 0 where
  pub passes : bad_length s ≡ false
  pub records : enumerate_source begin ≡ records_of s
  pub first : enumerate_count begin ≡ 0

pub begun : (s : List ℕ) (begin items : Enumerate (List Record)) (all : List Record) → bad_length s ≡ false
    → begin ≡ items → enumerate_source items ≡ all → all ≡ records_of s → enumerate_count items ≡ 0 → Begun s begin
begun s begin items all passes e r f n = record { passes = passes; records = ap enumerate_source e ∙ r ∙ f; first = ap enumerate_count e ∙ n }

module _ (s : List ℕ) (begin : Enumerate (List Record)) (b : Begun s begin) where
  -- no place is past what a number of 64 bits says
  pub places-fit : enumerate_count begin + length (enumerate_source begin) < 2 ^ 64
  places-fit =
      omega (arith, b.first, whole s (count s) b.passes refl, whole-length s b.passes (enumerate_source begin) [] (enumerate_source begin) b.records refl)

  module _ (now after : Enumerate (List Record)) (had : List (ℕ × Record)) (by : Yields PlacedSteps begin had now) where
    length-had : length (records-had had) ≡ length had
    length-had = length-map had (λ p. p.1)

    -- the next record and its place, and the end
    pub placed-read : (p : ℕ × Record) → PlacedSteps now (Some p) after → RecordRead s (length had) p.1 × (p.0 ≡ length had)
    placed-read p step =
        let r = record-read s b.passes (enumerate_source begin) (records-had had) (enumerate_source now) b.records (places-had begin now had by).0 p.1 (enumerate_source after) step.0 in
        (subst (λ n. RecordRead s n p.1) length-had r, omega (arith, (places-had begin now had by).1, step.1, b.first))

    pub all-placed : PlacedSteps now None after → length had ≡ count s
    all-placed step =
        sym length-had ∙ all-read s b.passes (enumerate_source begin) (records-had had) (enumerate_source now) b.records (places-had begin now had by).0 step.0.0

-- what `read_at` gives, by cases
pub ruleset reading = (of-many, of_other, of-past, of-next)

-- what `records` begins with
pub ruleset first = (left-first)
