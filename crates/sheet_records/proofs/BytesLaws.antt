-- The bytes of words and of a sheet: how they are written one after the other, and that reading them gives the words again.
use Prim.Native.Nat.{ℕ, zero, suc, ◌+◌, ◌*◌, ◌/◌, ◌%◌, ◌≤◌, ◌<◌}
use mathlib.Core.Path.{◌≡◌, refl, sym, ap, ◌∙◌}
use mathlib.Core.List.{List, [], ◌∷◌, ◌++◌}
use Rattle.std.proofs.Common.{append_assoc}
use Rattle.std.proofs.lemmas.List.{drop-drop}
use native.Mathlib.Nat.{mod-eq_of_lt, div-add-mod, div-div-eq-div-mul, not-suc-le-zero, le_of_suc-le-suc}
use native.Mathlib.Numerals.{add-one}
use native.Mathlib.Omega.{arith}
use Rattle.std.specs.Prelude.{Option, Some, None}
use lib.ListN.{length, length-append, take, drop, get_or-append}
use lib.Seq.{sets, sets-eq, take-suc, length-take-le, get_or-append-add}
use borrow.Author.Tests.{le-leb, lt-leb, eq-eqb, ne_eqb}
use Rattle.base.specs.Words.{at}
use Rattle.base.proofs.WordLaws.{sets_more}
use Rattle.sheet_records.specs.Sheet.{most_word, size_of, word_at, interties, holders, count, key_at, kw_at}
use Rattle.sheet_records.specs.Bytes.{word_bytes, bytes_of, sheet_bytes, with_sheet, SheetWritten}

pub length-bytes : (words : List ℕ) → length (bytes_of words) ≡ 4 * length words
unfolding bytes_of
length-bytes [] = refl
length-bytes (w ∷ words) = omega (arith, length-bytes words)

pub bytes-append : (a b : List ℕ) → bytes_of (a ++ b) ≡ bytes_of a ++ bytes_of b
unfolding bytes_of
bytes-append [] b = refl
bytes-append (w ∷ a) b = ap (λ (l : List ℕ). word_bytes w ++ l) (bytes-append a b)

pub bytes_one : (w : ℕ) → bytes_of (w ∷ []) ≡ word_bytes w
unfolding bytes_of
bytes_one w = refl

-- the bytes of a word copied over as many
pub word-copied : (w from n : ℕ) (l : List ℕ) → from + 4 ≤ length l → n ≡ 4 → take from l ++ (word_bytes w ++ drop n (drop from l)) ≡ sets l from (word_bytes w)
word-copied w from n l room e =
    ap (λ (m : ℕ). take from l ++ (word_bytes w ++ drop m (drop from l))) e
    ∙ ap (λ (t : List ℕ). take from l ++ (word_bytes w ++ t)) (drop-drop 4 from l)
    ∙ sym (append_assoc (take from l) (word_bytes w) (drop (from + 4) l))
    ∙ sym (sets-eq (word_bytes w) l from room)

-- a loop that stores words: before the first turn, and a turn
pub words-none : (from : ℕ) (words l : List ℕ) → l ≡ sets l from (bytes_of (take 0 words))
unfolding bytes_of
words-none from words l = refl

pub words-turn : (place k : ℕ) (words l m n : List ℕ) → k < length words →
    m ≡ sets l (4 * place) (bytes_of (take k words)) → n ≡ sets m (4 * (place + k)) (word_bytes (at words k)) → n ≡ sets l (4 * place) (bytes_of (take (k + 1) words))
words-turn place k words l m n inside first second =
    let from : ℕ = 4 * place in
    let size : 4 * (place + k) ≡ from + length (bytes_of (take k words)) = omega (arith, length-bytes (take k words), length-take-le k words (omega arith)) in
    second
    ∙ ap (λ (b : ℕ). sets m b (word_bytes (at words k))) size
    ∙ ap (λ (t : List ℕ). sets t (from + length (bytes_of (take k words))) (word_bytes (at words k))) first
    ∙ sets_more from (bytes_of (take k words)) (word_bytes (at words k)) l
    ∙ ap (sets l from)
    (sym
    (ap (λ (j : ℕ). bytes_of (take j words)) (add-one k)
    ∙ ap bytes_of (take-suc words k 0 inside)
    ∙ bytes-append (take k words) (at words k ∷ [])
    ∙ ap (λ (t : List ℕ). bytes_of (take k words) ++ t) (bytes_one (at words k))))

-- the parts of a sheet, stored one after the other
pub sheet-stored : (I H n : ℕ) (keys kws l a b d e m : List ℕ) → n ≡ length keys →
    a ≡ sets l 0 (word_bytes I) → b ≡ sets a 4 (word_bytes H) → d ≡ sets b 8 (word_bytes n) →
    e ≡ sets d 12 (bytes_of keys) → m ≡ sets e (4 * (3 + n)) (bytes_of kws) → m ≡ sets l 0 (sheet_bytes I H keys kws)
unfolding sheet_bytes bytes_of
sheet-stored I H n keys kws l a b d e m en ea eb ed ee em =
    let words : List ℕ = word_bytes I ++ word_bytes H ++ word_bytes n in
    let header : d ≡ sets l 0 words = rw (ed, eb, ea) refl in
    let size : 4 * (3 + n) ≡ 0 + length (words ++ bytes_of keys) = omega (arith, length-bytes keys) in
    let front : e ≡ sets l 0 (words ++ bytes_of keys) = ee ∙ ap (λ (t : List ℕ). sets t 12 (bytes_of keys)) header ∙ sets_more 0 words (bytes_of keys) l in
    em
    ∙ ap (λ (k : ℕ). sets e k (bytes_of kws)) size
    ∙ ap (λ (t : List ℕ). sets t (0 + length (words ++ bytes_of keys)) (bytes_of kws)) front
    ∙ sets_more 0 (words ++ bytes_of keys) (bytes_of kws) l
    ∙ ap (λ (k : ℕ). sets l 0 (word_bytes I ++ word_bytes H ++ word_bytes k ++ bytes_of keys ++ bytes_of kws)) en
    ∙ ap (λ (t : List ℕ). sets l 0 (word_bytes I ++ (word_bytes H ++ (word_bytes (length keys) ++ t)))) (sym (bytes-append keys kws))

pub sheet-length : (I H : ℕ) (keys kws : List ℕ) → length kws ≡ length keys → length (sheet_bytes I H keys kws) ≡ size_of (length keys)
unfolding sheet_bytes
sheet-length I H keys kws even = omega (arith, length-bytes (I ∷ H ∷ length keys ∷ keys ++ kws), length-append keys kws)

-- what writing leaves: nothing for each of three reasons, or the sheet
module _ (I H : ℕ) (keys kws l : List ℕ) where
  pub too_many : 1024 < length keys → SheetWritten I H keys kws l None l
  too_many many = record { answer = rw (lt-leb (length keys) 1024 many) refl; memory = rw (lt-leb (length keys) 1024 many) refl }

  pub uneven : (length kws ≡ length keys → ⊥) → length keys ≤ 1024 → SheetWritten I H keys kws l None l
  uneven ne few =
      record {
        answer = rw (le-leb (length keys) 1024 few, ne_eqb (length kws) (length keys) ne) refl;
        memory = rw (le-leb (length keys) 1024 few, ne_eqb (length kws) (length keys) ne) refl;
      }

  module _ (few : length keys ≤ 1024) (even : length kws ≡ length keys) where
    pub no_room : length l < size_of (length keys) → SheetWritten I H keys kws l None l
    no_room short =
        record {
          answer = rw (le-leb (length keys) 1024 few, eq-eqb (length kws) (length keys) even, lt-leb (size_of (length keys)) (length l) short) refl;
          memory = rw (le-leb (length keys) 1024 few, eq-eqb (length kws) (length keys) even, lt-leb (size_of (length keys)) (length l) short) refl;
        }

    module _ (room : size_of (length keys) ≤ length l) where
      pub sheet-written : (size : ℕ) (m : List ℕ) → size ≡ size_of (length keys) → m ≡ sets l 0 (sheet_bytes I H keys kws) → SheetWritten I H keys kws l (Some size) m
      sheet-written size m es em =
          record {
            answer = rw (le-leb (length keys) 1024 few, eq-eqb (length kws) (length keys) even, le-leb (size_of (length keys)) (length l) room) (ap Some es);
            memory =
                rw (le-leb (length keys) 1024 few, eq-eqb (length kws) (length keys) even, le-leb (size_of (length keys)) (length l) room)
                (let none : 0 + length (sheet_bytes I H keys kws) ≡ length (sheet_bytes I H keys kws) = omega arith in
                em ∙ sets-eq (sheet_bytes I H keys kws) l 0 (omega (arith, sheet-length I H keys kws even)) ∙ ap (λ (n : ℕ). sheet_bytes I H keys kws ++ drop n l) none);
          }

      -- a sheet that fits is written
      pub written-whole : (size : Option ℕ) (m : List ℕ) → SheetWritten I H keys kws l size m → (size ≡ Some (size_of (length keys))) × (m ≡ with_sheet (sheet_bytes I H keys kws) l)
      written-whole size m w = (
        rw (le-leb (length keys) 1024 few, eq-eqb (length kws) (length keys) even, le-leb (size_of (length keys)) (length l) room) at w.answer,
        rw (le-leb (length keys) 1024 few, eq-eqb (length kws) (length keys) even, le-leb (size_of (length keys)) (length l) room) at w.memory,
      )

-- four bytes make their word
bytes_word : (x : ℕ) → x ≤ most_word → x % 256 + 256 * (x / 256 % 256) + 65_536 * (x / 65_536 % 256) + 16_777_216 * (x / 16_777_216 % 256) ≡ x
bytes_word x small =
    let two : x / 256 / 256 ≡ x / 65_536 = div-div-eq-div-mul x 256 256 in
    let three : x / 65_536 / 256 ≡ x / 16_777_216 = div-div-eq-div-mul x 65_536 256 in
    let top : x / 16_777_216 < 256 = omega arith in
    rw (mod-eq_of_lt top) (sum (x % 256) (x / 256 % 256) (x / 65_536 % 256) (x / 256) (x / 65_536) (x / 16_777_216) (div-add-mod x 256)
    (rw two at (div-add-mod (x / 256) 256)) (rw three at (div-add-mod (x / 65_536) 256)))
  where
    sum : (d c b q r t : ℕ) → 256 * q + d ≡ x → 256 * r + c ≡ q → 256 * t + b ≡ r → d + 256 * c + 65_536 * b + 16_777_216 * t ≡ x
    sum d c b q r t e f g = omega arith

-- a word of the bytes of words
pub word_back : (words : List ℕ) (k b : ℕ) → b ≡ 4 * k → k < length words → at words k ≤ most_word → word_at (bytes_of words) b ≡ at words k
unfolding word_at bytes_of
word_back [] k b e inside small = absurd (not-suc-le-zero inside)
word_back (w ∷ words) zero b e inside small = rw e (bytes_word w small)
word_back (w ∷ words) (suc k) b e inside small =
    let there : b ≡ 4 + 4 * k = omega arith in
    let moved : (j : ℕ) → at (word_bytes w ++ bytes_of words) (4 + 4 * k + j) ≡ at (bytes_of words) (4 * k + j) =
    λ j. let same : 4 + 4 * k + j ≡ 4 + (4 * k + j) = omega arith in ap (at (word_bytes w ++ bytes_of words)) same ∙ get_or-append-add (word_bytes w) (bytes_of words) (4 * k + j) 0 in
    let zeroth : at (word_bytes w ++ bytes_of words) (4 + 4 * k) ≡ at (bytes_of words) (4 * k) = get_or-append-add (word_bytes w) (bytes_of words) (4 * k) 0 in
    rw (there, zeroth, moved 1, moved 2, moved 3) (word_back words k (4 * k) refl (le_of_suc-le-suc inside) small)

-- reading the bytes of a sheet gives its sizes, its keys and its quantities again
module _ (I H : ℕ) (keys kws : List ℕ) (even : length kws ≡ length keys) where
  abbrev s : List ℕ
  s = sheet_bytes I H keys kws

  abbrev words : List ℕ
  words = I ∷ H ∷ length keys ∷ keys ++ kws

  read_back : (k b : ℕ) → b ≡ 4 * k → k < 3 + 2 * length keys → at words k ≤ most_word → word_at s b ≡ at words k
  unfolding sheet_bytes
  read_back k b e inside small = word_back words k b e (omega (arith, length-append keys kws)) small

  pub sheet-interties : I ≤ most_word → interties s ≡ I
  sheet-interties small = read_back 0 0 refl (omega arith) small

  pub sheet-holders : H ≤ most_word → holders s ≡ H
  sheet-holders small = read_back 1 4 refl (omega arith) small

  pub sheet-count : length keys ≤ 1024 → count s ≡ length keys
  sheet-count few = read_back 2 8 refl (omega arith) (omega arith)

  past-header : (k : ℕ) → at words (3 + k) ≡ at (keys ++ kws) k
  past-header k = get_or-append-add (I ∷ H ∷ length keys ∷ []) (keys ++ kws) k 0

  pub sheet-key : (k : ℕ) → k < length keys → at keys k ≤ most_word → key_at s k ≡ at keys k
  sheet-key k inside small =
      let there : at words (3 + k) ≡ at keys k = past-header k ∙ get_or-append keys kws 0 k inside in
      read_back (3 + k) (12 + 4 * k) (omega arith) (omega arith) (rw there small) ∙ there

  pub sheet-kw : length keys ≤ 1024 → (k : ℕ) → k < length keys → at kws k ≤ most_word → kw_at s k ≡ at kws k
  sheet-kw few k inside small =
      let there : at words (3 + (length keys + k)) ≡ at kws k = past-header (length keys + k) ∙ get_or-append-add keys kws k 0 in
      read_back (3 + (length keys + k)) (12 + 4 * count s + 4 * k) (omega (arith, sheet-count few)) (omega arith) (rw there small) ∙ there

-- why `write_sheet` writes nothing
pub ruleset unwritten = (too_many, uneven, no_room)
