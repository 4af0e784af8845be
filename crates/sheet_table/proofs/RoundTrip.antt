-- Reading the text of a sheet gives the sheet back: its lines one by one, then its bytes.
use Prim.Native.Nat.{ℕ, zero, suc, ◌+◌, ◌*◌, ◌/◌, ◌%◌, ◌≤◌, ◌<◌}
use mathlib.Core.Path.{◌≡◌, refl, sym, ap, ◌∙◌}
use mathlib.Core.Bool.{false}
use mathlib.Core.List.{List, [], ◌∷◌, ◌++◌, map, append_assoc, append-nil}
use native.Mathlib.Numerals.{add-one}
use native.Mathlib.Omega.{arith}
use lib.ListN.{length, length-append, take, drop, get_or, length-drop, take-append-drop}
use lib.Seq.{take-add, take_all, drop-drop, drop-cons}
use Rattle.base.specs.Words.{at}
use Rattle.text.specs.Pieces.{fields}
use Rattle.text.specs.Decimal.{decimal}
use Rattle.text.specs.Lines.{line_end}
use Rattle.sheet_keys.specs.Key.{kind_of}
use Rattle.sheet_records.specs.Sheet.{most_word, word_at, interties, holders, count, key_at, kw_at}
use Rattle.sheet_records.specs.Refusal.{bad_length, Whole}
use Rattle.sheet_records.proofs.RefusalLaws.{whole}
use Rattle.sheet_records.proofs.ReadingLaws.{word_below}
use Rattle.sheet_records.specs.Bytes.{word_bytes, bytes_of, sheet_bytes}
use Rattle.std.specs.Prelude.{Result, Ok}
use Rattle.sheet_table.specs.Fields.{comma, sizes_in}
use Rattle.sheet_table.specs.Lines.{bare, lines_of, entries_of, past_line, sizes_on, first_fields, later_lines, sheet_with, sheet_of}
use Rattle.sheet_table.specs.Table.{label_of, row_of, rows_of, sizes_line, table_of}
use Rattle.sheet_records.specs.declared.reader.Record.{Record}
use Rattle.sheet_table.specs.declared.faults.Unreadable.{Unreadable}
use Rattle.sheet_records.proofs.BytesLaws.{bytes-append, bytes_one}
use Rattle.sheet_table.proofs.ReadingLaws.{before, before-none, before-entry, map-append, entries-cons, entries-end, line-empty}
use Rattle.sheet_table.proofs.SplitLaws.{Without, decimal-without, label-without, body, body-bare, body-fields, line-cut}
use Rattle.sheet_table.proofs.RowReadLaws as Row

-- the four bytes of a most_word of bytes
word-bytes : (d c b a w : ℕ) → d < 256 → c < 256 → b < 256 → a < 256 → w ≡ d + 256 * c + 65_536 * b + 16_777_216 * a → word_bytes w ≡ d ∷ c ∷ b ∷ a ∷ []
word-bytes d c b a w ld lc lb la e =
    let one : w / 256 ≡ c + 256 * b + 65_536 * a = omega arith in
    let two : w / 65_536 ≡ b + 256 * a = omega arith in
    let three : w / 16_777_216 ≡ a = omega arith in
    let p : w % 256 ≡ d = omega arith in
    let q : (c + 256 * b + 65_536 * a) % 256 ≡ c = omega arith in
    let r : (b + 256 * a) % 256 ≡ b = omega arith in
    let t : a % 256 ≡ a = omega arith in
    rw (p, one, q, two, r, three, t) refl

module _ (s : List ℕ) (bytes : (i : ℕ) → at s i < 256) where
  byte-part : (b n : ℕ) → b < length s → n ≡ b + 1 → drop b s ≡ at s b ∷ drop n s
  byte-part b n inside e = drop-cons s b 0 inside ∙ ap (λ (k : ℕ). at s b ∷ drop k s) (sym (e ∙ add-one b))

  word-part : (b : ℕ) → b + 4 ≤ length s → word_bytes (word_at s b) ≡ take 4 (drop b s)
  unfolding word_at
  word-part b fits =
      word-bytes (at s b) (at s (b + 1)) (at s (b + 2)) (at s (b + 3)) (word_at s b) (bytes b) (bytes (b + 1)) (bytes (b + 2)) (bytes (b + 3)) refl
      ∙ sym
      (ap (take 4)
      (byte-part b (b + 1) (omega arith) refl
      ∙ ap (λ (l : List ℕ). at s b ∷ l)
      (byte-part (b + 1) (b + 2) (omega arith) (omega arith)
      ∙ ap (λ (l : List ℕ). at s (b + 1) ∷ l)
      (byte-part (b + 2) (b + 3) (omega arith) (omega arith)
      ∙ ap (λ (l : List ℕ). at s (b + 2) ∷ l) (byte-part (b + 3) (b + 4) (omega arith) (omega arith))))))

  -- k words from byte b on
  words : ℕ → ℕ → List ℕ
  words b zero = []
  words b (suc k) = words b k ++ (word_at s (b + 4 * k) ∷ [])

  length-words : (b k : ℕ) → length (words b k) ≡ k
  unfolding words
  length-words b zero = refl
  length-words b (suc k) = omega (arith, length-append (words b k) (word_at s (b + 4 * k) ∷ []), length-words b k)

  three-words : words 0 3 ≡ interties s ∷ holders s ∷ count s ∷ []
  unfolding words
  three-words = refl

  words-part : (b k : ℕ) → b + 4 * k ≤ length s → bytes_of (words b k) ≡ take (4 * k) (drop b s)
  unfolding words bytes_of
  words-part b zero fits = refl
  words-part b (suc k) fits =
      let size : 4 * suc k ≡ 4 * k + 4 = omega arith in
      bytes-append (words b k) (word_at s (b + 4 * k) ∷ [])
      ∙ ap (λ (l : List ℕ). l ++ bytes_of (word_at s (b + 4 * k) ∷ [])) (words-part b k (omega arith))
      ∙ ap (λ (l : List ℕ). take (4 * k) (drop b s) ++ l) (bytes_one (word_at s (b + 4 * k)) ∙ word-part (b + 4 * k) (omega arith))
      ∙ ap (λ (l : List ℕ). take (4 * k) (drop b s) ++ take 4 l) (sym (drop-drop (4 * k) b s))
      ∙ sym (ap (λ (n : ℕ). take n (drop b s)) size ∙ take-add (4 * k) 4 (drop b s))

  -- the lines of the first k records, without their ends
  abbrev line : ℕ → List ℕ
  line k = Row.row_text (key_at s k) (kw_at s k)

  lines : ℕ → List (List ℕ)
  lines zero = []
  lines (suc k) = lines k ++ (line k ∷ [])

  row_cut : (k : ℕ) (u : List ℕ) → fields line_end (row_of (key_at s k) (kw_at s k) ++ u) ≡ line k ∷ fields line_end u
  unfolding row_of
  row_cut k u = line-cut (label_of (kind_of (key_at s k))) _ (λ separator low. label-without separator (kind_of (key_at s k)) low) u

  rows_cut : (k : ℕ) (u : List ℕ) → fields line_end (rows_of s k ++ u) ≡ lines k ++ fields line_end u
  unfolding rows_of lines
  rows_cut zero u = refl
  rows_cut (suc k) u =
      ap (fields line_end) (append_assoc (rows_of s k) (row_of (key_at s k) (kw_at s k)) u)
      ∙ rows_cut k (row_of (key_at s k) (kw_at s k) ++ u)
      ∙ ap (λ (l : List (List ℕ)). lines k ++ l) (row_cut k u)
      ∙ sym (append_assoc (lines k) (line k ∷ []) (fields line_end u))

  lines-bare : (k : ℕ) → map bare (lines k) ≡ lines k
  unfolding lines
  lines-bare zero = refl
  lines-bare (suc k) =
      map-append bare (lines k) (line k ∷ [])
      ∙ ap (λ (l : List (List ℕ)). l ++ (bare (line k) ∷ [])) (lines-bare k)
      ∙ ap (λ (l : List ℕ). lines k ++ (l ∷ [])) (Row.text-bare (key_at s k) (kw_at s k) (word_below s (12 + 4 * k) bytes) (word_below s (12 + 4 * count s + 4 * k) bytes))

  -- the first k records
  recs : ℕ → List Record
  recs zero = []
  recs (suc k) = recs k ++ (record { key = key_at s k; kw = kw_at s k } ∷ [])

  keys-said : (k : ℕ) → map (λ e. e.key) (recs k) ≡ words 12 k
  unfolding recs words
  keys-said zero = refl
  keys-said (suc k) = map-append (λ e. e.key) (recs k) _ ∙ ap (λ l. l ++ (key_at s k ∷ [])) (keys-said k)

  kws-said : (k : ℕ) → map (λ e. e.kw) (recs k) ≡ words (12 + 4 * count s) k
  unfolding recs words
  kws-said zero = refl
  kws-said (suc k) = map-append (λ e. e.kw) (recs k) _ ∙ ap (λ l. l ++ (kw_at s k ∷ [])) (kws-said k)

  -- they are what the lines say
  lines-read : (k : ℕ) (ls : List (List ℕ)) → k ≤ 1024 → entries_of 2 0 (lines k ++ ls) ≡ before (recs k) (entries_of (k + 2) k ls)
  unfolding lines recs
  lines-read zero ls few = before-none (entries_of 2 0 ls)
  lines-read (suc k) ls few =
      let next : suc (k + 2) ≡ suc k + 2 = omega arith in
      let entry : Record = record { key = key_at s k; kw = kw_at s k } in
      ap (entries_of 2 0) (append_assoc (lines k) (line k ∷ []) ls)
      ∙ lines-read k (line k ∷ ls) (omega arith)
      ∙ ap (before (recs k))
      (entries-cons (k + 2) k (line k) ls
      ∙ ap (λ o. past_line o (entries_of (suc (k + 2)) k ls) (entries_of (suc (k + 2)) (suc k) ls))
      (Row.text-read (key_at s k) (kw_at s k) (word_below s (12 + 4 * k) bytes) (word_below s (12 + 4 * count s + 4 * k) bytes) (k + 2) k (omega arith)))
      ∙ before-entry (recs k) entry (entries_of (suc (k + 2)) (suc k) ls)
      ∙ ap (λ n. before (recs k ++ (entry ∷ [])) (entries_of n (suc k) ls)) next

  -- the whole text of a sheet that refusal 1 lets pass
  module _ (passes : bad_length s ≡ false) where
    sheet : Whole s (count s)
    sheet = whole s (count s) passes refl

    abbrev first : List ℕ
    first = body (decimal (interties s)) (holders s ∷ [])

    digits : (separator : ℕ) → separator < 48 → Without separator (decimal (interties s))
    digits separator low = decimal-without separator (interties s) low

    cut : lines_of (table_of s) ≡ first ∷ lines (count s) ++ ([] ∷ [])
    unfolding lines_of table_of sizes_line fields
    cut =
        let whole-text : table_of s ≡ sizes_line s ++ rows_of s (count s) = rw passes refl in
        ap (λ (t : List ℕ). map bare (fields line_end t)) (whole-text ∙ ap (λ (l : List ℕ). sizes_line s ++ l) (sym (append-nil (rows_of s (count s)))))
        ∙ ap (map bare) (line-cut (decimal (interties s)) (holders s ∷ []) digits (rows_of s (count s) ++ []) ∙ ap (λ (l : List (List ℕ)). first ∷ l) (rows_cut (count s) []))
        ∙ ap (λ (l : List ℕ). l ∷ map bare (lines (count s) ++ ([] ∷ []))) (body-bare (decimal (interties s)) (holders s ∷ []) digits)
        ∙ ap (λ (l : List (List ℕ)). first ∷ l) (map-append bare (lines (count s)) ([] ∷ []) ∙ ap (λ (l : List (List ℕ)). l ++ ([] ∷ [])) (lines-bare (count s)))

    first-fields : first_fields (table_of s) ≡ decimal (interties s) ∷ map decimal (holders s ∷ [])
    first-fields = ap (λ (l : List (List ℕ)). fields comma (get_or l 0 [])) cut ∙ body-fields (decimal (interties s)) (holders s ∷ []) digits

    later : later_lines (table_of s) ≡ lines (count s) ++ ([] ∷ [])
    later = ap (drop 1) cut

    small : (b : ℕ) → word_at s b ≤ most_word
    small b = word_below s b bytes

    tail : entries_of (count s + 2) (count s) ([] ∷ []) ≡ Ok []
    tail =
        entries-cons (count s + 2) (count s) [] []
        ∙ ap (λ o. past_line o (entries_of (suc (count s + 2)) (count s) []) (entries_of (suc (count s + 2)) (suc (count s)) [])) (sym (line-empty (count s + 2) (count s) [] refl))
        ∙ entries-end (suc (count s + 2)) (count s)

    reading : entries_of 2 0 (later_lines (table_of s)) ≡ Ok (recs (count s))
    reading =
        ap (entries_of 2 0) later
        ∙ lines-read (count s) ([] ∷ []) sheet.few
        ∙ ap (before (recs (count s))) tail
        ∙ ap Ok (append-nil (recs (count s)))

    -- the bytes: the sizes and the count, the keys, the quantities
    all-bytes : sheet_bytes (interties s) (holders s) (words 12 (count s)) (words (12 + 4 * count s) (count s)) ≡ s
    unfolding sheet_bytes
    all-bytes =
        let K : ℕ = count s in
        let exact : length s ≡ 12 + 8 * K = sheet.exact in
        let keys : List ℕ = words 12 K in
        let kws : List ℕ = words (12 + 4 * K) K in
        let sizes : List ℕ = interties s ∷ holders s ∷ K ∷ [] in
        let three : bytes_of sizes ≡ take 12 s = ap bytes_of (sym three-words) ∙ words-part 0 3 (omega arith) in
        let head : bytes_of (interties s ∷ holders s ∷ length keys ∷ keys ++ kws) ≡ bytes_of sizes ++ (bytes_of keys ++ bytes_of kws) =
        ap (λ (n : ℕ). bytes_of (interties s ∷ holders s ∷ n ∷ keys ++ kws)) (length-words 12 K)
        ∙ bytes-append sizes (keys ++ kws)
        ∙ ap (λ (l : List ℕ). bytes_of sizes ++ l) (bytes-append keys kws) in
        let tail : drop (4 * K) (drop 12 s) ≡ drop (12 + 4 * K) s = drop-drop (4 * K) 12 s in
        let last : take (4 * K) (drop (12 + 4 * K) s) ≡ drop (12 + 4 * K) s = take_all (4 * K) (drop (12 + 4 * K) s) (omega (arith, length-drop (12 + 4 * K) s)) in
        head
        ∙ ap (λ (l : List ℕ). l ++ (bytes_of keys ++ bytes_of kws)) three
        ∙ ap (λ (l : List ℕ). take 12 s ++ (l ++ bytes_of kws)) (words-part 12 K (omega arith))
        ∙ ap (λ (l : List ℕ). take 12 s ++ (take (4 * K) (drop 12 s) ++ l)) (words-part (12 + 4 * K) K (omega arith) ∙ last ∙ sym tail)
        ∙ ap (λ (l : List ℕ). take 12 s ++ l) (take-append-drop (4 * K) (drop 12 s))
        ∙ take-append-drop 12 s

    -- reading the text of a sheet gives the very bytes of the sheet
    pub to-sheet-of-table : sheet_of (table_of s) ≡ Ok s
    unfolding sheet_of
    to-sheet-of-table =
        let lines : Result (List Record) Unreadable = entries_of 2 0 (later_lines (table_of s)) in
        ap (λ f. sheet_with (sizes_on (sizes_in f)) lines) first-fields
        ∙ ap (λ z. sheet_with (sizes_on z) lines) (Row.sizes-back (interties s) (holders s) (small 0) (small 4))
        ∙ ap (sheet_with (Ok (record { interties = interties s; holders = holders s }))) reading
        ∙ ap (λ k. Ok (sheet_bytes (interties s) (holders s) k (map (λ e. e.kw) (recs (count s))))) (keys-said (count s))
        ∙ ap (λ q. Ok (sheet_bytes (interties s) (holders s) (words 12 (count s)) q)) (kws-said (count s))
        ∙ ap Ok all-bytes
