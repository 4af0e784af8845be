-- The words of a line, found one after the other.
use Prim.Native.Nat.{ℕ, suc, ◌-◌, ◌≤◌, ◌<◌, zero-le}
use mathlib.Core.Path.{◌≡◌, refl, sym, ap, ◌∙◌}
use mathlib.Core.Bool.{Bool, true, false, not}
use mathlib.Core.Logic.{◌≢◌}
use mathlib.Core.List.{List, [], ◌∷◌}
use native.Mathlib.Omega.{arith}
use lib.Dec.{eqb, ltb}
use lib.ListN.{length, take, drop, length-drop}
use lib.Seq.{take_all}
use borrow.Author.Tests.{eq-eqb, ne_eqb, ltb-true, ltb-false}
use Rattle.std.specs.Prelude.{Option, Some, None}
use Rattle.std.specs.Option.{unwrap_or}
use Rattle.std.specs.List.{position, position_or_len}
use Rattle.std.proofs.lemmas.List.Recursion.{is_position_or_len}
use Rattle.base.specs.Choice.{pick}
use Rattle.base.proofs.ChoiceLaws.{pick-by}
use Rattle.text.proofs.PieceLaws.{by-test}
use Rattle.journal.specs.Words.{is_blank, pieces, non_empty, words}

-- 1 for a blank, 0 for a byte of a word
abbrev class : ℕ → ℕ
class byte = pick (is_blank byte) 1 0

-- how many bytes of a class a line starts with
unfoldable leading : ℕ → List ℕ → ℕ
leading k [] = 0
leading k (byte ∷ line) = pick (eqb (class byte) k) (suc (leading k line)) 0

-- at most the length
leading_le : (k : ℕ) (line : List ℕ) → leading k line ≤ length line
unfolding leading
leading_le k [] = zero-le
leading_le k (byte ∷ line) =
    pick-by (λ (n : ℕ). n ≤ suc (length line)) (eqb (class byte) k) (suc (leading k line)) 0
    (λ _. omega (arith, leading_le k line))
    (λ _. zero-le)

leading-more : (k byte : ℕ) (line : List ℕ) → class byte ≡ k → leading k (byte ∷ line) ≡ suc (leading k line)
unfolding leading
leading-more k byte line e = rw (eq-eqb (class byte) k e) refl

leading-ends : (k byte : ℕ) (line : List ℕ) → class byte ≢ k → leading k (byte ∷ line) ≡ 0
unfolding leading
leading-ends k byte line other = rw (ne_eqb (class byte) k other) refl

leading-none : (k : ℕ) → leading k [] ≡ 0
unfolding leading
leading-none k = refl

-- the class of a byte
class-blank : (byte : ℕ) → is_blank byte ≡ true → class byte ≡ 1
class-blank byte e = rw e refl

class-other : (byte : ℕ) → is_blank byte ≡ false → class byte ≡ 0
class-other byte e = rw e refl

-- one or none
blanks-more : (byte : ℕ) (line : List ℕ) → is_blank byte ≡ true → leading 1 (byte ∷ line) ≡ suc (leading 1 line)
blanks-more byte line e = leading-more 1 byte line (class-blank byte e)

blanks-end : (byte : ℕ) (line : List ℕ) → is_blank byte ≡ false → leading 1 (byte ∷ line) ≡ 0
blanks-end byte line e = leading-ends 1 byte line (λ one. omega (arith, class-other byte e, one))

word_more : (byte : ℕ) (line : List ℕ) → is_blank byte ≡ false → leading 0 (byte ∷ line) ≡ suc (leading 0 line)
word_more byte line e = leading-more 0 byte line (class-other byte e)

word_end : (byte : ℕ) (line : List ℕ) → is_blank byte ≡ true → leading 0 (byte ∷ line) ≡ 0
word_end byte line e = leading-ends 0 byte line (λ none. omega (arith, class-blank byte e, none))

pub words-nil : words [] ≡ []
unfolding words pieces
words-nil = refl

-- a blank in front changes nothing
words-blank : (byte : ℕ) (line : List ℕ) → is_blank byte ≡ true → words (byte ∷ line) ≡ words line
unfolding words pieces
words-blank byte line e = rw e refl

-- the first piece ends at the first blank; the words past it are those of the rest of the line
pieces-front : (line : List ℕ) → (others : List (List ℕ)) × (pieces line ≡ take (leading 0 line) line ∷ others) × (non_empty others ≡ words (drop (leading 0 line) line))
unfolding words pieces
pieces-front [] = ([], rw (leading-none 0) refl, rw (leading-none 0) refl)
pieces-front (byte ∷ line) =
    by-test (is_blank byte)
    (λ e. (pieces line, rw (e, word_end byte line e) refl, rw (word_end byte line e, e) refl))
    (λ e.
    let rest = pieces-front line in
    (rest.0, rw (e, word_more byte line e, rest.1) refl, rw (word_more byte line e) rest.2))

-- a word at the start of a line
words-front : (byte : ℕ) (line : List ℕ) → is_blank byte ≡ false →
    words (byte ∷ line) ≡ take (leading 0 (byte ∷ line)) (byte ∷ line) ∷ words (drop (leading 0 (byte ∷ line)) (byte ∷ line))
unfolding words pieces
words-front byte line e =
    let rest = pieces-front line in
    rw (e, word_more byte line e, rest.1) (ap (λ (t : List (List ℕ)). (byte ∷ take (leading 0 line) line) ∷ t) rest.2)

-- blanks alone have no word
words-none : (line : List ℕ) → leading 1 line ≡ length line → words line ≡ []
words-none [] e = words-nil
words-none (byte ∷ line) e =
    by-test (is_blank byte)
    (λ b. words-blank byte line b ∙ words-none line (omega (arith, e, blanks-more byte line b)))
    (λ b. absurd (omega (arith, e, blanks-end byte line b)))

-- a line's first word starts past its blanks
words-past : (line : List ℕ) → leading 1 line < length line →
    words line ≡ take (leading 0 (drop (leading 1 line) line)) (drop (leading 1 line) line) ∷ words (drop (leading 0 (drop (leading 1 line) line)) (drop (leading 1 line) line))
words-past [] h = absurd (omega arith)
words-past (byte ∷ line) h =
    by-test (is_blank byte)
    (λ b. words-blank byte line b ∙ rw (blanks-more byte line b) (words-past line (omega (arith, h, blanks-more byte line b))))
    (λ b. rw (blanks-end byte line b) (words-front byte line b))

-- the same by the library's searches: for the first byte of a word, and for the blank after it
start-place : (line : List ℕ) → leading 1 line ≡ position_or_len (λ byte. not (is_blank byte)) line
start-place line =
    is_position_or_len (leading 1) (λ byte. not (is_blank byte)) (leading-none 1)
    (λ byte others. by-test (is_blank byte) (λ b. rw (b, blanks-more byte others b) (omega arith)) (λ b. rw (b, blanks-end byte others b) refl)) line

end-place : (line : List ℕ) → leading 0 line ≡ position_or_len is_blank line
end-place line =
    is_position_or_len (leading 0) is_blank (leading-none 0)
    (λ byte others. by-test (is_blank byte) (λ b. rw (b, word_end byte others b) refl) (λ b. rw (b, word_more byte others b) (omega arith))) line

-- the place that a search finds is the first one
found-place : (p : ℕ → Bool) (line : List ℕ) (start : ℕ) → Some start ≡ position p line → (start ≡ position_or_len p line) × (start < length line)
found-place p line start found =
    by-test (ltb (position_or_len p line) (length line))
    (λ t.
    let same : Some start ≡ Some (position_or_len p line) = found ∙ rw t refl in
    let e : start ≡ position_or_len p line = ap (λ o. unwrap_or o start) same in
    (e, omega (arith, e, ltb-true (position_or_len p line) (length line) t)))
    (λ f. absurd (none-some start (sym (found ∙ rw f refl))))
  where
    none-some : (n : ℕ) → None ≡ Some n → ⊥
    none-some n e = omega (arith, ap (λ o. unwrap_or o n) e, ap (λ o. unwrap_or o (suc n)) e)

no-place : (p : ℕ → Bool) (line : List ℕ) → None ≡ position p line → length line ≤ position_or_len p line
no-place p line none =
    by-test (ltb (position_or_len p line) (length line))
    (λ t.
    let same : None ≡ Some (position_or_len p line) = none ∙ rw t refl in
    absurd (omega (arith, ap (λ o. unwrap_or o 0) same, ap (λ o. unwrap_or o (suc (position_or_len p line))) same)))
    (λ f. ltb-false (position_or_len p line) (length line) f)

pub no_word : (line : List ℕ) → None ≡ position (λ byte. not (is_blank byte)) line → words line ≡ []
no_word line none =
    words-none line (omega (arith, no-place (λ byte. not (is_blank byte)) line none, start-place line, leading_le 1 line))

-- the end of a word that a search for a blank finds, or the end of the line
ends-at : (word : List ℕ) → unwrap_or (position is_blank word) (length word) ≡ leading 0 word
ends-at word =
    by-test (ltb (position_or_len is_blank word) (length word))
    (λ t. rw t (sym (end-place word)))
    (λ f. rw f (omega (arith, ltb-false (position_or_len is_blank word) (length word) f, end-place word, leading_le 0 word)))

pub word_next : (line : List ℕ) (start end : ℕ) (word : List ℕ) (found : Option ℕ) → Some start ≡ position (λ byte. not (is_blank byte)) line →
    word ≡ take (length line - start) (drop start line) → found ≡ position is_blank word → end ≡ unwrap_or found (length word) →
    words line ≡ take end word ∷ words (take (length word - end) (drop end word))
word_next line start end word found starts is search ends =
    let first = found-place (λ byte. not (is_blank byte)) line start starts in
    let e : leading 1 line ≡ start = start-place line ∙ sym first.0 in
    let whole : word ≡ drop start line = is ∙ take_all (length line - start) (drop start line) (omega (arith, length-drop start line)) in
    let size : end ≡ leading 0 word = ends ∙ ap (λ o. unwrap_or o (length word)) search ∙ ends-at word in
    let rest : take (length word - end) (drop end word) ≡ drop end word = take_all (length word - end) (drop end word) (omega (arith, length-drop end word)) in
    words-past line (omega (arith, e, first.1))
    ∙ ap (λ (n : ℕ). take (leading 0 (drop n line)) (drop n line) ∷ words (drop (leading 0 (drop n line)) (drop n line))) e
    ∙ ap (λ (m : List ℕ). take (leading 0 m) m ∷ words (drop (leading 0 m) m)) (sym whole)
    ∙ ap (λ (n : ℕ). take n word ∷ words (drop n word)) (sym size)
    ∙ ap (λ (m : List ℕ). take end word ∷ words m) (sym rest)
