-- The numbers of a call, read one after the other.
use Prim.Native.Nat.{ℕ, suc, ◌+◌, ◌-◌, ◌≤◌, ◌<◌}
use mathlib.Core.Path.{◌≡◌, refl, sym, ap, ◌∙◌}
use mathlib.Core.List.{List, [], ◌∷◌, ◌++◌, append-nil, append_assoc}
use native.Mathlib.Numerals.{add-one}
use native.Mathlib.Omega.{arith}
use lib.ListN.{length, take, set}
use lib.Seq.{take_all}
use Rattle.std.proofs.Math.Seq.{take-suc-set}
use Rattle.std.specs.Prelude.{Result, Ok, Err}
use Rattle.text.specs.Decimal.{number_of}
use Rattle.text.specs.declared.reading.NumberError.{NumberError}
use Rattle.journal.specs.declared.faults.Fault.{Fault}
use Rattle.journal.specs.declared.faults.Fault.TheVariants.{BadNumbers}
use Rattle.journal.specs.Faults.{fault_of}
use Rattle.journal.specs.Calls.{in_front, numbers_of}

-- numbers that were read, before those that a later reading gives
abbrev pub after : List ℕ → Result (List ℕ) Fault → Result (List ℕ) Fault
after front (Ok values) = Ok (front ++ values)
after front (Err fault) = Err fault

after-front : (front : List ℕ) (n : ℕ) (later : Result (List ℕ) Fault) → after front (in_front (Ok n) later) ≡ after (front ++ (n ∷ [])) later
after-front front n (Ok values) = ap Ok (sym (append_assoc front (n ∷ []) values))
after-front front n (Err fault) = refl

-- the loop that reads them: what is left of the words decides what is left of the numbers
pub reading_begins : (now : List ℕ) (text : List (List ℕ)) → numbers_of (length now) text ≡ after (take 0 now) (numbers_of (length now - 0) text)
reading_begins now text =
    let all : length now - 0 ≡ length now = omega arith in
    ap (λ n. numbers_of n text) (sym all) ∙ same (numbers_of (length now - 0) text)
  where
    same : (later : Result (List ℕ) Fault) → later ≡ after (take 0 now) later
    same (Ok values) = refl
    same (Err fault) = refl

module _ (k : ℕ) (left : List (List ℕ)) (now : List ℕ) (whole : Result (List ℕ) Fault) (so_far : whole ≡ after (take k now) (numbers_of (length now - k) left)) where
  one-less : k < length now → length now - k ≡ suc (length now - (k + 1))
  one-less inside = omega arith

  pub reading-lacks : k < length now → left ≡ [] → Err BadNumbers ≡ whole
  unfolding numbers_of
  reading-lacks inside none = sym (so_far ∙ rw (none, one-less inside) refl)

  module _ (word : List ℕ) (others : List (List ℕ)) (are : left ≡ word ∷ others) where
    pub reading-stops : k < length now → (error : NumberError) → Err error ≡ number_of word → Err (fault_of error) ≡ whole
    unfolding numbers_of
    reading-stops inside error bad = sym (so_far ∙ rw (are, one-less inside, ← bad) refl)

    pub reading-turn : k < length now → (value : ℕ) → Ok value ≡ number_of word → whole ≡ after (take (k + 1) (set now k value)) (numbers_of (length now - (k + 1)) others)
    unfolding numbers_of
    reading-turn inside value good =
        so_far
        ∙ rw (are, one-less inside, ← good) (after-front (take k now) value (numbers_of (length now - (k + 1)) others))
        ∙ ap (λ front. after front (numbers_of (length now - (k + 1)) others)) (sym (ap (λ n. take n (set now k value)) (add-one k) ∙ take-suc-set now k value inside))

    pub reading-over : length now ≤ k → Err BadNumbers ≡ whole
    unfolding numbers_of
    reading-over end =
        let none : length now - k ≡ 0 = omega arith in
        sym (so_far ∙ rw (are, none) refl)

  pub reading-ends : length now ≤ k → left ≡ [] → Ok now ≡ whole
  unfolding numbers_of
  reading-ends end none =
      let done : length now - k ≡ 0 = omega arith in
      sym (so_far ∙ rw (none, done) (ap Ok (append-nil (take k now) ∙ take_all k now end)))

-- where that loop begins, and where it ends
pub ruleset reading = (reading_begins, reading-lacks, reading-ends)
