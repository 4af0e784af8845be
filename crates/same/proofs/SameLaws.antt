-- Same says yes exactly when two sheets open to equal states, over any words.
use Prim.Native.Nat.{ℕ, ◌+◌, ◌*◌, ◌≤◌, ◌<◌}
use mathlib.Core.Path.{◌≡◌, refl, sym, ap, ◌∙◌}
use mathlib.Core.Bool.{Bool, true, ◌&&◌}
use mathlib.Core.Logic.{◌≢◌}
use mathlib.Core.List.{List, [], ◌∷◌}
use Rattle.std.specs.Prelude.{Result, Ok, Err}
use native.Mathlib.Omega.{arith}
use lib.Dec.{eqb}
use lib.Pointwise.{pointwise}
use lib.ListN.{length, replicate, length-replicate}
use borrow.Author.Tests.{eqb-true, eq-eqb, ne_eqb}
use Rattle.base.specs.Sums.{all_to}
use Rattle.base.specs.Words.{at}
use Rattle.base.specs.declared.Answer.{Answer}
use Rattle.base.specs.declared.Granted.{Granted}
use Rattle.base.specs.declared.refusals.Refusal.{Refusal}
use Rattle.base.specs.Refused.{number_of, number_in, answer_of}
use Rattle.base.proofs.RefusedLaws.{numbered}
use Rattle.base.proofs.SumLaws.{all_to-each, all_to-all}
use Rattle.base.proofs.ListLaws.{all_to-first}
use Rattle.base.specs.Limits.{state_words}
use Rattle.sheet_records.specs.Refusal.{sheet_refusal}
use Rattle.steps.specs.Inputs.{Inputs, of_sheet}
use Rattle.steps.proofs.SheetValid.{valid-sheet}
use Rattle.opening.specs.Open.{Outcome, opened}
use Rattle.opening.proofs.OpenedLaws.{Opened, opened-state}
use Rattle.opening.proofs.TableOpening.{open-granted, whole-number}
use Rattle.opening.proofs.SameLaws.{SameFigures, same-opened}
use Rattle.same.specs.Same.{year_of, open_alike, refused_verdict, verdict, compared}

-- a sheet that stands is opened over 16,000 zeros
pub zeros-long : 16000 ≤ length {A = ℕ} (replicate 16000 0)
zeros-long = omega (arith, length-replicate {A = ℕ} 16000 0)

module _ (sheet : List ℕ) (e : sheet_refusal sheet ≡ 0) where
  year-opened : Opened (of_sheet sheet) (year_of sheet)
  unfolding year_of
  year-opened =
      let v = valid-sheet sheet e in
      opened-state (of_sheet sheet) v.interties-most v.holders-most (replicate 16000 0) zeros-long

-- two sheets that stand
module _ (first second : List ℕ) (e : sheet_refusal first ≡ 0) (f : sheet_refusal second ≡ 0) where
  abbrev y : Inputs
  y = of_sheet first

  abbrev z : Inputs
  z = of_sheet second

  -- all words alike: every figure is the same
  module _ (alike : open_alike first second ≡ true) where
    word_same : (p : ℕ) → p < 16000 → at (year_of first) p ≡ at (year_of second) p
    unfolding open_alike
    word_same p l =
        eqb-true (at (year_of first) p) (at (year_of second) p)
        (all_to-each state_words (λ p. eqb (at (year_of first) p) (at (year_of second) p)) alike p l)

    figures : SameFigures y z
    figures =
        let a = year-opened first e in
        let b = year-opened second f in
        let v = valid-sheet second f in
        let few : z.interties ≤ 48 = v.interties-most in
        let low : z.holders ≤ 32 = v.holders-most in
        let i-same : y.interties ≡ z.interties = sym a.interties-are ∙ word_same 0 (omega arith) ∙ b.interties-are in
        let h-same : y.holders ≡ z.holders = sym a.holders-are ∙ word_same 1 (omega arith) ∙ b.holders-are in
        record {
          interties = i-same;
          holders = h-same;
          limit = λ i l. sym (a.limit i (omega arith)) ∙ word_same (48 * 1 + i) (omega arith) ∙ b.limit i l;
          outside = λ i l. sym (a.outside i (omega arith)) ∙ word_same (48 * 2 + i) (omega arith) ∙ b.outside i l;
          load-share = λ h l. sym (a.load-share h (omega arith)) ∙ word_same (48 * 3 + h) (omega arith) ∙ b.load-share h l;
          share = λ h l. sym (a.step5-share h (omega arith)) ∙ word_same (48 * 4 + h) (omega arith) ∙ b.step5-share h l;
          total = λ h l. sym (a.step7-total h (omega arith)) ∙ word_same (48 * 5 + h) (omega arith) ∙ b.step7-total h l;
          hold = λ h l. sym (a.reserved h (omega arith)) ∙ word_same (48 * 6 + h) (omega arith) ∙ b.reserved h l;
          existing = λ h i k l. sym (a.existing h i (omega arith) (omega arith)) ∙ word_same (48 * (7 + h) + i) (omega arith) ∙ b.existing h i k l;
          pre-ra = λ h i k l. sym (a.pre-ra h i (omega arith) (omega arith)) ∙ word_same (48 * (39 + h) + i) (omega arith) ∙ b.pre-ra h i k l;
          new-use = λ h i k l. sym (a.new-use h i (omega arith) (omega arith)) ∙ word_same (48 * (71 + h) + i) (omega arith) ∙ b.new-use h i k l;
          left = λ i l. sym (a.unassigned-is i (omega arith)) ∙ word_same (48 * 104 + i) (omega arith) ∙ b.unassigned-is i l;
        }

    -- yes: over any words of a state the two open to the same state
    pub same-everywhere : (words : List ℕ) → 16000 ≤ length words → (opened first words).state ≡ (opened second words).state
    same-everywhere words long =
        ap (λ (o : Outcome). o.state) (open-granted first words e long)
        ∙ same-opened y z figures words
        ∙ sym (ap (λ (o : Outcome). o.state) (open-granted second words f long))

  -- and two that open alike over 16,000 zeros get a yes
  pub alike-if-same : (opened first (replicate 16000 0)).state ≡ (opened second (replicate 16000 0)).state → open_alike first second ≡ true
  unfolding open_alike year_of
  alike-if-same same =
      let years : year_of first ≡ year_of second =
      sym (ap (λ (o : Outcome). o.state) (open-granted first (replicate 16000 0) e zeros-long))
      ∙ same ∙ ap (λ (o : Outcome). o.state) (open-granted second (replicate 16000 0) f zeros-long) in
      all_to-all state_words _ (λ p l. eq-eqb (at (year_of first) p) (at (year_of second) p) (ap (λ m. at m p) years))

-- the call by cases
pub first-refused : (first second : List ℕ) → sheet_refusal first ≢ 0 → compared first second ≡ refused_verdict (sheet_refusal first)
unfolding compared
first-refused first second ne = rw (ne_eqb (sheet_refusal first) 0 ne) refl

pub second-refused : (first second : List ℕ) → sheet_refusal first ≡ 0 → sheet_refusal second ≢ 0 → compared first second ≡ refused_verdict (sheet_refusal second)
unfolding compared
second-refused first second e ne = rw (e, ne_eqb (sheet_refusal second) 0 ne) refl

pub both-stand : (first second : List ℕ) → sheet_refusal first ≡ 0 → sheet_refusal second ≡ 0 → compared first second ≡ verdict (open_alike first second)
unfolding compared
both-stand first second e f = rw (e, f) refl

-- the number in an answer
answered : (o : Result Granted Refusal) → (answer_of o).refusal ≡ number_in o
answered (Ok granted) = refl
answered (Err refusal) = refl

-- what an opening over 16,000 zeros says of its sheet
module _ (sheet after : List ℕ) (outcome : Result Granted Refusal) (r : answer_of outcome ≡ (opened sheet (replicate 16000 0)).answer)
    (e : after ≡ (opened sheet (replicate 16000 0)).state) where
  number_is : number_in outcome ≡ sheet_refusal sheet
  number_is = sym (answered outcome) ∙ ap (λ (a : Answer). a.refusal) r ∙ whole-number sheet (replicate 16000 0) zeros-long

  pub open-refuses : (refusal : Refusal) → outcome ≡ Err refusal → (number_of refusal ≡ sheet_refusal sheet) × (sheet_refusal sheet ≢ 0)
  open-refuses refusal is =
      let number : number_of refusal ≡ sheet_refusal sheet = sym (ap number_in is) ∙ number_is in
      (number, λ zero. omega (arith, numbered refusal, number))

  pub open-stands : (total : Granted) → outcome ≡ Ok total → (sheet_refusal sheet ≡ 0) × (after ≡ year_of sheet)
  unfolding year_of
  open-stands total is =
      let stands : sheet_refusal sheet ≡ 0 = sym number_is ∙ ap number_in is in
      (stands, e ∙ ap (λ (o : Outcome). o.state) (open-granted sheet (replicate 16000 0) stands zeros-long))

-- lists of one length are the same where each word is
words-same : (a b : List ℕ) → length b ≡ length a → pointwise eqb a b ≡ all_to (length a) (λ p. eqb (at a p) (at b p))
unfolding all_to
words-same [] [] e = refl
words-same [] (y ∷ b) e = absurd (omega arith)
words-same (x ∷ a) [] e = absurd (omega arith)
words-same (x ∷ a) (y ∷ b) e =
    ap (λ t. eqb x y && t) (words-same a b (omega arith)) ∙ sym (all_to-first (length a) (λ p. eqb (at (x ∷ a) p) (at (y ∷ b) p)))

pub words-decide : (first second a b : List ℕ) (r : Bool) → a ≡ year_of first → b ≡ year_of second → length a ≡ 16000 → length b ≡ 16000 →
    r ≡ pointwise eqb a b → r ≡ open_alike first second
unfolding open_alike
words-decide first second a b r e f long wide d =
    d ∙ words-same a b (wide ∙ sym long) ∙ ap (λ n. all_to n (λ p. eqb (at a p) (at b p))) long
    ∙ ap (λ l. all_to state_words (λ p. eqb (at l p) (at b p))) e
    ∙ ap (λ l. all_to state_words (λ p. eqb (at (year_of first) p) (at l p))) f
