-- The lines that an opened state's words give are those of the steps.
use Prim.Native.Nat.{ℕ, ◌+◌, ◌*◌, ◌≤◌, ◌<◌}
use mathlib.Core.Path.{◌≡◌, refl, sym, ap, ◌∙◌}
use mathlib.Core.Logic.{◌≢◌, ⊎_elim}
use mathlib.Core.List.{List}
use Rattle.std.specs.Prelude.{Result, Ok, Err}
use native.Mathlib.Omega.{arith}
use lib.ListN.{length, replicate, length-replicate}
use borrow.Author.Tests.{ne_eqb}
use Rattle.base.specs.Sums.{sum_to}
use Rattle.base.specs.Words.{at}
use Rattle.base.specs.declared.Answer.{Answer}
use Rattle.base.specs.declared.Granted.{Granted}
use Rattle.base.specs.declared.refusals.Refusal.{Refusal}
use Rattle.base.specs.Answers.{refused, granted}
use Rattle.base.specs.Refused.{number_of, answer_of}
use Rattle.base.proofs.RefusedLaws.{numbered}
use Rattle.base.proofs.SumLaws.{sum_to-same}
use Rattle.base.proofs.WordLaws.{at_fill}
use Rattle.state.specs.Layout.{interties, holders}
use Rattle.sheet_records.specs.Refusal.{sheet_refusal}
use Rattle.steps.specs.Inputs.{Inputs, of_sheet}
use Rattle.steps.specs.Step2.{available_total, load_share_quantity}
use Rattle.steps.specs.Step4a.{existing_on, pre_ra_granted}
use Rattle.steps.specs.Step4b.{new_use_granted}
use Rattle.steps.proofs.SheetValid.{valid-sheet}
use Rattle.opening.specs.Opened.{opened_state}
use Rattle.opening.specs.Open.{Outcome, opened, quantities_found}
use Rattle.opening.proofs.OpenedLaws.{Opened, opened-state}
use Rattle.opening.proofs.TableOpening.{zero_or, open-refused, open-granted, found-granted}
use Rattle.opening.proofs.WriteLaws.{row_same}
use Rattle.posting.specs.Post.{pre_ra_on, new_use_on, intertie_lines, holder_lines, Posted, posted}
use Rattle.posting.specs.Workers.Lines.{field_on, interties_from, holders_from}

-- a state t that opening with y left
module _ (y : Inputs) (t l : List ℕ) (o : Opened y t) (I H : ℕ) (i-is : I ≡ y.interties) (h-is : H ≡ y.holders) where
  field-same : (field : ℕ) (f : ℕ → ℕ → ℕ) → ((h i : ℕ) → h < y.holders → i < y.interties → at t (48 * (field + h) + i) ≡ f h i) →
      (i : ℕ) → i < y.interties → field_on t field H i ≡ sum_to y.holders (λ h. f h i)
  field-same field f same i l = ap (λ n. sum_to n (λ h. at t (48 * (field + h) + i))) h-is ∙ sum_to-same y.holders _ _ (λ h k. same h i k l)

  pub interties-same : interties_from I H t l ≡ intertie_lines y l
  unfolding intertie_lines existing_on pre_ra_on new_use_on
  interties-same =
      row_same 5 _ _ _ _ _ _ i-is o.unassigned-is
      (row_same 4 _ _ _ _ _ _ i-is (field-same 71 (new_use_granted y) o.new-use)
      (row_same 3 _ _ _ _ _ _ i-is (field-same 39 (pre_ra_granted y) o.pre-ra)
      (row_same 2 _ _ _ _ _ _ i-is (field-same 7 y.existing o.existing)
      (row_same 1 _ _ _ _ _ _ i-is o.outside (row_same 0 _ _ _ _ _ _ i-is o.limit refl)))))

  pub holders-same : (quantities : List ℕ) → ((h : ℕ) → h < y.holders → at quantities h ≡ load_share_quantity y h) →
      (m : List ℕ) → holders_from H t quantities m ≡ holder_lines y m
  unfolding holder_lines
  holders-same quantities found m =
      row_same 9 _ _ _ _ _ _ h-is o.step5-share
      (row_same 8 _ _ _ _ _ _ h-is o.reserved
      (row_same 7 _ _ _ _ _ _ h-is found (row_same 6 _ _ _ _ _ _ h-is o.load-share refl)))

-- the call by cases
module _ (sheet l : List ℕ) where
  pub post-refused : sheet_refusal sheet ≢ 0 → posted sheet l ≡ record { answer = refused (sheet_refusal sheet); lines = l }
  unfolding posted
  post-refused ne = rw (ne_eqb (sheet_refusal sheet) 0 ne) refl

  pub post-done : sheet_refusal sheet ≡ 0 →
      posted sheet l ≡ record { answer = granted (available_total (of_sheet sheet)) 0; lines = holder_lines (of_sheet sheet) (intertie_lines (of_sheet sheet) l) }
  unfolding posted
  post-done e = rw e refl

-- an opening into 16,000 zeros, with its Load Share Quantities: what `post` finds after it
module _ (sheet after quantities : List ℕ) (outcome : Result Granted Refusal) (r : answer_of outcome ≡ (opened sheet (replicate 16000 0)).answer)
    (e : after ≡ (opened sheet (replicate 16000 0)).state) (q : quantities ≡ quantities_found sheet (replicate 16000 0) (replicate 32 0)) where
  zeros-long : 16000 ≤ length {A = ℕ} (replicate 16000 0)
  zeros-long = omega (arith, length-replicate {A = ℕ} 16000 0)

  -- a refusal is the sheet's
  pub post-refuses : (refusal : Refusal) → outcome ≡ Err refusal → (l : List ℕ) → (refused (number_of refusal) ≡ (posted sheet l).answer) × (l ≡ (posted sheet l).lines)
  post-refuses refusal is l =
      let number : number_of refusal ≡ (opened sheet (replicate 16000 0)).answer.refusal = sym (ap (λ (o : Result Granted Refusal). (answer_of o).refusal) is) ∙ ap (λ (a : Answer). a.refusal) r in
      let ne : sheet_refusal sheet ≢ 0 =
      λ z. omega (arith, numbered refusal, number ∙ ap (λ (o : Outcome). o.answer.refusal) (open-granted sheet (replicate 16000 0) z zeros-long)) in
      let done = post-refused sheet l ne in (
        sym (ap answer_of is) ∙ r ∙ ap (λ (o : Outcome). o.answer) (open-refused sheet (replicate 16000 0) ne) ∙ sym (ap (λ (o : Posted). o.answer) done),
        sym (ap (λ (o : Posted). o.lines) done),
      )

  module _ (total : Granted) (is : outcome ≡ Ok total) where
    pub stands : sheet_refusal sheet ≡ 0
    stands =
        ⊎_elim (λ (z : sheet_refusal sheet ≡ 0). z)
        (λ (ne : sheet_refusal sheet ≢ 0).
        sym (ap (λ (o : Outcome). o.answer.refusal) (open-refused sheet (replicate 16000 0) ne))
        ∙ sym (ap (λ (a : Answer). a.refusal) r) ∙ ap (λ (o : Result Granted Refusal). (answer_of o).refusal) is)
        (zero_or (sheet_refusal sheet))

    after_is : after ≡ opened_state (of_sheet sheet) (replicate 16000 0)
    after_is = e ∙ ap (λ (o : Outcome). o.state) (open-granted sheet (replicate 16000 0) stands zeros-long)

    pub post-answer : granted total.kw total.passes ≡ granted (available_total (of_sheet sheet)) 0
    post-answer = sym (ap answer_of is) ∙ r ∙ ap (λ (o : Outcome). o.answer) (open-granted sheet (replicate 16000 0) stands zeros-long)

    pub post-state : Opened (of_sheet sheet) after
    post-state =
        let v = valid-sheet sheet stands in
        rw after_is (opened-state (of_sheet sheet) v.interties-most v.holders-most (replicate 16000 0) zeros-long)

    found-are : (h : ℕ) → h < (of_sheet sheet).holders → at quantities h ≡ load_share_quantity (of_sheet sheet) h
    found-are h l =
        let v = valid-sheet sheet stands in
        ap (λ (k : List ℕ). at k h) (q ∙ found-granted sheet (replicate 16000 0) (replicate 32 0) stands zeros-long)
        ∙ at_fill (of_sheet sheet).holders (load_share_quantity (of_sheet sheet)) (replicate 32 0) h l (omega (arith, v.holders-most, length-replicate {A = ℕ} 32 0))

    module _ (I H : ℕ) (i : I ≡ interties after) (h : H ≡ holders after) where
      i-is : I ≡ (of_sheet sheet).interties
      i-is = i ∙ post-state.interties-are

      h-is : H ≡ (of_sheet sheet).holders
      h-is = h ∙ post-state.holders-are

      pub post-holders : H ≤ 32
      post-holders =
          let v = valid-sheet sheet stands in
          rw h-is v.holders-most

      pub post-interties : I ≤ 48
      post-interties =
          let v = valid-sheet sheet stands in
          rw i-is v.interties-most

      pub post-lines : (l m n : List ℕ) → m ≡ interties_from I H after l → n ≡ holders_from H after quantities m →
          (granted total.kw total.passes ≡ (posted sheet l).answer) × (n ≡ (posted sheet l).lines)
      post-lines l m n p q =
          let done = post-done sheet l stands in
          let first : m ≡ intertie_lines (of_sheet sheet) l = p ∙ interties-same (of_sheet sheet) after l post-state I H i-is h-is in (
            post-answer ∙ sym (ap (λ (o : Posted). o.answer) done),
            q ∙ holders-same (of_sheet sheet) after l post-state I H i-is h-is quantities found-are m
                ∙ ap (holder_lines (of_sheet sheet)) first ∙ sym (ap (λ (o : Posted). o.lines) done),
          )
