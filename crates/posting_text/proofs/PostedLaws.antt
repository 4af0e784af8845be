-- The text of a sheet by cases: refused, or posted.
use Prim.Native.Nat.{ℕ, ◌+◌, ◌*◌, ◌≤◌, ◌<◌}
use mathlib.Core.Path.{◌≡◌, refl, sym, ap, ◌∙◌}
use mathlib.Core.List.{List, [], ◌∷◌, ◌++◌}
use native.Mathlib.Omega.{arith}
use Rattle.std.specs.Prelude.{Result, Ok, Err}
use lib.Dec.{eqb, ltb}
use lib.ListN.{length, replicate, length-replicate, length-append}
use borrow.Author.Tests.{eqb-true, ne_eqb, le-ltb}
use Rattle.base.specs.Choice.{pick}
use Rattle.base.specs.declared.Answer.{Answer}
use Rattle.base.specs.declared.Granted.{Granted}
use Rattle.base.specs.declared.refusals.Refusal.{Refusal}
use Rattle.base.specs.Refused.{number_of, answer_of}
use Rattle.base.specs.Words.{tab}
use Rattle.base.proofs.RefusedLaws.{numbered}
use Rattle.base.proofs.ChoiceLaws.{pick-by}
use Rattle.sheet_records.specs.Sheet.{interties, holders}
use Rattle.sheet_records.specs.Refusal.{sheet_refusal}
use Rattle.sheet_reading.proofs.SheetLaws.{first-words, standing}
use Rattle.steps.specs.Inputs.{Inputs, of_sheet}
use Rattle.steps.specs.Step2.{available_total}
use Rattle.posting.specs.Post.{Posted, posted}
use Rattle.posting.proofs.PostLaws.{post-done}
use Rattle.posting.proofs.PostedRows.{Rows, posted-rows}
use Rattle.text.specs.Written.{appended}
use Rattle.text.specs.Lines.{blank, bounded_line, each}
use Rattle.text.proofs.PutLaws.{appended-fits}
use Rattle.text.proofs.EachLaws.{length-each, each_same}
use Rattle.posting_text.specs.Text.{letter_t, letter_i, letter_r, line, intertie_line, holder_line, posting_text, refusal_line, text_of}
use Rattle.posting_text.specs.Workers.Columns.{intertie_by_rows, holder_by_rows, lines_text, fresh}
use Rattle.posting_text.proofs.TextLaws.{length-short, by-rows-few}

-- rows that have a posting's figures
module _ (y : Inputs) (l : List ℕ) (r : Rows y l) where
  intertie-same : (i : ℕ) → i < y.interties → intertie_by_rows l i ≡ intertie_line y i
  unfolding intertie_by_rows tab
  intertie-same i k = rw (r.limit i k, r.outside i k, r.existing i k, r.pre-ra i k, r.new-use i k, r.unassigned-is i k) refl

  holder-same : (h : ℕ) → h < y.holders → holder_by_rows l h ≡ holder_line y h
  unfolding holder_by_rows tab
  holder-same h k = rw (r.load-share h k, r.quantity h k, r.reserved h k, r.step5-share h k) refl

  -- their text is the posting's
  pub rows-text : lines_text y.interties y.holders (available_total y) l ≡ posting_text y
  unfolding lines_text posting_text
  rows-text =
      let first : each y.interties (intertie_by_rows l) ≡ each y.interties (intertie_line y) =
      each_same y.interties (intertie_by_rows l) (intertie_line y) intertie-same in
      let second : each y.holders (holder_by_rows l) ≡ each y.holders (holder_line y) =
      each_same y.holders (holder_by_rows l) (holder_line y) holder-same in
      cc

-- a line of one number, put into a text that is empty
short-put : (letter n : ℕ) (l m : List ℕ) → l ≡ [] → m ≡ appended 12069 (bounded_line (letter ∷ []) blank (n ∷ [])) l → m ≡ line letter (n ∷ [])
unfolding bounded_line
short-put letter n l m empty put =
    put
    ∙ appended-fits 12069 (line letter (n ∷ [])) l (omega (arith, ap length empty, length-short letter n))
    ∙ ap (λ (t : List ℕ). t ++ line letter (n ∷ [])) empty

module _ (s : List ℕ) where
  -- the number that the posting answers is the sheet's
  number_is : (fresh s).answer.refusal ≡ sheet_refusal s
  unfolding posted
  number_is =
      pick-by (λ (p : Posted). p.answer.refusal ≡ sheet_refusal s) (eqb (sheet_refusal s) 0) _ _ (λ e. sym (eqb-true (sheet_refusal s) 0 e)) (λ _. refl)

  -- the text of a sheet that stands, by the rows of its posting
  module _ (stands : sheet_refusal s ≡ 0) where
    fresh-rows : Rows (of_sheet s) (fresh s).lines
    fresh-rows =
        let z = (standing s stands).sizes in
        rw (post-done s (replicate 480 0) stands)
        (posted-rows (of_sheet s) (replicate 480 0) z.few-interties z.few-holders (length-replicate {A = ℕ} 480 0))

    pub text-by-rows : text_of s ≡ lines_text (interties s) (holders s) (fresh s).answer.kw (fresh s).lines
    unfolding text_of
    text-by-rows =
        let kw : (fresh s).answer.kw ≡ available_total (of_sheet s) = ap (λ (p : Posted). p.answer.kw) (post-done s (replicate 480 0) stands) in
        rw (stands, kw) (sym (rows-text (of_sheet s) (fresh s).lines fresh-rows))

  module _ (outcome : Result Granted Refusal) (is : answer_of outcome ≡ (fresh s).answer) where
    -- what `posting_text` leaves where the sheet is refused
    module _ (refusal : Refusal) (e : outcome ≡ Err refusal) where
      number : number_of refusal ≡ sheet_refusal s
      number = sym (ap (λ (o : Result Granted Refusal). (answer_of o).refusal) e) ∙ ap (λ (a : Answer). a.refusal) is ∙ number_is

      text-refused : text_of s ≡ refusal_line (number_of refusal)
      unfolding text_of
      text-refused = rw (ne_eqb (sheet_refusal s) 0 (λ z. omega (arith, numbered refusal, number ∙ z)), number) refl

      pub refused-text : (figure : ℕ) (l n : List ℕ) → figure ≡ number_of refusal → l ≡ [] →
          n ≡ appended 12069 (bounded_line (letter_r ∷ []) blank (figure ∷ [])) l → n ≡ text_of s
      refused-text figure l n f empty put = short-put letter_r figure l n empty put ∙ ap refusal_line f ∙ sym text-refused

    -- and where it stands
    module _ (total : Granted) (e : outcome ≡ Ok total) where
      total_is : total.kw ≡ (fresh s).answer.kw
      total_is = sym (ap (λ (o : Result Granted Refusal). (answer_of o).kw) e) ∙ ap (λ (a : Answer). a.kw) is

      stands : sheet_refusal s ≡ 0
      stands = sym number_is ∙ sym (ap (λ (a : Answer). a.refusal) is) ∙ ap (λ (o : Result Granted Refusal). (answer_of o).refusal) e

      -- I and H are read
      pub size_is : (n m : ℕ) → n ≡ pick (ltb (length s) 12) 0 m → n ≡ m
      size_is n m e = e ∙ ap (λ b. pick b 0 m) (le-ltb (length s) 12 (first-words s stands))

      module _ (I H : ℕ) (i : I ≡ pick (ltb (length s) 12) 0 (interties s)) (h : H ≡ pick (ltb (length s) 12) 0 (holders s)) where
        pub few-interties : I ≤ 48
        few-interties = omega (arith, size_is I (interties s) i, (standing s stands).sizes.few-interties)

        pub few-holders : H ≤ 32
        few-holders = omega (arith, size_is H (holders s) h, (standing s stands).sizes.few-holders)

        module _ (numbers l t : List ℕ) (lines : numbers ≡ (fresh s).lines) (empty : l ≡ [])
            (first : t ≡ appended 12069 (bounded_line (letter_t ∷ []) blank (total.kw ∷ [])) l) where
          pub interties-room : length t + 149 * I ≤ 12069
          interties-room = omega (arith, ap length (short-put letter_t total.kw l t empty first), length-short letter_t total.kw, few-interties)

          module _ (a : List ℕ) (second : a ≡ t ++ each I (intertie_by_rows numbers)) where
            pub holders-room : length a + 149 * H ≤ 12069
            unfolding intertie_by_rows
            holders-room =
                omega (
                  arith,
                  ap length (short-put letter_t total.kw l t empty first),
                  length-short letter_t total.kw,
                  ap length second,
                  length-append t (each I (intertie_by_rows numbers)),
                  length-each I 149 (intertie_by_rows numbers) (λ n. by-rows-few numbers letter_i 0 6 n (omega arith)),
                  few-interties,
                  few-holders,
                )

            pub done-text : (b : List ℕ) → b ≡ a ++ each H (holder_by_rows numbers) → b ≡ text_of s
            unfolding lines_text
            done-text b third =
                third
                ∙ ap (λ (u : List ℕ). u ++ each H (holder_by_rows numbers)) second
                ∙ ap (λ (u : List ℕ). u ++ each I (intertie_by_rows numbers) ++ each H (holder_by_rows numbers)) (short-put letter_t total.kw l t empty first)
                ∙ ap (λ (k : ℕ). lines_text k H total.kw numbers) (size_is I (interties s) i)
                ∙ ap (λ (k : ℕ). lines_text (interties s) k total.kw numbers) (size_is H (holders s) h)
                ∙ ap (λ (n : ℕ). lines_text (interties s) (holders s) n numbers) total_is
                ∙ ap (λ (u : List ℕ). lines_text (interties s) (holders s) (fresh s).answer.kw u) lines
                ∙ sym (text-by-rows stands)
