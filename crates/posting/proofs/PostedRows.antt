-- What stands in each row of a posting: the figure of each intertie and of each holder.
use Prim.Native.Nat.{ℕ, zero, suc, ◌≤◌, ◌<◌}
use mathlib.Core.Path.{◌≡◌, ◌∙◌}
use mathlib.Core.Logic.{⊎_elim}
use mathlib.Core.List.{List}
use native.Mathlib.Nat.{not-suc-le-zero}
use native.Mathlib.Omega.{arith}
use lib.ListN.{length}
use lib.Seq.{get_or-set_same}
use Rattle.base.specs.Words.{at}
use Rattle.base.proofs.SumLaws.{below_suc}
use Rattle.state.specs.Layout.{place}
use Rattle.state.proofs.FrameLaws.{at-other-column}
use Rattle.state_rows.specs.Rows.{fill_row}
use Rattle.state_rows.proofs.RowLaws.{length-fill_row, at-fill_row-apart}
use Rattle.steps.specs.Inputs.{Inputs}
use Rattle.steps.specs.Step2.{load_share_quantity}
use Rattle.steps.specs.Step4a.{existing_on}
use Rattle.steps.specs.Step5to7.{held, step5_share, unassigned}
use Rattle.posting.specs.Rows.{limit_line, outside_line, existing_line, pre_ra_line, new_use_line, unassigned_line}
use Rattle.posting.specs.Rows.{load_share_line, quantity_line, reserved_line, step5_share_line}
use Rattle.posting.specs.Post.{pre_ra_on, new_use_on, intertie_lines, holder_lines}

-- a column of a row that a list has whole
in_row : (row n : ℕ) (f : ℕ → ℕ) (l : List ℕ) (c : ℕ) → place row 48 ≤ length l → n ≤ 48 → c < n → at (fill_row row n f l) (place row c) ≡ f c
unfolding fill_row
in_row row zero f l c room most k = absurd (not-suc-le-zero k)
in_row row (suc n) f l c room most k =
    ⊎_elim
    (λ (e : c ≡ n).
    let inside : place row n < length (fill_row row n f l) = omega (arith, length-fill_row row n f l) in
    rw e (get_or-set_same (fill_row row n f l) (place row n) (f n) 0 inside))
    (λ (m : c < n).
    at-other-column (fill_row row n f l) row n (f n) row c most (omega arith) (omega arith)
    ∙ in_row row n f l c room (omega arith) m)
    (below_suc k)

-- each figure in its row
pub record Rows (y : Inputs) (l : List ℕ) : Type 0 where
  pub limit : (i : ℕ) → i < y.interties → at l (place limit_line i) ≡ y.limit i
  pub outside : (i : ℕ) → i < y.interties → at l (place outside_line i) ≡ y.outside i
  pub existing : (i : ℕ) → i < y.interties → at l (place existing_line i) ≡ existing_on y i
  pub pre-ra : (i : ℕ) → i < y.interties → at l (place pre_ra_line i) ≡ pre_ra_on y i
  pub new-use : (i : ℕ) → i < y.interties → at l (place new_use_line i) ≡ new_use_on y i
  pub unassigned-is : (i : ℕ) → i < y.interties → at l (place unassigned_line i) ≡ unassigned y i
  pub load-share : (h : ℕ) → h < y.holders → at l (place load_share_line h) ≡ y.load_share h
  pub quantity : (h : ℕ) → h < y.holders → at l (place quantity_line h) ≡ load_share_quantity y h
  pub reserved : (h : ℕ) → h < y.holders → at l (place reserved_line h) ≡ held y h
  pub step5-share : (h : ℕ) → h < y.holders → at l (place step5_share_line h) ≡ step5_share y h

module _ (y : Inputs) (l : List ℕ) (few : y.interties ≤ 48) (low : y.holders ≤ 32) (long : length l ≡ 480) where
  -- the rows up to each
  abbrev to0 : List ℕ
  to0 = fill_row 0 y.interties y.limit l

  abbrev to1 : List ℕ
  to1 = fill_row 1 y.interties y.outside to0

  abbrev to2 : List ℕ
  to2 = fill_row 2 y.interties (existing_on y) to1

  abbrev to3 : List ℕ
  to3 = fill_row 3 y.interties (pre_ra_on y) to2

  abbrev to4 : List ℕ
  to4 = fill_row 4 y.interties (new_use_on y) to3

  abbrev to5 : List ℕ
  to5 = fill_row 5 y.interties (unassigned y) to4

  abbrev to6 : List ℕ
  to6 = fill_row 6 y.holders y.load_share to5

  abbrev to7 : List ℕ
  to7 = fill_row 7 y.holders (load_share_quantity y) to6

  abbrev to8 : List ℕ
  to8 = fill_row 8 y.holders (held y) to7

  abbrev to9 : List ℕ
  to9 = fill_row 9 y.holders (step5_share y) to8

  -- a row stays as the later ones are written
  from8 : (r c : ℕ) → r < 9 → c < 48 → at to9 (place r c) ≡ at to8 (place r c)
  from8 r c k b = at-fill_row-apart 9 y.holders (step5_share y) to8 r c (omega arith) b (omega arith)

  from7 : (r c : ℕ) → r < 8 → c < 48 → at to9 (place r c) ≡ at to7 (place r c)
  from7 r c k b = from8 r c (omega arith) b ∙ at-fill_row-apart 8 y.holders (held y) to7 r c (omega arith) b (omega arith)

  from6 : (r c : ℕ) → r < 7 → c < 48 → at to9 (place r c) ≡ at to6 (place r c)
  from6 r c k b = from7 r c (omega arith) b ∙ at-fill_row-apart 7 y.holders (load_share_quantity y) to6 r c (omega arith) b (omega arith)

  from5 : (r c : ℕ) → r < 6 → c < 48 → at to9 (place r c) ≡ at to5 (place r c)
  from5 r c k b = from6 r c (omega arith) b ∙ at-fill_row-apart 6 y.holders y.load_share to5 r c (omega arith) b (omega arith)

  from4 : (r c : ℕ) → r < 5 → c < 48 → at to9 (place r c) ≡ at to4 (place r c)
  from4 r c k b = from5 r c (omega arith) b ∙ at-fill_row-apart 5 y.interties (unassigned y) to4 r c few b (omega arith)

  from3 : (r c : ℕ) → r < 4 → c < 48 → at to9 (place r c) ≡ at to3 (place r c)
  from3 r c k b = from4 r c (omega arith) b ∙ at-fill_row-apart 4 y.interties (new_use_on y) to3 r c few b (omega arith)

  from2 : (r c : ℕ) → r < 3 → c < 48 → at to9 (place r c) ≡ at to2 (place r c)
  from2 r c k b = from3 r c (omega arith) b ∙ at-fill_row-apart 3 y.interties (pre_ra_on y) to2 r c few b (omega arith)

  from1 : (r c : ℕ) → r < 2 → c < 48 → at to9 (place r c) ≡ at to1 (place r c)
  from1 r c k b = from2 r c (omega arith) b ∙ at-fill_row-apart 2 y.interties (existing_on y) to1 r c few b (omega arith)

  from0 : (r c : ℕ) → r < 1 → c < 48 → at to9 (place r c) ≡ at to0 (place r c)
  from0 r c k b = from1 r c (omega arith) b ∙ at-fill_row-apart 1 y.interties y.outside to0 r c few b (omega arith)

  -- the rows of a posting
  pub posted-rows : Rows y (holder_lines y (intertie_lines y l))
  unfolding intertie_lines holder_lines
  posted-rows =
      record {
        limit = λ i k. from0 0 i (omega arith) (omega arith) ∙ in_row 0 y.interties y.limit l i (omega arith) few k;
        outside = λ i k. from1 1 i (omega arith) (omega arith) ∙ in_row 1 y.interties y.outside to0 i (simp length-fill_row (omega arith)) few k;
        existing = λ i k. from2 2 i (omega arith) (omega arith) ∙ in_row 2 y.interties (existing_on y) to1 i (simp length-fill_row (omega arith)) few k;
        pre-ra = λ i k. from3 3 i (omega arith) (omega arith) ∙ in_row 3 y.interties (pre_ra_on y) to2 i (simp length-fill_row (omega arith)) few k;
        new-use = λ i k. from4 4 i (omega arith) (omega arith) ∙ in_row 4 y.interties (new_use_on y) to3 i (simp length-fill_row (omega arith)) few k;
        unassigned-is = λ i k.
            from5 5 i (omega arith) (omega arith) ∙ in_row 5 y.interties (unassigned y) to4 i (simp length-fill_row (omega arith)) few k;
        load-share = λ h k.
            from6 6 h (omega arith) (omega arith) ∙ in_row 6 y.holders y.load_share to5 h (simp length-fill_row (omega arith)) (omega arith) k;
        quantity = λ h k.
            from7 7 h (omega arith) (omega arith) ∙ in_row 7 y.holders (load_share_quantity y) to6 h (simp length-fill_row (omega arith)) (omega arith) k;
        reserved = λ h k.
            from8 8 h (omega arith) (omega arith) ∙ in_row 8 y.holders (held y) to7 h (simp length-fill_row (omega arith)) (omega arith) k;
        step5-share = λ h k. in_row 9 y.holders (step5_share y) to8 h (simp length-fill_row (omega arith)) (omega arith) k;
      }
