-- What opening leaves as it was: every word that no rule names, and how many words there are.
use Prim.Native.Nat.{ℕ, zero, suc, ◌+◌, ◌≤◌}
use mathlib.Core.Path.{◌≡◌, refl, ◌∙◌}
use mathlib.Core.List.{List}
use native.Mathlib.Nat.{le_step, lt-suc_self}
use native.Mathlib.Omega.{arith}
use lib.Dec.{eqb}
use lib.ListN.{set}
use lib.Seq.{get_or-set_other}
use Rattle.base.specs.Words.{at}
use Rattle.base.proofs.ChoiceLaws.{pick-by}
use Rattle.state.specs.Layout.{place, interties_at, holders_at, stage_at, last_day_at, free_row}
use Rattle.state_rows.specs.Rows.{fill_row, fill_pairs}
use Rattle.steps.specs.Inputs.{Inputs, of_sheet}
use Rattle.steps.specs.Step4a.{pre_ra_granted}
use Rattle.steps.specs.Step4b.{new_use_granted}
use Rattle.steps.specs.Step5to7.{held, step5_share, step7_total, unassigned}
use Rattle.opening.specs.Opened.{size_words, figure_words, reserved_words, stage_words, cleared_words, opened_state}
use Rattle.opening.specs.Open.{Outcome, open_refusal, opened}
use Rattle.opening.specs.Unnamed.{NoneOf, NoPair, Unnamed, UnnamedStay}

-- a place that is none of a row's first n, and of no pair of a field
row-leaves : (row n : ℕ) (f : ℕ → ℕ) (s : List ℕ) (p : ℕ) → NoneOf n (place row) p → at (fill_row row n f s) p ≡ at s p
unfolding fill_row
row-leaves row zero f s p none = refl
row-leaves row (suc n) f s p none =
    get_or-set_other (fill_row row n f s) (place row n) p (f n) 0 (none n (lt-suc_self n))
    ∙ row-leaves row n f s p (λ c l. none c (le_step l))

pairs-leave : (field m n : ℕ) (f : ℕ → ℕ → ℕ) (s : List ℕ) (p : ℕ) → NoPair n m (λ h i. place (field + h) i) p →
    at (fill_pairs field m n f s) p ≡ at s p
unfolding fill_pairs
pairs-leave field zero n f s p none = refl
pairs-leave field (suc m) n f s p none =
    row-leaves (field + m) n (f m) (fill_pairs field m n f s) p (λ i l. none m i (lt-suc_self m) l)
    ∙ pairs-leave field m n f s p (λ h i k l. none h i (le_step k) l)

-- group by group
module _ (y : Inputs) (p : ℕ) (u : Unnamed y.interties y.holders p) (s : List ℕ) where
  sizes-leave : at (size_words y s) p ≡ at s p
  unfolding size_words
  sizes-leave =
      get_or-set_other (set s interties_at y.interties) holders_at p y.holders 0 u.no-holders
      ∙ get_or-set_other s interties_at p y.interties 0 u.no-interties

  figures-leave : at (figure_words y s) p ≡ at s p
  unfolding figure_words
  figures-leave =
      row-leaves 6 y.holders (held y) _ p u.no-reserved
      ∙ row-leaves 5 y.holders (step7_total y) _ p u.no-step7-total
      ∙ row-leaves 4 y.holders (step5_share y) _ p u.no-step5-share
      ∙ row-leaves 3 y.holders y.load_share _ p u.no-load-share
      ∙ row-leaves 2 y.interties y.outside _ p u.no-outside
      ∙ row-leaves 1 y.interties y.limit s p u.no-limit

  reserved-leave : at (reserved_words y s) p ≡ at s p
  unfolding reserved_words
  reserved-leave =
      pairs-leave 71 y.holders y.interties (new_use_granted y) _ p u.no-new-use
      ∙ pairs-leave 39 y.holders y.interties (pre_ra_granted y) _ p u.no-pre-ra
      ∙ pairs-leave 7 y.holders y.interties y.existing s p u.no-existing

  stages-leave : at (stage_words y s) p ≡ at s p
  unfolding stage_words
  stages-leave =
      row-leaves 105 y.holders (step5_share y) _ p u.no-unplaced
      ∙ row-leaves 104 y.interties (unassigned y) _ p u.no-unassigned
      ∙ get_or-set_other (set s stage_at 1) last_day_at p 0 0 u.no-last-day
      ∙ get_or-set_other s stage_at p 1 0 u.no-stage

  cleared-leave : at (cleared_words y s) p ≡ at s p
  unfolding cleared_words
  cleared-leave =
      pairs-leave 237 y.holders y.interties (λ h i. 0) _ p u.no-pending
      ∙ pairs-leave 205 y.holders y.interties (λ h i. 0) _ p u.no-term
      ∙ pairs-leave 173 y.holders y.interties (λ h i. 0) _ p u.no-locked
      ∙ pairs-leave 141 y.holders y.interties (λ h i. 0) _ p u.no-taken
      ∙ pairs-leave 109 y.holders y.interties (λ h i. 0) _ p u.no-placed
      ∙ row-leaves 108 y.holders (λ h. 0) _ p u.no-takings
      ∙ row-leaves 107 y.holders (λ h. 0) _ p u.no-last-week
      ∙ row-leaves 106 y.holders (λ h. 0) s p u.no-sellers

opened-leaves : (y : Inputs) (s : List ℕ) (p : ℕ) → Unnamed y.interties y.holders p → at (opened_state y s) p ≡ at s p
unfolding opened_state
opened-leaves y s p u =
    cleared-leave y p u _ ∙ stages-leave y p u _ ∙ reserved-leave y p u _ ∙ figures-leave y p u _ ∙ sizes-leave y p u s

pub unnamed-stay : UnnamedStay
unfolding opened
unnamed-stay sheet s p u =
    pick-by (λ (o : Outcome). at o.state p ≡ at s p) (eqb (open_refusal sheet s) 0) _ _
    (λ t. opened-leaves (of_sheet sheet) s p u)
    (λ f. refl)

-- no word past the named rows is named: those of the free rows, and those past the 16,000th
pub past-unnamed : (I H p : ℕ) → I ≤ 48 → H ≤ 32 → place free_row 0 ≤ p → Unnamed I H p
past-unnamed I H p few small past =
    record {
      no-interties = omega arith;
      no-holders = omega arith;
      no-stage = omega arith;
      no-last-day = omega arith;
      no-limit = λ i l. omega arith;
      no-outside = λ i l. omega arith;
      no-unassigned = λ i l. omega arith;
      no-load-share = λ h l. omega arith;
      no-step5-share = λ h l. omega arith;
      no-step7-total = λ h l. omega arith;
      no-reserved = λ h l. omega arith;
      no-unplaced = λ h l. omega arith;
      no-sellers = λ h l. omega arith;
      no-last-week = λ h l. omega arith;
      no-takings = λ h l. omega arith;
      no-existing = λ h i k l. omega arith;
      no-pre-ra = λ h i k l. omega arith;
      no-new-use = λ h i k l. omega arith;
      no-placed = λ h i k l. omega arith;
      no-taken = λ h i k l. omega arith;
      no-locked = λ h i k l. omega arith;
      no-term = λ h i k l. omega arith;
      no-pending = λ h i k l. omega arith;
    }
