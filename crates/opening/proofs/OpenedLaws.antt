-- What each word of an opened state says.
use Prim.Native.Nat.{ℕ, ◌+◌, ◌≤◌, ◌<◌, zero-le}
use mathlib.Core.Path.{◌≡◌, refl, ◌∙◌}
use mathlib.Core.List.{List}
use native.Mathlib.Nat.{le_refl, le_trans, lt_of_lt_of_le}
use native.Mathlib.Omega.{arith}
use lib.Dec.{lit<, lit≤}
use lib.ListN.{length, set, length-set}
use Rattle.base.specs.Limits.{state_words}
use Rattle.state.specs.Layout.{interties, holders, limit_of, outside_of, load_share_of, step5_share_of, step7_total_of, reserved_of, existing_of, pre_ra_of, new_use_of, stage_of, last_day_of, unassigned_of, unplaced_of, sellers_of, last_week_of, takings_of, placed_of, taken_of, locked_of, term_of, pending_of, interties_at, holders_at, stage_at, last_day_at}
use Rattle.state.proofs.FrameLaws.{at_stored, at-other-column, SameRows, same-trans, same-within, same-store-past}
use Rattle.state_rows.specs.Rows.{fill_row, fill_pairs}
use Rattle.state_rows.proofs.RowLaws.{length-fill_row, at-fill_row, same-fill_row-past, length-fill_pairs, at-fill_pairs, same-fill_pairs-past}
use Rattle.steps.specs.Inputs.{Inputs}
use Rattle.steps.specs.Step4a.{pre_ra_granted}
use Rattle.steps.specs.Step4b.{new_use_granted}
use Rattle.steps.specs.Step5to7.{held, step5_share, step7_total, unassigned}
use Rattle.opening.specs.Opened.{size_words, figure_words, reserved_words, stage_words, cleared_words, opened_state}

-- a state t that opening with the inputs y left
pub record Opened (y : Inputs) (t : List ℕ) : Type 0 where
  pub long : state_words ≤ length t
  pub interties-are : interties t ≡ y.interties
  pub holders-are : holders t ≡ y.holders
  pub limit : (i : ℕ) → i < y.interties → limit_of t i ≡ y.limit i
  pub outside : (i : ℕ) → i < y.interties → outside_of t i ≡ y.outside i
  pub load-share : (h : ℕ) → h < y.holders → load_share_of t h ≡ y.load_share h
  pub step5-share : (h : ℕ) → h < y.holders → step5_share_of t h ≡ step5_share y h
  pub step7-total : (h : ℕ) → h < y.holders → step7_total_of t h ≡ step7_total y h
  pub reserved : (h : ℕ) → h < y.holders → reserved_of t h ≡ held y h
  pub existing : (h i : ℕ) → h < y.holders → i < y.interties → existing_of t h i ≡ y.existing h i
  pub pre-ra : (h i : ℕ) → h < y.holders → i < y.interties → pre_ra_of t h i ≡ pre_ra_granted y h i
  pub new-use : (h i : ℕ) → h < y.holders → i < y.interties → new_use_of t h i ≡ new_use_granted y h i
  pub stage : stage_of t ≡ 1
  pub last-day : last_day_of t ≡ 0
  pub unassigned-is : (i : ℕ) → i < y.interties → unassigned_of t i ≡ unassigned y i
  pub unplaced : (h : ℕ) → h < y.holders → unplaced_of t h ≡ step5_share y h
  pub sellers : (h : ℕ) → h < y.holders → sellers_of t h ≡ 0
  pub last-week : (h : ℕ) → h < y.holders → last_week_of t h ≡ 0
  pub takings : (h : ℕ) → h < y.holders → takings_of t h ≡ 0
  pub placed : (h i : ℕ) → h < y.holders → i < y.interties → placed_of t h i ≡ 0
  pub taken : (h i : ℕ) → h < y.holders → i < y.interties → taken_of t h i ≡ 0
  pub locked : (h i : ℕ) → h < y.holders → i < y.interties → locked_of t h i ≡ 0
  pub term : (h i : ℕ) → h < y.holders → i < y.interties → term_of t h i ≡ 0
  pub pending : (h i : ℕ) → h < y.holders → i < y.interties → pending_of t h i ≡ 0

-- the state after each writing, in the order of the rows
module _ (y : Inputs) where
  abbrev sizes : List ℕ → List ℕ
  sizes s = set (set s interties_at y.interties) holders_at y.holders

  abbrev limits : List ℕ → List ℕ
  limits s = fill_row 1 y.interties y.limit (sizes s)

  abbrev outsides : List ℕ → List ℕ
  outsides s = fill_row 2 y.interties y.outside (limits s)

  abbrev loads : List ℕ → List ℕ
  loads s = fill_row 3 y.holders y.load_share (outsides s)

  abbrev shares : List ℕ → List ℕ
  shares s = fill_row 4 y.holders (step5_share y) (loads s)

  abbrev totals : List ℕ → List ℕ
  totals s = fill_row 5 y.holders (step7_total y) (shares s)

  abbrev reserves : List ℕ → List ℕ
  reserves s = fill_row 6 y.holders (held y) (totals s)

  abbrev existings : List ℕ → List ℕ
  existings s = fill_pairs 7 y.holders y.interties y.existing (reserves s)

  abbrev pre_ras : List ℕ → List ℕ
  pre_ras s = fill_pairs 39 y.holders y.interties (pre_ra_granted y) (existings s)

  abbrev new_uses : List ℕ → List ℕ
  new_uses s = fill_pairs 71 y.holders y.interties (new_use_granted y) (pre_ras s)

  abbrev stages : List ℕ → List ℕ
  stages s = set (set (new_uses s) stage_at 1) last_day_at 0

  abbrev unassigneds : List ℕ → List ℕ
  unassigneds s = fill_row 104 y.interties (unassigned y) (stages s)

  abbrev unplaceds : List ℕ → List ℕ
  unplaceds s = fill_row 105 y.holders (step5_share y) (unassigneds s)

  abbrev sellers_set : List ℕ → List ℕ
  sellers_set s = fill_row 106 y.holders (λ h. 0) (unplaceds s)

  abbrev weeks : List ℕ → List ℕ
  weeks s = fill_row 107 y.holders (λ h. 0) (sellers_set s)

  abbrev counts : List ℕ → List ℕ
  counts s = fill_row 108 y.holders (λ h. 0) (weeks s)

  abbrev placeds : List ℕ → List ℕ
  placeds s = fill_pairs 109 y.holders y.interties (λ h i. 0) (counts s)

  abbrev takens : List ℕ → List ℕ
  takens s = fill_pairs 141 y.holders y.interties (λ h i. 0) (placeds s)

  abbrev lockeds : List ℕ → List ℕ
  lockeds s = fill_pairs 173 y.holders y.interties (λ h i. 0) (takens s)

  abbrev terms : List ℕ → List ℕ
  terms s = fill_pairs 205 y.holders y.interties (λ h i. 0) (lockeds s)

  abbrev pendings : List ℕ → List ℕ
  pendings s = fill_pairs 237 y.holders y.interties (λ h i. 0) (terms s)

  is_last : (s : List ℕ) → opened_state y s ≡ pendings s
  unfolding opened_state size_words figure_words reserved_words stage_words cleared_words
  is_last s = refl

-- no writing changes the length
module _ (y : Inputs) (s : List ℕ) where
  sizes-long : length (sizes y s) ≡ length s
  sizes-long = length-set (set s interties_at y.interties) holders_at y.holders ∙ length-set s interties_at y.interties

  limits-long : length (limits y s) ≡ length s
  limits-long = length-fill_row 1 y.interties y.limit (sizes y s) ∙ sizes-long

  outsides-long : length (outsides y s) ≡ length s
  outsides-long = length-fill_row 2 y.interties y.outside (limits y s) ∙ limits-long

  loads-long : length (loads y s) ≡ length s
  loads-long = length-fill_row 3 y.holders y.load_share (outsides y s) ∙ outsides-long

  shares-long : length (shares y s) ≡ length s
  shares-long = length-fill_row 4 y.holders (step5_share y) (loads y s) ∙ loads-long

  totals-long : length (totals y s) ≡ length s
  totals-long = length-fill_row 5 y.holders (step7_total y) (shares y s) ∙ shares-long

  reserves-long : length (reserves y s) ≡ length s
  reserves-long = length-fill_row 6 y.holders (held y) (totals y s) ∙ totals-long

  existings-long : length (existings y s) ≡ length s
  existings-long = length-fill_pairs 7 y.holders y.interties y.existing (reserves y s) ∙ reserves-long

  pre_ras-long : length (pre_ras y s) ≡ length s
  pre_ras-long = length-fill_pairs 39 y.holders y.interties (pre_ra_granted y) (existings y s) ∙ existings-long

  new_uses-long : length (new_uses y s) ≡ length s
  new_uses-long = length-fill_pairs 71 y.holders y.interties (new_use_granted y) (pre_ras y s) ∙ pre_ras-long

  stages-long : length (stages y s) ≡ length s
  stages-long = length-set (set (new_uses y s) stage_at 1) last_day_at 0 ∙ length-set (new_uses y s) stage_at 1 ∙ new_uses-long

  unassigneds-long : length (unassigneds y s) ≡ length s
  unassigneds-long = length-fill_row 104 y.interties (unassigned y) (stages y s) ∙ stages-long

  unplaceds-long : length (unplaceds y s) ≡ length s
  unplaceds-long = length-fill_row 105 y.holders (step5_share y) (unassigneds y s) ∙ unassigneds-long

  sellers_set-long : length (sellers_set y s) ≡ length s
  sellers_set-long = length-fill_row 106 y.holders (λ h. 0) (unplaceds y s) ∙ unplaceds-long

  weeks-long : length (weeks y s) ≡ length s
  weeks-long = length-fill_row 107 y.holders (λ h. 0) (sellers_set y s) ∙ sellers_set-long

  counts-long : length (counts y s) ≡ length s
  counts-long = length-fill_row 108 y.holders (λ h. 0) (weeks y s) ∙ weeks-long

  placeds-long : length (placeds y s) ≡ length s
  placeds-long = length-fill_pairs 109 y.holders y.interties (λ h i. 0) (counts y s) ∙ counts-long

  takens-long : length (takens y s) ≡ length s
  takens-long = length-fill_pairs 141 y.holders y.interties (λ h i. 0) (placeds y s) ∙ placeds-long

  lockeds-long : length (lockeds y s) ≡ length s
  lockeds-long = length-fill_pairs 173 y.holders y.interties (λ h i. 0) (takens y s) ∙ takens-long

  terms-long : length (terms y s) ≡ length s
  terms-long = length-fill_pairs 205 y.holders y.interties (λ h i. 0) (lockeds y s) ∙ lockeds-long

  pendings-long : length (pendings y s) ≡ length s
  pendings-long = length-fill_pairs 237 y.holders y.interties (λ h i. 0) (terms y s) ∙ terms-long

-- the rows before each writing are the same at the end
module _ (y : Inputs) (few : y.interties ≤ 48) (small : y.holders ≤ 32) (s : List ℕ) where
  before-pendings : SameRows 0 237 (terms y s) (pendings y s)
  before-pendings = same-fill_pairs-past 0 237 237 y.holders y.interties (λ h i. 0) (terms y s) few (le_refl 237)

  before-terms : SameRows 0 205 (lockeds y s) (pendings y s)
  before-terms = same-trans (same-fill_pairs-past 0 205 205 y.holders y.interties (λ h i. 0) (lockeds y s) few (le_refl 205)) (same-within (le_refl 0) (lit≤ tt) before-pendings)

  before-lockeds : SameRows 0 173 (takens y s) (pendings y s)
  before-lockeds = same-trans (same-fill_pairs-past 0 173 173 y.holders y.interties (λ h i. 0) (takens y s) few (le_refl 173)) (same-within (le_refl 0) (lit≤ tt) before-terms)

  before-takens : SameRows 0 141 (placeds y s) (pendings y s)
  before-takens = same-trans (same-fill_pairs-past 0 141 141 y.holders y.interties (λ h i. 0) (placeds y s) few (le_refl 141)) (same-within (le_refl 0) (lit≤ tt) before-lockeds)

  before-placeds : SameRows 0 109 (counts y s) (pendings y s)
  before-placeds = same-trans (same-fill_pairs-past 0 109 109 y.holders y.interties (λ h i. 0) (counts y s) few (le_refl 109)) (same-within (le_refl 0) (lit≤ tt) before-takens)

  before-counts : SameRows 0 108 (weeks y s) (pendings y s)
  before-counts = same-trans (same-fill_row-past 0 108 108 y.holders (λ h. 0) (weeks y s) (le_trans small (lit≤ tt)) (le_refl 108)) (same-within (le_refl 0) (lit≤ tt) before-placeds)

  before-weeks : SameRows 0 107 (sellers_set y s) (pendings y s)
  before-weeks = same-trans (same-fill_row-past 0 107 107 y.holders (λ h. 0) (sellers_set y s) (le_trans small (lit≤ tt)) (le_refl 107)) (same-within (le_refl 0) (lit≤ tt) before-counts)

  before-sellers_set : SameRows 0 106 (unplaceds y s) (pendings y s)
  before-sellers_set = same-trans (same-fill_row-past 0 106 106 y.holders (λ h. 0) (unplaceds y s) (le_trans small (lit≤ tt)) (le_refl 106)) (same-within (le_refl 0) (lit≤ tt) before-weeks)

  before-unplaceds : SameRows 0 105 (unassigneds y s) (pendings y s)
  before-unplaceds = same-trans (same-fill_row-past 0 105 105 y.holders (step5_share y) (unassigneds y s) (le_trans small (lit≤ tt)) (le_refl 105)) (same-within (le_refl 0) (lit≤ tt) before-sellers_set)

  before-unassigneds : SameRows 0 104 (stages y s) (pendings y s)
  before-unassigneds = same-trans (same-fill_row-past 0 104 104 y.interties (unassigned y) (stages y s) few (le_refl 104)) (same-within (le_refl 0) (lit≤ tt) before-unplaceds)

  before-stages : SameRows 0 103 (new_uses y s) (pendings y s)
  before-stages = same-trans (same-trans (same-store-past 0 103 (new_uses y s) 103 0 1 (lit< tt) (le_refl 103)) (same-store-past 0 103 (set (new_uses y s) stage_at 1) 103 1 0 (lit< tt) (le_refl 103))) (same-within (le_refl 0) (lit≤ tt) before-unassigneds)

  before-new_uses : SameRows 0 71 (pre_ras y s) (pendings y s)
  before-new_uses = same-trans (same-fill_pairs-past 0 71 71 y.holders y.interties (new_use_granted y) (pre_ras y s) few (le_refl 71)) (same-within (le_refl 0) (lit≤ tt) before-stages)

  before-pre_ras : SameRows 0 39 (existings y s) (pendings y s)
  before-pre_ras = same-trans (same-fill_pairs-past 0 39 39 y.holders y.interties (pre_ra_granted y) (existings y s) few (le_refl 39)) (same-within (le_refl 0) (lit≤ tt) before-new_uses)

  before-existings : SameRows 0 7 (reserves y s) (pendings y s)
  before-existings = same-trans (same-fill_pairs-past 0 7 7 y.holders y.interties y.existing (reserves y s) few (le_refl 7)) (same-within (le_refl 0) (lit≤ tt) before-pre_ras)

  before-reserves : SameRows 0 6 (totals y s) (pendings y s)
  before-reserves = same-trans (same-fill_row-past 0 6 6 y.holders (held y) (totals y s) (le_trans small (lit≤ tt)) (le_refl 6)) (same-within (le_refl 0) (lit≤ tt) before-existings)

  before-totals : SameRows 0 5 (shares y s) (pendings y s)
  before-totals = same-trans (same-fill_row-past 0 5 5 y.holders (step7_total y) (shares y s) (le_trans small (lit≤ tt)) (le_refl 5)) (same-within (le_refl 0) (lit≤ tt) before-reserves)

  before-shares : SameRows 0 4 (loads y s) (pendings y s)
  before-shares = same-trans (same-fill_row-past 0 4 4 y.holders (step5_share y) (loads y s) (le_trans small (lit≤ tt)) (le_refl 4)) (same-within (le_refl 0) (lit≤ tt) before-totals)

  before-loads : SameRows 0 3 (outsides y s) (pendings y s)
  before-loads = same-trans (same-fill_row-past 0 3 3 y.holders y.load_share (outsides y s) (le_trans small (lit≤ tt)) (le_refl 3)) (same-within (le_refl 0) (lit≤ tt) before-shares)

  before-outsides : SameRows 0 2 (limits y s) (pendings y s)
  before-outsides = same-trans (same-fill_row-past 0 2 2 y.interties y.outside (limits y s) few (le_refl 2)) (same-within (le_refl 0) (lit≤ tt) before-loads)

  before-limits : SameRows 0 1 (sizes y s) (pendings y s)
  before-limits = same-trans (same-fill_row-past 0 1 1 y.interties y.limit (sizes y s) few (le_refl 1)) (same-within (le_refl 0) (lit≤ tt) before-outsides)

-- each word
module _ (y : Inputs) (few : y.interties ≤ 48) (small : y.holders ≤ 32) (s : List ℕ) (long : state_words ≤ length s) where
  interties-word : interties (pendings y s) ≡ y.interties
  interties-word =
      (before-limits y few small s).same 0 0 zero-le (lit< tt) (lit< tt)
      ∙ at-other-column (set s interties_at y.interties) 0 1 y.holders 0 0 (lit< tt) (lit< tt) (omega arith)
      ∙ at_stored s 0 0 y.interties long (lit< tt) (lit< tt)

  holders-word : holders (pendings y s) ≡ y.holders
  holders-word =
      (before-limits y few small s).same 0 1 zero-le (lit< tt) (lit< tt)
      ∙ at_stored (set s interties_at y.interties) 0 1 y.holders (rw (length-set s interties_at y.interties) long) (lit< tt) (lit< tt)

  stage-word : stage_of (pendings y s) ≡ 1
  stage-word =
      (before-unassigneds y few small s).same 103 0 zero-le (lit< tt) (lit< tt)
      ∙ at-other-column (set (new_uses y s) stage_at 1) 103 1 0 103 0 (lit< tt) (lit< tt) (omega arith)
      ∙ at_stored (new_uses y s) 103 0 1 (rw (new_uses-long y s) long) (lit< tt) (lit< tt)

  last-day-word : last_day_of (pendings y s) ≡ 0
  last-day-word =
      (before-unassigneds y few small s).same 103 1 zero-le (lit< tt) (lit< tt)
      ∙ at_stored (set (new_uses y s) stage_at 1) 103 1 0 (rw (length-set (new_uses y s) stage_at 1 ∙ new_uses-long y s) long) (lit< tt) (lit< tt)

  limit-word : (i : ℕ) → i < y.interties → limit_of (pendings y s) i ≡ y.limit i
  limit-word i l =
      (before-outsides y few small s).same 1 i zero-le (lit< tt) (lt_of_lt_of_le l few)
      ∙ at-fill_row 1 y.interties y.limit (sizes y s) i (rw (sizes-long y s) long) (lit< tt) few l

  outside-word : (i : ℕ) → i < y.interties → outside_of (pendings y s) i ≡ y.outside i
  outside-word i l =
      (before-loads y few small s).same 2 i zero-le (lit< tt) (lt_of_lt_of_le l few)
      ∙ at-fill_row 2 y.interties y.outside (limits y s) i (rw (limits-long y s) long) (lit< tt) few l

  load-share-word : (h : ℕ) → h < y.holders → load_share_of (pendings y s) h ≡ y.load_share h
  load-share-word h l =
      (before-shares y few small s).same 3 h zero-le (lit< tt) (lt_of_lt_of_le l (le_trans small (lit≤ tt)))
      ∙ at-fill_row 3 y.holders y.load_share (outsides y s) h (rw (outsides-long y s) long) (lit< tt) (le_trans small (lit≤ tt)) l

  step5-share-word : (h : ℕ) → h < y.holders → step5_share_of (pendings y s) h ≡ (step5_share y) h
  step5-share-word h l =
      (before-totals y few small s).same 4 h zero-le (lit< tt) (lt_of_lt_of_le l (le_trans small (lit≤ tt)))
      ∙ at-fill_row 4 y.holders (step5_share y) (loads y s) h (rw (loads-long y s) long) (lit< tt) (le_trans small (lit≤ tt)) l

  step7-total-word : (h : ℕ) → h < y.holders → step7_total_of (pendings y s) h ≡ (step7_total y) h
  step7-total-word h l =
      (before-reserves y few small s).same 5 h zero-le (lit< tt) (lt_of_lt_of_le l (le_trans small (lit≤ tt)))
      ∙ at-fill_row 5 y.holders (step7_total y) (shares y s) h (rw (shares-long y s) long) (lit< tt) (le_trans small (lit≤ tt)) l

  reserved-word : (h : ℕ) → h < y.holders → reserved_of (pendings y s) h ≡ (held y) h
  reserved-word h l =
      (before-existings y few small s).same 6 h zero-le (lit< tt) (lt_of_lt_of_le l (le_trans small (lit≤ tt)))
      ∙ at-fill_row 6 y.holders (held y) (totals y s) h (rw (totals-long y s) long) (lit< tt) (le_trans small (lit≤ tt)) l

  existing-word : (h i : ℕ) → h < y.holders → i < y.interties → existing_of (pendings y s) h i ≡ y.existing h i
  existing-word h i k l =
      (before-pre_ras y few small s).same (7 + h) i zero-le (omega arith) (lt_of_lt_of_le l few)
      ∙ at-fill_pairs 7 y.holders y.interties y.existing (reserves y s) h i (rw (reserves-long y s) long) (omega arith) few k l

  pre-ra-word : (h i : ℕ) → h < y.holders → i < y.interties → pre_ra_of (pendings y s) h i ≡ (pre_ra_granted y) h i
  pre-ra-word h i k l =
      (before-new_uses y few small s).same (39 + h) i zero-le (omega arith) (lt_of_lt_of_le l few)
      ∙ at-fill_pairs 39 y.holders y.interties (pre_ra_granted y) (existings y s) h i (rw (existings-long y s) long) (omega arith) few k l

  new-use-word : (h i : ℕ) → h < y.holders → i < y.interties → new_use_of (pendings y s) h i ≡ (new_use_granted y) h i
  new-use-word h i k l =
      (before-stages y few small s).same (71 + h) i zero-le (omega arith) (lt_of_lt_of_le l few)
      ∙ at-fill_pairs 71 y.holders y.interties (new_use_granted y) (pre_ras y s) h i (rw (pre_ras-long y s) long) (omega arith) few k l

  unassigned-word : (i : ℕ) → i < y.interties → unassigned_of (pendings y s) i ≡ (unassigned y) i
  unassigned-word i l =
      (before-unplaceds y few small s).same 104 i zero-le (lit< tt) (lt_of_lt_of_le l few)
      ∙ at-fill_row 104 y.interties (unassigned y) (stages y s) i (rw (stages-long y s) long) (lit< tt) few l

  unplaced-word : (h : ℕ) → h < y.holders → unplaced_of (pendings y s) h ≡ (step5_share y) h
  unplaced-word h l =
      (before-sellers_set y few small s).same 105 h zero-le (lit< tt) (lt_of_lt_of_le l (le_trans small (lit≤ tt)))
      ∙ at-fill_row 105 y.holders (step5_share y) (unassigneds y s) h (rw (unassigneds-long y s) long) (lit< tt) (le_trans small (lit≤ tt)) l

  sellers-word : (h : ℕ) → h < y.holders → sellers_of (pendings y s) h ≡ 0
  sellers-word h l =
      (before-weeks y few small s).same 106 h zero-le (lit< tt) (lt_of_lt_of_le l (le_trans small (lit≤ tt)))
      ∙ at-fill_row 106 y.holders (λ h. 0) (unplaceds y s) h (rw (unplaceds-long y s) long) (lit< tt) (le_trans small (lit≤ tt)) l

  last-week-word : (h : ℕ) → h < y.holders → last_week_of (pendings y s) h ≡ 0
  last-week-word h l =
      (before-counts y few small s).same 107 h zero-le (lit< tt) (lt_of_lt_of_le l (le_trans small (lit≤ tt)))
      ∙ at-fill_row 107 y.holders (λ h. 0) (sellers_set y s) h (rw (sellers_set-long y s) long) (lit< tt) (le_trans small (lit≤ tt)) l

  takings-word : (h : ℕ) → h < y.holders → takings_of (pendings y s) h ≡ 0
  takings-word h l =
      (before-placeds y few small s).same 108 h zero-le (lit< tt) (lt_of_lt_of_le l (le_trans small (lit≤ tt)))
      ∙ at-fill_row 108 y.holders (λ h. 0) (weeks y s) h (rw (weeks-long y s) long) (lit< tt) (le_trans small (lit≤ tt)) l

  placed-word : (h i : ℕ) → h < y.holders → i < y.interties → placed_of (pendings y s) h i ≡ 0
  placed-word h i k l =
      (before-takens y few small s).same (109 + h) i zero-le (omega arith) (lt_of_lt_of_le l few)
      ∙ at-fill_pairs 109 y.holders y.interties (λ h i. 0) (counts y s) h i (rw (counts-long y s) long) (omega arith) few k l

  taken_word : (h i : ℕ) → h < y.holders → i < y.interties → taken_of (pendings y s) h i ≡ 0
  taken_word h i k l =
      (before-lockeds y few small s).same (141 + h) i zero-le (omega arith) (lt_of_lt_of_le l few)
      ∙ at-fill_pairs 141 y.holders y.interties (λ h i. 0) (placeds y s) h i (rw (placeds-long y s) long) (omega arith) few k l

  locked-word : (h i : ℕ) → h < y.holders → i < y.interties → locked_of (pendings y s) h i ≡ 0
  locked-word h i k l =
      (before-terms y few small s).same (173 + h) i zero-le (omega arith) (lt_of_lt_of_le l few)
      ∙ at-fill_pairs 173 y.holders y.interties (λ h i. 0) (takens y s) h i (rw (takens-long y s) long) (omega arith) few k l

  term-word : (h i : ℕ) → h < y.holders → i < y.interties → term_of (pendings y s) h i ≡ 0
  term-word h i k l =
      (before-pendings y few small s).same (205 + h) i zero-le (omega arith) (lt_of_lt_of_le l few)
      ∙ at-fill_pairs 205 y.holders y.interties (λ h i. 0) (lockeds y s) h i (rw (lockeds-long y s) long) (omega arith) few k l

  pending-word : (h i : ℕ) → h < y.holders → i < y.interties → pending_of (pendings y s) h i ≡ 0
  pending-word h i k l =
      at-fill_pairs 237 y.holders y.interties (λ h i. 0) (terms y s) h i (rw (terms-long y s) long) (omega arith) few k l

  pub opened-state : Opened y (opened_state y s)
  opened-state =
      rw (is_last y s)
      (record {
        long = rw (pendings-long y s) long;
        interties-are = interties-word;
        holders-are = holders-word;
        limit = limit-word;
        outside = outside-word;
        load-share = load-share-word;
        step5-share = step5-share-word;
        step7-total = step7-total-word;
        reserved = reserved-word;
        existing = existing-word;
        pre-ra = pre-ra-word;
        new-use = new-use-word;
        stage = stage-word;
        last-day = last-day-word;
        unassigned-is = unassigned-word;
        unplaced = unplaced-word;
        sellers = sellers-word;
        last-week = last-week-word;
        takings = takings-word;
        placed = placed-word;
        taken = taken_word;
        locked = locked-word;
        term = term-word;
        pending = pending-word;
      })
