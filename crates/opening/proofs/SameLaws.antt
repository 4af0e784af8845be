-- The same figures open to the same state, over any words.
use Prim.Native.Nat.{ℕ, ◌<◌}
use mathlib.Core.Path.{◌≡◌, refl}
use mathlib.Core.List.{List}
use Rattle.steps.specs.Inputs.{Inputs}
use Rattle.steps.specs.Step4a.{pre_ra_granted}
use Rattle.steps.specs.Step4b.{new_use_granted}
use Rattle.steps.specs.Step5to7.{held, step5_share, step7_total, unassigned}
use Rattle.opening.specs.Opened.{size_words, figure_words, reserved_words, stage_words, cleared_words, opened_state}
use Rattle.opening.proofs.WriteLaws.{row_same, pairs-same}

-- every figure that opening writes
pub record SameFigures (y z : Inputs) : Type 0 where
  pub interties : y.interties ≡ z.interties
  pub holders : y.holders ≡ z.holders
  pub limit : (i : ℕ) → i < z.interties → y.limit i ≡ z.limit i
  pub outside : (i : ℕ) → i < z.interties → y.outside i ≡ z.outside i
  pub load-share : (h : ℕ) → h < z.holders → y.load_share h ≡ z.load_share h
  pub share : (h : ℕ) → h < z.holders → step5_share y h ≡ step5_share z h
  pub total : (h : ℕ) → h < z.holders → step7_total y h ≡ step7_total z h
  pub hold : (h : ℕ) → h < z.holders → held y h ≡ held z h
  pub existing : (h i : ℕ) → h < z.holders → i < z.interties → y.existing h i ≡ z.existing h i
  pub pre-ra : (h i : ℕ) → h < z.holders → i < z.interties → pre_ra_granted y h i ≡ pre_ra_granted z h i
  pub new-use : (h i : ℕ) → h < z.holders → i < z.interties → new_use_granted y h i ≡ new_use_granted z h i
  pub left : (i : ℕ) → i < z.interties → unassigned y i ≡ unassigned z i

module _ (y z : Inputs) (f : SameFigures y z) where
  sizes-same : (s : List ℕ) → size_words y s ≡ size_words z s
  unfolding size_words
  sizes-same s = rw (f.interties, f.holders) refl

  figures-same : (s t : List ℕ) → s ≡ t → figure_words y s ≡ figure_words z t
  unfolding figure_words
  figures-same s t e =
      row_same 6 _ _ _ _ _ _ f.holders f.hold
      (row_same 5 _ _ _ _ _ _ f.holders f.total
      (row_same 4 _ _ _ _ _ _ f.holders f.share
      (row_same 3 _ _ _ _ _ _ f.holders f.load-share
      (row_same 2 _ _ _ _ _ _ f.interties f.outside (row_same 1 _ _ _ _ _ _ f.interties f.limit e)))))

  reserved-same : (s t : List ℕ) → s ≡ t → reserved_words y s ≡ reserved_words z t
  unfolding reserved_words
  reserved-same s t e =
      pairs-same 71 _ _ _ _ _ _ _ _ f.holders f.interties f.new-use
      (pairs-same 39 _ _ _ _ _ _ _ _ f.holders f.interties f.pre-ra
      (pairs-same 7 _ _ _ _ _ _ _ _ f.holders f.interties f.existing e))

  stage-same : (s t : List ℕ) → s ≡ t → stage_words y s ≡ stage_words z t
  unfolding stage_words
  stage-same s t e =
      row_same 105 _ _ _ _ _ _ f.holders f.share (row_same 104 _ _ _ _ _ _ f.interties f.left (rw e refl))

  cleared-same : (s t : List ℕ) → s ≡ t → cleared_words y s ≡ cleared_words z t
  unfolding cleared_words
  cleared-same s t e = rw (f.interties, f.holders, e) refl

  pub same-opened : (s : List ℕ) → opened_state y s ≡ opened_state z s
  unfolding opened_state
  same-opened s = cleared-same _ _ (stage-same _ _ (reserved-same _ _ (figures-same _ _ (sizes-same s))))
