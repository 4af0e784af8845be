-- The lines of the holders from the words of n calls alone, with all answers or their own, are those after the first n calls of all words.
use Prim.Native.Nat.{ℕ, ◌*◌, ◌≤◌}
use mathlib.Core.Path.{◌≡◌, ap}
use mathlib.Core.List.{List, [], ◌∷◌}
use lib.ListN.{length, take}
use Rattle.std.specs.Prelude.{min}
use Rattle.state.specs.Layout.{holders}
use Rattle.text.specs.Lines.{line}
use Rattle.text.proofs.EachLaws.{each_same}
use Rattle.control_room.specs.declared.HolderFigures.{HolderFigures}
use Rattle.control_room.specs.Trades.{called_count}
use Rattle.control_room.specs.Figures.{holder_figures}
use Rattle.control_room.proofs.CutLaws.{holder-cut, holder-of-calls}
use Rattle.year_text.specs.Text.{holder_line, holders_text}

-- lines of the same figures
line_same :
    (s calls answers c a : List ℕ) (n m h : ℕ) → holder_figures s c a m h ≡ holder_figures s calls answers n h
    → holder_line s c a m h ≡ holder_line s calls answers n h
unfolding holder_line
line_same s calls answers c a n m h e =
    ap (
    λ (f : HolderFigures). line "H" (h ∷ f.step_5_share ∷ f.bought ∷ f.sold ∷ f.placed ∷ f.unplaced ∷ f.reserved ∷ f.locked ∷ [])
    ) e

module _ (calls answers : List ℕ) (n : ℕ) (room : 6 * n ≤ length calls) (rest : 3 * n ≤ length answers) where
  pub holders-cut : (s : List ℕ) →
      holders_text s (take (6 * n) calls) (take (3 * n) answers) (called_count (take (6 * n) calls) (take (3 * n) answers)) ≡ holders_text s calls answers n
  unfolding holders_text
  holders-cut s =
      each_same (min (holders s) 32) _ (holder_line s calls answers n)
      (λ h l. line_same s calls answers _ _ n _ h (holder-cut calls answers n room rest s h))

  -- as program `year` asks for them
  pub holders-of-calls : (s : List ℕ) →
      holders_text s (take (6 * n) calls) answers (called_count (take (6 * n) calls) answers) ≡ holders_text s calls answers n
  unfolding holders_text
  holders-of-calls s =
      each_same (min (holders s) 32) _ (holder_line s calls answers n)
      (λ h l. line_same s calls answers _ _ n _ h (holder-of-calls calls answers n room rest s h))
