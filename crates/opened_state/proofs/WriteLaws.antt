-- What a call leaves of a state: the words after the first 16,000, and all where the sizes or the state don't fit.
use Prim.Native.Nat.{ℕ, ◌≤◌, ◌<◌}
use mathlib.Core.Path.{◌≡◌, refl, sym, ap, ◌∙◌}
use mathlib.Core.Bool.{Bool, true, false, ◌&&◌, ◌||◌, true≢false}
use mathlib.Core.List.{List, ◌++◌}
use native.Mathlib.Omega.{arith}
use lib.Dec.{leb, ltb}
use lib.ListN.{length, take, drop}
use lib.Seq.{length-take-le}
use borrow.Author.Tests.{leb-true, le-leb, ltb-false, le-ltb}
use Rattle.std.proofs.lemmas.List.{take-append-drop}
use Rattle.base.proofs.ChoiceLaws.{pick_true, pick-false, and_left, and_right, or_left, or_right}
use Rattle.sheet_reading.specs.declared.tables.Tables.{Tables}
use Rattle.opened_state.specs.declared.Figures.{Figures}
use Rattle.opened_state.specs.Write.{fit_sizes, state_written, written}
use Rattle.opened_state.proofs.FrontLaws.{state-front}

-- sizes that the test of the sizes lets pass
pub record Sizes (I H : ℕ) : Type 0 where
  pub few : I ≤ 48
  pub small : H ≤ 32

pub sizes-pass : (I H : ℕ) → ltb 48 I || ltb 32 H ≡ false → Sizes I H
sizes-pass I H e =
    record { few = ltb-false 48 I (or_left (ltb 48 I) (ltb 32 H) e); small = ltb-false 32 H (or_right (ltb 48 I) (ltb 32 H) e) }

not-by : (b : Bool) → (b ≡ true → ⊥) → b ≡ false
not-by true never = absurd (never refl)
not-by false never = refl

not-long : (words I H : ℕ) → words < 16000 → fit_sizes words I H ≡ false
not-long words I H l =
    not-by (fit_sizes words I H)
    (λ e.
    let long : 16000 ≤ words = leb-true 16000 words (and_left (leb 16000 words) (leb I 48) (and_left (leb 16000 words && leb I 48) (leb H 32) e)) in
    omega arith)

not-large : (words I H : ℕ) → ltb 48 I || ltb 32 H ≡ true → fit_sizes words I H ≡ false
not-large words I H e =
    not-by (fit_sizes words I H)
    (λ fit.
    let few : I ≤ 48 = leb-true I 48 (and_right (leb 16000 words) (leb I 48) (and_left (leb 16000 words && leb I 48) (leb H 32) fit)) in
    let small : H ≤ 32 = leb-true H 32 (and_right (leb 16000 words && leb I 48) (leb H 32) fit) in
    true≢false (sym (rw (le-ltb 48 I few, le-ltb 32 H small) at e)))

module _ (tables : Tables) (I H : ℕ) (figures : Figures) (s : List ℕ) where
  pub written-large : ltb 48 I || ltb 32 H ≡ true → s ≡ written tables I H figures s
  written-large e = sym (pick-false _ _ _ (not-large (length s) I H e))

  pub written-short : length s < 16000 → s ≡ written tables I H figures s
  written-short l = sym (pick-false _ _ _ (not-long (length s) I H l))

  pub written-whole : (first after : List ℕ) → ltb 48 I || ltb 32 H ≡ false → (16000 ≤ length s) × (first ≡ take 16000 s) →
      after ≡ state_written tables I H figures first → after ++ drop 16000 s ≡ written tables I H figures s
  written-whole first after e cut w =
      let z = sizes-pass I H e in
      let front : after ≡ state_written tables I H figures (take 16000 s) = w ∙ ap (state_written tables I H figures) cut.1 in
      ap (λ l. l ++ drop 16000 s) front
      ∙ sym ((state-front tables I H figures z.few z.small).rest (take 16000 s) (drop 16000 s) (omega (arith, cut.0, length-take-le 16000 s cut.0)))
      ∙ ap (state_written tables I H figures) (take-append-drop 16000 s)
      ∙ sym (pick_true (fit_sizes (length s) I H) _ _ (rw (le-leb 16000 (length s) cut.0, le-leb I 48 z.few, le-leb H 32 z.small) refl))
