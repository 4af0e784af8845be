-- What the conditions that calls share say where they fail.
use Prim.Native.Nat.{ℕ, zero, suc, ◌≤◌, ◌<◌}
use mathlib.Core.Path.{◌≡◌, refl, ap}
use mathlib.Core.Bool.{Bool, true, false, not, ◌&&◌, ◌||◌}
use mathlib.Core.List.{List, [], ◌∷◌}
use mathlib.Core.Logic.{◌⊎◌, inl, inr}
use lib.Dec.{leb, eqb}
use native.Mathlib.Omega.{arith}
use borrow.Author.Tests.{le-leb, lt-leb, leb-true, leb-false, ne_eqb, eqb-true, not-false}
use Rattle.std.specs.List.{list_any}
use Rattle.base.proofs.ChoiceLaws.{and_left, and_right}
use Rattle.state.specs.Layout.{interties, holders, stage_of}
use Rattle.state.specs.Orderly.{state_refusal}
use Rattle.base.specs.Stage.{number_of}
use Rattle.base.specs.declared.stages.Stage.{Stage}
use Rattle.base.specs.declared.stages.Stage.TheVariants.{Trading, FirstRequests, SecondRequests}
use Rattle.call.proofs.LadderLaws.{none_first, none-second, not-whenever}
use Rattle.call.specs.InStage.{is_in}
use Rattle.call.specs.Tests.{open_refusal, no_holder, no_intertie, bad_kw, bad_term}

-- the one stage, or one of the two, in which a call may be made
pub one-stage : (stage a : ℕ) → not (eqb stage a) ≡ false → stage ≡ a
one-stage stage a e = eqb-true stage a (not-false (eqb stage a) e)

one_holds : (a b : Bool) → a || b ≡ true → (a ≡ true) ⊎ (b ≡ true)
one_holds true b e = inl refl
one_holds false b e = inr e

pub either-stage : (stage a b : ℕ) → not (eqb stage a || eqb stage b) ≡ false → (stage ≡ a) ⊎ (stage ≡ b)
either-stage stage a b e =
    elim (one_holds (eqb stage a) (eqb stage b) (not-false (eqb stage a || eqb stage b) e)) [
      | inl first ↦ inl (eqb-true stage a first)
      | inr second ↦ inr (eqb-true stage b second)
    ]

-- a state of stage 4 that no refusal from 5 to 7 applies to
pub open-none : (s : List ℕ) → open_refusal s ≡ 0 → (state_refusal s ≡ 0) × (stage_of s ≡ 4)
open-none s e = (
  none_first (state_refusal s) _ e,
  one-stage (stage_of s) 4 (not-whenever (not (eqb (stage_of s) 4)) 7 (omega arith) (none-second (state_refusal s) _ e)),
)

-- a holder and an intertie that the state has
pub is-holder : (s : List ℕ) (h : ℕ) → no_holder s h ≡ false → h < holders s
is-holder s h e = leb-false (holders s) h e

pub is-intertie : (s : List ℕ) (i : ℕ) → no_intertie s i ≡ false → i < interties s
is-intertie s i e = leb-false (interties s) i e

-- numbers from 1 to a most
in-range : (n most : ℕ) → not (leb 1 n && leb n most) ≡ false → (1 ≤ n) × (n ≤ most)
in-range n most e =
    let within = not-false (leb 1 n && leb n most) e in
    (leb-true 1 n (and_left (leb 1 n) (leb n most) within), leb-true n most (and_right (leb 1 n) (leb n most) within))

pub kw-in-range : (kw : ℕ) → bad_kw kw ≡ false → (1 ≤ kw) × (kw ≤ 20000000)
kw-in-range kw e = in-range kw 20000000 e

pub term-in-range : (years : ℕ) → bad_term years ≡ false → (1 ≤ years) × (years ≤ 30)
term-in-range years e = in-range years 30 e

-- a test of one more that is none
either_none : (a : Bool) → a || false ≡ a
either_none true = refl
either_none false = refl

-- whether a stage is one of some, by a test of each
pub any_is_in : (n : ℕ) (stages : List Stage) → list_any (λ (stage : Stage). eqb n (number_of stage)) stages ≡ is_in n stages
any_is_in n [] = refl
any_is_in n (stage ∷ []) = either_none (eqb n (number_of stage))
any_is_in n (stage ∷ next ∷ rest) = ap (λ t. eqb n (number_of stage) || t) (any_is_in n (next ∷ rest))

-- one of three stages in a row
past_three : (n : ℕ) → 3 < n → is_in n (Trading ∷ FirstRequests ∷ SecondRequests ∷ []) ≡ (leb 1 n && leb n 3)
past_three n l =
    rw (ne_eqb n 1 (λ e. omega arith), ne_eqb n 2 (λ e. omega arith), ne_eqb n 3 (λ e. omega arith), le-leb 1 n (omega arith), lt-leb n 3 l) refl

pub in_three : (n : ℕ) → is_in n (Trading ∷ FirstRequests ∷ SecondRequests ∷ []) ≡ (leb 1 n && leb n 3)
in_three zero = refl
in_three (suc zero) = refl
in_three (suc (suc zero)) = refl
in_three (suc (suc (suc zero))) = refl
in_three (suc (suc (suc (suc n)))) = past_three (suc (suc (suc (suc n)))) (omega arith)
