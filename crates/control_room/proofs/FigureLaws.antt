-- What the tests before the figures say, and the figures from the numbers read.
use Prim.Native.Nat.{ℕ, ◌≤◌}
use mathlib.Core.Path.{◌≡◌, refl, sym, ap, ◌∙◌}
use mathlib.Core.Bool.{Bool, true, false, ◌&&◌}
use mathlib.Core.List.{List}
use lib.Dec.{leb, ltb}
use borrow.Author.Tests.{leb-true}
use Rattle.base.proofs.ChoiceLaws.{and_left, and_right, pick_true, pick-false}
use Rattle.state.specs.Layout.{interties, holders, limit_of, outside_of, step5_share_of, reserved_of, unassigned_of, unplaced_of, placed_of, taken_of, locked_of, on_intertie, of_holder}
use Rattle.control_room.specs.Trades.{bought, sold}
use Rattle.control_room.specs.Figures.{sizes_fit, is_intertie, is_holder, reserved_on, intertie_figures, holder_figures}
use Rattle.control_room.specs.declared.IntertieFigures.{IntertieFigures}
use Rattle.control_room.specs.declared.HolderFigures.{HolderFigures}

-- a number below one of the sizes of the state: there are at most 32 holders to sum over
pub few_holders : (s : List ℕ) (n count : ℕ) {b : Bool} → b ≡ (sizes_fit s && ltb n count) → b ≡ true → holders s ≤ 32
unfolding sizes_fit
few_holders s n count e t =
    leb-true (holders s) 32
    (and_right (leb (interties s) 48) (leb (holders s) 32) (and_left (leb (interties s) 48 && leb (holders s) 32) (ltb n count) (sym e ∙ t)))

-- no such intertie, no such holder: the figures that are all 0
pub no_intertie : (s : List ℕ) (i count : ℕ) (f : IntertieFigures) {b : Bool} → b ≡ (sizes_fit s && ltb i count) → count ≡ interties s → b ≡ false →
    f.limit ≡ 0 → f.outside ≡ 0 → f.reserved ≡ 0 → f.placed ≡ 0 → f.taken ≡ 0 → f.unassigned ≡ 0 → f ≡ intertie_figures s i
unfolding is_intertie intertie_figures
no_intertie s i count f e size n l o r p t u =
    let none : ◌≡◌ {A = IntertieFigures} (record { limit = f.limit; outside = f.outside; reserved = f.reserved; placed = f.placed; taken = f.taken; unassigned = f.unassigned })
    (record { limit = 0; outside = 0; reserved = 0; placed = 0; taken = 0; unassigned = 0 }) = rw (l, o, r, p, t, u) refl in
    none ∙ sym (pick-false (is_intertie s i) _ _ (ap (λ (c : ℕ). sizes_fit s && ltb i c) (sym size) ∙ sym e ∙ n))

pub no_holder : (s calls answers : List ℕ) (first h count : ℕ) (f : HolderFigures) {b : Bool} → b ≡ (sizes_fit s && ltb h count) → count ≡ holders s →
    b ≡ false → f.step_5_share ≡ 0 → f.bought ≡ 0 → f.sold ≡ 0 → f.placed ≡ 0 → f.unplaced ≡ 0 → f.reserved ≡ 0 → f.locked ≡ 0 →
    f ≡ holder_figures s calls answers first h
unfolding is_holder holder_figures
no_holder s calls answers first h count f e size n a b' c p u r k =
    let none : ◌≡◌ {A = HolderFigures} (record { step_5_share = f.step_5_share; bought = f.bought; sold = f.sold; placed = f.placed; unplaced = f.unplaced; reserved = f.reserved; locked = f.locked })
    (record { step_5_share = 0; bought = 0; sold = 0; placed = 0; unplaced = 0; reserved = 0; locked = 0 }) = rw (a, b', c, p, u, r, k) refl in
    none ∙ sym (pick-false (is_holder s h) _ _ (ap (λ (c : ℕ). sizes_fit s && ltb h c) (sym size) ∙ sym e ∙ n))

-- the numbers read are the figures
pub intertie_read : (s : List ℕ) (i count : ℕ) {b : Bool} {limit outside reserved placed taken unassigned : ℕ} → b ≡ (sizes_fit s && ltb i count) →
    count ≡ interties s → b ≡ true → limit ≡ limit_of s i → outside ≡ outside_of s i → reserved ≡ reserved_on s i →
    placed ≡ on_intertie placed_of s i → taken ≡ on_intertie taken_of s i → unassigned ≡ unassigned_of s i →
    ◌≡◌ {A = IntertieFigures} (record { limit = limit; outside = outside; reserved = reserved; placed = placed; taken = taken; unassigned = unassigned }) (intertie_figures s i)
unfolding is_intertie intertie_figures
intertie_read s i count e size t l o r p k u =
    rw (l, o, r, p, k, u) (sym (pick_true (is_intertie s i) _ _ (ap (λ (c : ℕ). sizes_fit s && ltb i c) (sym size) ∙ sym e ∙ t)))

pub holder_read : (s calls answers : List ℕ) (first h count : ℕ) {b : Bool} {share bought-kw sold-kw placed unplaced reserved locked : ℕ} →
    b ≡ (sizes_fit s && ltb h count) → count ≡ holders s → b ≡ true → share ≡ step5_share_of s h → bought-kw ≡ bought calls answers first h →
    sold-kw ≡ sold calls answers first h → placed ≡ of_holder placed_of s h → unplaced ≡ unplaced_of s h → reserved ≡ reserved_of s h →
    locked ≡ of_holder locked_of s h →
    ◌≡◌ {A = HolderFigures} (record { step_5_share = share; bought = bought-kw; sold = sold-kw; placed = placed; unplaced = unplaced; reserved = reserved; locked = locked }) (holder_figures s calls answers first h)
unfolding is_holder holder_figures
holder_read s calls answers first h count e size t a b' c p u r k =
    rw (a, b', c, p, u, r, k) (sym (pick_true (is_holder s h) _ _ (ap (λ (c : ℕ). sizes_fit s && ltb h c) (sym size) ∙ sym e ∙ t)))
