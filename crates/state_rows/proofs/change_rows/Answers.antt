use Rattle.base.proofs.Prelude.{ℕ, ◌+◌, ◌<◌, ◌≡◌, ap, ◌∙◌, arith, at}
use mathlib.Core.Logic.{inr}
use native.Mathlib.Nat.{le_refl}
use Rattle.state.specs.Layout.{place}
use Rattle.state_rows.proofs.RowLaws.{fill_row-same, fill_pairs-turn, at-fill_pairs-apart}
use Rattle.state_rows.proofs.change_rows.Goals as goal

pub loop-holder-preserved : goal.loop-holder-preserved
loop-holder-preserved g c =
    let a = c.args in
    let l = c.loop-holder in
    let s = a.state.now in
    let f : ℕ → ℕ → ℕ = λ h i. g.C.Change.gives a.table.now (at s (place (a.field + h) i)) (place h i) in
    let row = a.field + l.holder in
    let word : (i : ℕ) → i < a.interties → at l.state (place row i) ≡ at s (place row i) =
    λ i b.
    ap (λ t. at t (place row i)) l.invariant
    ∙ at-fill_pairs-apart a.field l.holder a.interties f s row i (omega arith) (omega arith) (inr (le_refl row)) in
    c.change_row.ensures
    ∙ fill_row-same row a.interties _ (f l.holder) l.state (λ i b. ap (λ w. g.C.Change.gives a.table.now w (place l.holder i)) (word i b))
    ∙ fill_pairs-turn a.field l.holder a.interties f _ _ l.invariant
