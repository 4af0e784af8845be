use Rattle.base.proofs.Prelude.{◌+◌, ◌-◌, ◌*◌, ◌≡◌, refl, ap, ◌∙◌, arith, length, at}
use borrow.Rule.Slice.PartMut.{mid_of, mid_len}
use Rattle.steps_2_to_4.proofs.PartLaws.{rows_next}
use Rattle.steps_2_to_4.proofs.Inputs.new_use_claims.Invariants.{claim}
use Rattle.steps_2_to_4.proofs.Inputs.new_use_claims.Goals as goal

pub loop-holder-preserved : goal.loop-holder-preserved
loop-holder-preserved c = let a = c.args in
    let given = a.self in
    let m = c.loop-holder.holder in
    let table = c.loop-holder.claims in
    let last = c.holder_claims.new.row in
    let size : length (mid_of (48 * m) (48 * m + 48 - 48 * m) table) ≡ 48 =
    mid_len (48 * m) (48 * m + 48) table (omega (arith, given.small, c.told-claims, c.loop-holder.invariant.size)) ∙ (omega arith) in
    rows_next (claim given.read.tables.now given.read.interties a.quantities.now a.granted.now) given.read.holders a.claims.now
    table last m (48 * m) (48 * m + 48) c.loop-holder.invariant (omega arith) refl refl
    (omega (arith, given.small, c.told-claims))
    (c.holder_claims.auto.row ∙ size)
    (λ i l. ap (λ k. at k i) c.holder_claims.ensures)
