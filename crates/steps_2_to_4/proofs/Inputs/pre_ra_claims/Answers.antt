use Rattle.base.proofs.Prelude.{◌+◌, ◌-◌, ◌*◌, ◌≡◌, refl, ◌∙◌, arith, length}
use borrow.Rule.Slice.PartMut.{mid_of, mid_len}
use Rattle.steps.specs.Step4a.{pre_ra_claim}
use Rattle.steps_2_to_4.specs.Reserved.{inputs}
use Rattle.steps_2_to_4.proofs.PartLaws.{rows_next, part-row}
use Rattle.steps_2_to_4.proofs.Inputs.pre_ra_claims.Goals as goal

pub loop-holder-preserved : goal.loop-holder-preserved
unfolding pre_ra_claim
loop-holder-preserved c =
    let given = c.args.self in
    let m = c.loop-holder.holder in
    let kw = given.read.tables.now.kw in
    let table = c.loop-holder.claims in
    let last = c.differences.new.row in
    let size : length (mid_of (48 * m) (48 * m + 48 - 48 * m) table) ≡ 48 =
    mid_len (48 * m) (48 * m + 48) table (omega (arith, given.small, c.told-claims, c.loop-holder.invariant.size)) ∙ (omega arith) in
    rows_next (pre_ra_claim (inputs given.read.tables.now given.read.interties given.read.holders)) given.read.holders c.args.claims.now table last m
    (48 * m) (48 * m + 48) c.loop-holder.invariant c.loop-holder-test.true refl refl
    (omega (arith, given.small, c.told-claims))
    (c.differences.auto.row ∙ size)
    (part-row kw last (2240 + 64 * m) (192 + 64 * m) (12481 - (2240 + 64 * m)) (12481 - (192 + 64 * m))
    (length (mid_of (48 * m) (48 * m + 48 - 48 * m) table)) c.differences.ensures size (omega (arith, given.small)) (omega (arith, given.small)))
