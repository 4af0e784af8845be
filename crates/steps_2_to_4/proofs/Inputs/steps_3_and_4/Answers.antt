-- `steps_3_and_4` meets its contract: its five calls are Steps 3 to 4b (`ReserveLaws`).
use Rattle.base.proofs.Prelude.{◌-◌, ◌∙◌, ap, arith, length, rules}
use Rattle.base.proofs.WordLaws.{length-tab}
use Rattle.steps_2_to_4.proofs.ReserveLaws.{left-by-step-3, left-by-step-4a, granted-is}
use Rattle.steps_2_to_4.proofs.Inputs.steps_3_and_4.Goals as goal

pub grant_pre_ra-requires : goal.grant_pre_ra-requires
grant_pre_ra-requires c = c.take_off_each.auto.row ∙ ap length c.requires.0 ∙ length-tab _ _

pub grant_new_use-requires : goal.grant_new_use-requires
grant_new_use-requires c = (
  c.take_off_each-2.auto.row ∙ c.take_off_each.auto.row ∙ ap length c.requires.0 ∙ length-tab _ _,
  ap length c.requires.1 ∙ length-tab _ _,
)

pub returns : goal.returns
returns c =
    let a = c.args in
    let given = a.self in
    let few = given.few in
    let small = given.small in
    let start = left-by-step-3 given.read.tables.now given.read.interties given.read.holders few small a.pools.now c.requires.0 (12481 - 192) _ _ _
    c.as_chunks.ensures.front (omega arith) (search rules) c.take_off_each.ensures in
    let left = left-by-step-4a given.read.tables.now given.read.interties given.read.holders few small c.take_off_each.new.row a.pre_ra.now _ start c.told-pre_ra
    c.grant_pre_ra.ensures _ _ _ c.as_chunks-2.ensures.front (search rules) c.take_off_each-2.ensures in
    granted-is given.read.tables.now given.read.interties given.read.holders few small c.take_off_each.new.row a.pre_ra.now _ start c.told-pre_ra
    c.grant_pre_ra.ensures a.quantities.now c.requires.1 _ a.new_use.now _ left c.told-new_use c.grant_new_use.ensures
    _ _ _ c.as_chunks-3.ensures.front (search rules) c.take_off_each-3.ensures
