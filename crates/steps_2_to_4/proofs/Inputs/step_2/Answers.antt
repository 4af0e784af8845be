-- `step_2` meets its contract: its rows are those of Step 2 (`StepLaws`).
use Rattle.base.proofs.Prelude.{◌-◌, ◌*◌, ◌/◌, ◌≡◌, arith, rules, length, at, tab}
use Rattle.std.proofs.iter.Serving.{serving}
use Rattle.steps_2_to_4.proofs.StepLaws.{fit-tables, load-most, total-small, available-is}
use Rattle.steps_2_to_4.proofs.Inputs.step_2.Goals as goal

pub fill_by-requires : goal.fill_by-requires
fill_by-requires c =
    let given = c.args.self in
    let range = fit-tables _ _ _ given.ranged in
    let total = total-small given.read.tables.now _ _ _ range given.weighed _ _ (12481 - 64) c.requires.0 c.differences.ensures (omega arith)
    _ _ c.sum_of-total.ensures c.sum_of-all.ensures in
    let load = load-most given.read.tables.now _ _ _ range given.weighed in
    grind serving

pub returns : goal.returns
returns c =
    let given = c.args.self in
    let filled : c.fill_by.new.row ≡ tab (length c.args.quantities.now) (λ h. c.sum_of-total.result * at given.loads.now h / c.sum_of-all.result) =
    search rules in
    available-is given.read.tables.now _ _ _ (fit-tables _ _ _ given.ranged) given.weighed _ _ (12481 - 64) c.requires.0 c.differences.ensures (omega arith)
    _ _ c.sum_of-total.ensures c.sum_of-all.ensures _ _ c.requires.1 filled
