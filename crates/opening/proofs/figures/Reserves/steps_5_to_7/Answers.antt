-- `steps_5_to_7` meets its contract: held, shares and totals are those of the tables (`FigureLaws`).
use Rattle.base.proofs.Prelude.{ℕ, ◌+◌, ◌≤◌, ◌≡◌, List, arith, length, rules, at, tab}
use Rattle.std.proofs.iter.Serving.{serving}
use lib.ListN.{take}
use lib.Seq.{length-take-le}
use Rattle.opening.specs.Workers.Figures.{held_from}
use Rattle.opening.proofs.FigureLaws.{totals-within, held-taken}
use Rattle.opening.proofs.figures.Reserves.steps_5_to_7.Goals as goal

front : (H : ℕ) (row : List ℕ) → H ≤ 32 → length row ≡ 32 → length (take H row) ≡ H
front H row small size = length-take-le H row (omega arith)

pub fill_by-requires-2 : goal.fill_by-requires-2
fill_by-requires-2 c =
    let a = c.args in
    let r = a.self in
    let small = r.given.small in
    let filled : c.fill_by.new.row ≡ tab (length (take r.read.holders a.held.now)) (held_from r.read.interties r.read.tables.now.kw r.pre_ra.now r.new_use.now) =
    search rules in
    let within = totals-within r.total r.read.tables.now.kw _ _ _ _ r.given (search rules) _ _ (front r.read.holders a.held.now small c.told-held) filled
    _ _ (front r.read.holders a.shares.now small c.told-shares) c.step_5_shares.ensures.1 _ (front r.read.holders a.totals.now small c.told-totals) in
    grind serving

pub returns : goal.returns
returns c =
    let a = c.args in
    let r = a.self in
    let small = r.given.small in
    let filled : c.fill_by.new.row ≡ tab (length (take r.read.holders a.held.now)) (held_from r.read.interties r.read.tables.now.kw r.pre_ra.now r.new_use.now) =
    search rules in
    let totals : c.fill_by-2.new.row ≡ tab (length (take r.read.holders a.totals.now)) (λ h. at c.fill_by.new.row h + at c.step_5_shares.new.shares h) =
    search rules in
    held-taken r.total r.read.tables.now.kw _ _ _ _ r.given (search rules) _ _ (front r.read.holders a.held.now small c.told-held) filled
    _ _ (front r.read.holders a.shares.now small c.told-shares) c.step_5_shares.ensures.1 _ _ _ _ _
    (front r.read.holders a.totals.now small c.told-totals) totals
