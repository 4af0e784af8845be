use Rattle.base.proofs.Prelude.{arith, rules}
use Rattle.step_5.proofs.FitLaws.{accepted, held-addends, load-addends, loads-is}
use Rattle.step_5.proofs.LoopLaws.{sharing-none, sharing-next, sharing-all, settled_is, quota-is}
use Rattle.step_5.proofs.Holders.write_shares.Goals as goal

pub gross_remaining-gross-requires : goal.gross_remaining-gross-requires
gross_remaining-gross-requires c =
    let p = c.requires in
    let a = accepted _ _ _ c.args.self.few c.args.self.paired c.args.self.ranged in
    held-addends _ _ _ _ a (settled_is _ _ _ _ p.0).marks

pub sum_marked-all-requires : goal.sum_marked-all-requires
sum_marked-all-requires c =
    let p = c.requires in
    let a = accepted _ _ _ c.args.self.few c.args.self.paired c.args.self.ranged in
    load-addends _ _ _ _ a (settled_is _ _ _ _ p.0).marks

pub share_of-requires : goal.share_of-requires
share_of-requires c =
    let p = c.requires in
    let a = accepted _ _ _ c.args.self.few c.args.self.paired c.args.self.ranged in
    quota-is _ _ _ _ c.loop-i.i _ _ a p.0 (omega (arith, p.1, c.loop-i.invariant.size))
    c.gross_remaining-gross.ensures
    (loads-is _ _ _ _ a (settled_is _ _ _ _ p.0).marks _ c.sum_marked-all.ensures)

pub loop-i-preserved : goal.loop-i-preserved
loop-i-preserved c =
    let p = c.requires in
    let a = accepted _ _ _ c.args.self.few c.args.self.paired c.args.self.ranged in
    sharing-next _ _ _ _ _ _ c.loop-i.i _ _ _ c.loop-i.invariant (omega (arith, p.1, c.loop-i.invariant.size))
    c.gross_remaining-gross.ensures
    (loads-is _ _ _ _ a (settled_is _ _ _ _ p.0).marks _ c.sum_marked-all.ensures)
    c.share_of.ensures

pub loop-i-init : goal.loop-i-init
loop-i-init c = search (rules, sharing-none)

pub bounds-marks-i : goal.bounds-marks-i
bounds-marks-i c = omega (arith, (settled_is _ _ _ _ c.requires.0).marks.size)

pub returns : goal.returns
returns c = search (rules, sharing-all)
