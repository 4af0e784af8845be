use Rattle.base.proofs.Prelude.{arith, rules}
use Rattle.step_5.proofs.FitLaws.{accepted, gross-within, held-addends, load-addends, loads-is, factors}
use Rattle.step_5.proofs.LoopLaws.{excluding-none, excluding-next, excluding-all}
use Rattle.step_5.proofs.Holders.exclude_round.Goals as goal

pub gross_remaining-gross-requires : goal.gross_remaining-gross-requires
gross_remaining-gross-requires c =
    held-addends _ _ _ _ (accepted _ _ _ c.args.self.few c.args.self.paired c.args.self.ranged) c.requires

pub sum_marked-all-requires : goal.sum_marked-all-requires
sum_marked-all-requires c =
    load-addends _ _ _ _ (accepted _ _ _ c.args.self.few c.args.self.paired c.args.self.ranged) c.requires

pub newly_excluded-out-requires : goal.newly_excluded-out-requires
newly_excluded-out-requires c =
    let a = accepted _ _ _ c.args.self.few c.args.self.paired c.args.self.ranged in
    factors _ _ _ _ a c.requires c.loop-i.i _ _ (omega (arith, c.requires.size, c.loop-i.invariant.size))
    (omega (arith, gross-within _ _ _ _ c.gross_remaining-gross.ensures))
    (loads-is _ _ _ _ a c.requires _ c.sum_marked-all.ensures)

pub loop-i-preserved : goal.loop-i-preserved
loop-i-preserved c =
    let a = accepted _ _ _ c.args.self.few c.args.self.paired c.args.self.ranged in
    excluding-next _ _ _ _ _ _ _ _ _ _ c.loop-i.invariant
    (record {
      before = omega (arith, c.requires.size, c.loop-i.invariant.size);
      gross-is = c.gross_remaining-gross.ensures;
      all-is = loads-is _ _ _ _ a c.requires _ c.sum_marked-all.ensures;
      out-is = c.newly_excluded-out.ensures;
    })

pub returns : goal.returns
returns c =
    excluding-all _ _ _ _ _ _ _ c.requires.size c.loop-i.invariant (omega (arith, c.requires.size, c.loop-i.invariant.size))

pub loop-i-init : goal.loop-i-init
loop-i-init c = search (rules, excluding-none)
