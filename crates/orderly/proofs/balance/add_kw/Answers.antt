use Rattle.base.proofs.Prelude.{◌≡◌, refl, all_to, at, fill}
use Rattle.base.proofs.WordLaws.{fill-place, fill-turn}
use Rattle.orderly.proofs.BalanceLaws.{bits_turn}
use Rattle.orderly.proofs.balance.add_kw.Goals as goal

pub loop-intertie-init : goal.loop-intertie-init
unfolding all_to fill
loop-intertie-init g c = (refl, refl)

pub loop-intertie-preserved : goal.loop-intertie-preserved
loop-intertie-preserved g c =
    let l = c.loop-intertie in
    let kept : at l.sums l.intertie ≡ at c.args.sums.now l.intertie = fill-place _ _ _ _ l.invariant.1 in
    (bits_turn _ _ l.bits _ l.invariant.0 c.kw_of-kw.ensures.1, fill-turn _ _ _ _ _ l.invariant.1 (cc (kept, c.kw_of-kw.ensures.0)))
