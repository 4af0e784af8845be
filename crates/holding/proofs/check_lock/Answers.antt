-- `check_lock` meets its contract: what is tested last has an orderly state and kW in their range.
use Rattle.base.proofs.Prelude.{sym, ◌∙◌, arith}
use Rattle.base.proofs.ChoiceLaws.{or_left}
use Rattle.call.proofs.LadderLaws.{not-whenever}
use Rattle.call.proofs.TestLaws.{open-none, kw-in-range}
use Rattle.call.specs.Tests.{bad_kw, bad_term}
use Rattle.state.proofs.OrderlyLaws.{refusal-none}
use Rattle.holding.proofs.check_lock.Goals as goal

pub barred-requires : goal.barred-requires
barred-requires c =
    let a = c.args in (
      (refusal-none a.state.now (open-none a.state.now (sym c.in_ok-check_open.ensures)).0).1.interties-most,
      (kw-in-range a.kw (or_left (bad_kw a.kw) (bad_term a.term) (sym c.unfit_lock.ensures ∙ not-whenever _ _ (omega arith) (sym c.in_ok-refuse_if-2.ensures)))).1,
    )
