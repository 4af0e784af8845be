-- `give` meets its contract: it reads both words and stores both.
use Rattle.state.specs.Layout.{unassigned_at, taken_at}
use Rattle.call.proofs.StoreLaws.{carried}
use Rattle.taking.proofs.give.Goals as goal

pub returns : goal.returns
returns c =
    let a = c.args in
    carried a.state.now (unassigned_at a.intertie) (taken_at a.holder a.intertie) a.kw
    c.word-unassigned.ensures c.pair_word-taken.ensures c.store.ensures c.store_pair.ensures
