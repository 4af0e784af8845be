-- `Draft::add_lock` meets its contract: the pair's lock is one record more (`DraftLaws`).
use Rattle.base.proofs.Prelude.{◌+◌, ap, arith, at, [], ◌∷◌, length}
use lib.ListN.{length-append}
use Rattle.carrying.specs.Workers.Draft.{Drafted}
use Rattle.carrying.proofs.DraftLaws.{a_lock}
use Rattle.carrying.proofs.draft.Draft.add_lock.Goals as goal

pub returns : goal.returns
returns c = let a = c.args in (
  omega (arith, ap (λ (d : Drafted). length d.keys) c.put.ensures, length-append a.self.now.keys (c.from-key.result ∷ [])),
  a_lock a.state.now a.holder a.intertie _ c.pair_word-locked.ensures a.self.now c.if-locked-eq0.false (omega arith) _ _ _ _
      c.number.ensures c.pair_word-term.ensures (ap (λ (d : Drafted). at d.ranks a.holder + 1) c.self.view_is) c.from-key.ensures _ c.put.ensures,
)
