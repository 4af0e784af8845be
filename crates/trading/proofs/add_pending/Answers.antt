-- `add_pending` meets its contract: what a request that is not refused finds keeps the sum and the cast in range.
use Rattle.base.proofs.Prelude.{arith, ◌∙◌}
use Rattle.trading.proofs.RequestLaws.{request-room, request-stored}
use Rattle.trading.proofs.add_pending.Goals as goal

pub overflow_add-more : goal.overflow_add-more
overflow_add-more c = let d = request-room _ _ _ _ c.requires in omega arith

pub overflow_cast-more : goal.overflow_cast-more
overflow_cast-more c = let d = request-room _ _ _ _ c.requires in omega arith

pub returns : goal.returns
returns c = request-stored _ _ _ _ _ _ (c.from.ensures ∙ c.pair_word-pending.ensures) c.store_pair.ensures
