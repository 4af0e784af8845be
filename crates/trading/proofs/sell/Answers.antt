-- `sell` meets its contract: what a trade that is not refused finds keeps the sums and casts in range.
use Rattle.base.proofs.Prelude.{arith}
use Rattle.trading.proofs.TradeLaws.{trade-room, trade-stored}
use Rattle.trading.proofs.sell.Goals as goal

pub overflow_sub-left : goal.overflow_sub-left
overflow_sub-left c = let d = trade-room _ _ _ _ c.requires in omega arith

pub overflow_add-bought : goal.overflow_add-bought
overflow_add-bought c = let d = trade-room _ _ _ _ c.requires in omega arith

pub with_seller-sellers-requires : goal.with_seller-sellers-requires
with_seller-sellers-requires c = let d = trade-room _ _ _ _ c.requires in omega arith

pub overflow_cast-left : goal.overflow_cast-left
overflow_cast-left c = let d = trade-room _ _ _ _ c.requires in omega arith

pub overflow_cast-bought : goal.overflow_cast-bought
overflow_cast-bought c = let d = trade-room _ _ _ _ c.requires in omega arith

pub returns : goal.returns
returns c = search trade-stored
