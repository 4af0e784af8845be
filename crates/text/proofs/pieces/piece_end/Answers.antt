-- `piece_end` meets its contract: past the text, and within it.
use native.Mathlib.Omega.{arith}
use Rattle.text.proofs.PieceLaws.{piece-within, piece-past}
use borrow.Author.Rules.{rules}
use Rattle.text.proofs.pieces.piece_end.Goals as goal

pub returns-then-text-from : goal.returns-then-text-from
returns-then-text-from c =
    piece-past c.args.separator c.args.from c.args.text.now (search rules)

pub overflow_add-result : goal.overflow_add-result
overflow_add-result c =
    let a = c.args in
    omega (arith, (piece-within a.separator a.from _ a.text.now (search rules) c.before-2.ensures.0).2)

pub returns : goal.returns
returns c =
    piece-within c.args.separator c.args.from _ c.args.text.now (search rules) c.before-2.ensures.0
