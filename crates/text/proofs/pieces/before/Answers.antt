-- `before` meets its contract: the place that the library finds, or the text's end.
use Rattle.std.proofs.Common.{nat_eq, rules}
use Rattle.std.proofs.lemmas.Iterator.{YieldsList-from_slice}
use Rattle.std.proofs.lemmas.Iterator.Search.{position_from_yields_List}
use Rattle.base.proofs.Rules.{tests}
use Rattle.text.proofs.PieceLaws.{before_searched}
use Rattle.text.proofs.pieces.before.Goals as goal

pub returns : goal.returns
returns c =
    let found = position_from_yields_List (λ byte. nat_eq byte c.args.separator) _ _ c.position.result c.position.ensures.ran (YieldsList-from_slice c.args.text.now cc) (λ x b q k. search (rules, tests)) in
    let both = before_searched c.args.separator c.args.text.now c.position.result found in
    rw c.unwrap_or.ensures both
