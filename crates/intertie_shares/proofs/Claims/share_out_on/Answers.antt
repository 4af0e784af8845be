-- `share_out_on` meets its contract: claims within the pool are met whole, others by the share-out.
use Rattle.base.proofs.Prelude.{sym, ◌∙◌, leb, at}
use borrow.Author.Tests.{leb-true}
use Rattle.base.proofs.ChoiceLaws.{and_left, and_right}
use Rattle.intertie_shares.proofs.LoopLaws.{met-on}
use Rattle.intertie_shares.proofs.Claims.share_out_on.Goals as goal

pub returns-in-Some : goal.returns-in-Some
returns-in-Some c =
    let given = c.args.self in
    let kw = at given.pools.now c.args.intertie in
    let both = c.if-self-intertie.true in
    met-on _ _ _ _ _ _ _ _ given.few_holders (leb-true kw 20000000 (and_right given.weighable (leb kw 20000000) both))
    (sym given.light ∙ and_left given.weighable (leb kw 20000000) both) c.in-Some.ensures c.grant_claims.ensures
