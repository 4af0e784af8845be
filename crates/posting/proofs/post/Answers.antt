-- `post` meets its contract: refused as the sheet is, or the lines of the opened state (`PostLaws`).
use Rattle.std.proofs.lemmas.Result.{err_from_is_err_and}
use Rattle.posting.proofs.PostLaws.{post-refuses, post-interties, post-holders, post-lines}
use Rattle.posting.proofs.post.Goals as goal

pub returns-in_err-granted : goal.returns-in_err-granted
returns-in_err-granted c =
    let e = c.open_with_quantities.ensures in
    let p = err_from_is_err_and c.from_residual.result c.from_residual.ensures.1 in
    rw (p.1, p.2) (post-refuses _ _ _ _ e.0 e.1 e.2 _ c.in_err-granted.was c.args.lines.now)

pub intertie_lines-requires : goal.intertie_lines-requires
intertie_lines-requires c =
    let e = c.open_with_quantities.ensures in
    let i = c.intertie_count-interties.ensures in
    let h = c.holder_count-holders.ensures in (
      post-interties _ _ _ _ e.0 e.1 e.2 _ c.in_ok-granted.was _ _ i h,
      post-holders _ _ _ _ e.0 e.1 e.2 _ c.in_ok-granted.was _ _ i h,
    )

pub holder_lines-requires : goal.holder_lines-requires
holder_lines-requires c =
    let e = c.open_with_quantities.ensures in
    post-holders _ _ _ _ e.0 e.1 e.2 _ c.in_ok-granted.was _ _ c.intertie_count-interties.ensures c.holder_count-holders.ensures

pub returns : goal.returns
returns c =
    let e = c.open_with_quantities.ensures in
    post-lines _ _ _ _ e.0 e.1 e.2 _ c.in_ok-granted.was _ _ c.intertie_count-interties.ensures c.holder_count-holders.ensures _ _ _ c.intertie_lines.ensures c.holder_lines.ensures
