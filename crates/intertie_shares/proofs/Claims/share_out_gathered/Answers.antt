-- `share_out_gathered` meets its contract: gathered, shared out and scattered as the definition has it.
use Rattle.base.proofs.Prelude.{refl, ◌∙◌, ◌≡◌, length, take, rules}
use Rattle.intertie_shares.proofs.LoopLaws.{shared-on}
use Rattle.intertie_shares.proofs.Claims.share_out_gathered.Goals as goal

pub returns : goal.returns
returns c =
    let given = c.args.self in
    let shared = c.share_out-made in
    let room : length (take (length given.weights.now) c.args.output.now) ≡ length given.weights.now = search rules in
    shared-on _ _ _ _ _ _ _ _ _ _ _ _ _ refl c.gather.ensures room
    (shared.auto.output ∙ room) shared.ensures c.settle-granted.ensures c.scatter.ensures
