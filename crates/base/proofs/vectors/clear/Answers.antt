use Rattle.std.proofs.Common.{◌∙◌}
use Rattle.base.proofs.ListLaws.{replicate-tab}
use Rattle.base.proofs.vectors.clear.Goals as goal

pub returns : goal.returns
returns c = c.fill.ensures.after (λ y e. e) ∙ replicate-tab _ _
