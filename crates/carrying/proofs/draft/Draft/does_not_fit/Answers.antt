-- `Draft::does_not_fit` meets its contract: three tests in their order (`FitLaws`).
use Rattle.base.proofs.Prelude.{take, rules}
use Rattle.std.proofs.Common.{nat_lt}
use Rattle.std.proofs.lemmas.Iterator.{YieldsList-from_slice}
use Rattle.std.proofs.lemmas.Iterator.Search.{any_from_yields_List}
use Rattle.base.proofs.Rules.{tests}
use Rattle.carrying.proofs.FitLaws.{fit_same}
use Rattle.carrying.proofs.draft.Draft.does_not_fit.Goals as goal

pub returns : goal.returns
returns c = λ l of. let t = c.self in
    fit_same l _ of _ _ _ _ t.invariant t.view_is c.args.holders c.args.room c.requires _
    (any_from_yields_List (λ r. nat_lt 255 r) _ _ c.any.result c.any.ensures.ran (YieldsList-from_slice (take c.args.holders t.inside.ranks) cc) (λ x b q k. search (rules, tests)))
