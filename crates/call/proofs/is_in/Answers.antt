-- `is_in` meets its contract: each stage is tested.
use Rattle.base.proofs.Prelude.{◌∙◌, rules}
use Rattle.std.proofs.lemmas.Iterator.Search.{any_from_yields_List}
use Rattle.std.proofs.lemmas.Iterator.{YieldsList-from_slice}
use lib.Dec.{eqb}
use Rattle.base.proofs.Rules.{tests}
use Rattle.base.specs.Stage.{number_of}
use Rattle.base.specs.declared.stages.Stage.{Stage}
use Rattle.state.specs.Layout.{stage_of}
use Rattle.call.proofs.TestLaws.{any_is_in}
use Rattle.call.proofs.is_in.Goals as goal

pub returns : goal.returns
returns c =
    any_from_yields_List (λ (stage : Stage). eqb (stage_of c.args.state.now) (number_of stage)) _ _ c.any.result c.any.ensures.ran (YieldsList-from_slice c.args.stages.now cc) (λ x b q k. search (rules, tests))
    ∙ any_is_in (stage_of c.args.state.now) c.args.stages.now
