-- `known_kinds` meets its contract: the test of every call is one of every place.
use Rattle.base.proofs.Prelude.{ℕ, List, ◌∙◌, rules, at}
use Rattle.std.proofs.lemmas.Iterator.{YieldsList-from_slice}
use Rattle.std.proofs.lemmas.Iterator.Search.{all_from_yields_List}
use Rattle.lists.specs.Encoded.{known_kind}
use Rattle.lists.proofs.EncodedLaws.{every-call}
use Rattle.lists.proofs.encoded.known_kinds.Goals as goal

pub returns : goal.returns
returns c =
    all_from_yields_List (λ (words : List ℕ). known_kind (at words 0)) _ _ c.all.result c.all.ensures.ran
    (YieldsList-from_slice c.args.calls.now cc) (λ x b q k. search rules)
    ∙ every-call c.args.calls.now
