-- `kind_of` meets its contract: it finds the first kind of that name.
use Rattle.base.proofs.Prelude.{[], ◌∷◌, ◌∙◌, rules}
use Rattle.std.proofs.lemmas.Iterator.{YieldsList-from_slice}
use Rattle.std.proofs.lemmas.Iterator.Search.{find_from_yields_List}
use Rattle.base.specs.declared.encoding.CallKind.TheVariants.{Trade, Request, Close, Take, Move, Lock}
use Rattle.text.specs.Ascii.{same}
use Rattle.journal.specs.Calls.{name, kind_of}
use Rattle.journal.proofs.calls.kind_of.Goals as goal

pub returns : goal.returns
unfolding kind_of
returns c =
    let found = find_from_yields_List (λ kind. same c.args.word.now (name kind)) _ _ c.find.result c.find.ensures.ran (YieldsList-from_slice (Trade ∷ Request ∷ Close ∷ Take ∷ Move ∷ Lock ∷ []) cc) (λ x b q k. search rules) in
    c.copied.ensures ∙ found
