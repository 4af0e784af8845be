-- `named` meets its contract: it finds the first kind of that name.
use Rattle.base.proofs.Prelude.{[], ◌∷◌, ◌∙◌, rules}
use Rattle.std.proofs.lemmas.Iterator.{YieldsList-from_slice}
use Rattle.std.proofs.lemmas.Iterator.Search.{find_from_yields_List}
use Rattle.base.specs.declared.kinds.Kind.TheVariants.{Limit, OutsideRight, LoadShare, ExistingContract, PreRaCommitment, NewUseCommitment}
use Rattle.text.specs.Ascii.{same}
use Rattle.sheet_table.specs.Kinds.{name, named}
use Rattle.sheet_table.proofs.kinds.named.Goals as goal

pub returns : goal.returns
unfolding named
returns c =
    let found = find_from_yields_List (λ kind. same c.args.field.now (name kind)) _ _ c.find.result c.find.ensures.ran
    (YieldsList-from_slice (Limit ∷ OutsideRight ∷ LoadShare ∷ ExistingContract ∷ PreRaCommitment ∷ NewUseCommitment ∷ []) cc) (λ x b q k. search rules) in
    c.copied.ensures ∙ found
