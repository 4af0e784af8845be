-- The names of the kinds 1 to 6.
use Rattle.std.specs.Prelude.{ℕ, List, [], eqb, Option, Some, None}
use Rattle.base.specs.Choice.{pick}
use Rattle.base.specs.declared.kinds.Kind.{Kind}
use Rattle.base.specs.declared.kinds.Kind.TheVariants.{Limit, OutsideRight, LoadShare, ExistingContract, PreRaCommitment, NewUseCommitment}
use Rattle.base.specs.Kinds.{limit_kind, outside_right_kind, load_share_kind, existing_contract_kind, pre_ra_kind, new_use_kind}
use Rattle.text.specs.Ascii.{ascii, same}

-- the name of a kind
abbrev pub name : Kind → List ℕ
name Limit = ascii "limit"
name OutsideRight = ascii "outside"
name LoadShare = ascii "load"
name ExistingContract = ascii "existing"
name PreRaCommitment = ascii "prera"
name NewUseCommitment = ascii "newuse"

-- the name of the kind of a number, empty for one that has none
unfoldable pub name_of : ℕ → List ℕ
name_of kind =
    pick (eqb kind limit_kind) (name Limit)
    (pick (eqb kind outside_right_kind) (name OutsideRight)
    (pick (eqb kind load_share_kind) (name LoadShare)
    (pick (eqb kind existing_contract_kind) (name ExistingContract)
    (pick (eqb kind pre_ra_kind) (name PreRaCommitment)
    (pick (eqb kind new_use_kind) (name NewUseCommitment)
    [])))))

-- the kind that a field names
unfoldable pub named : List ℕ → Option Kind
named field =
    pick (same field (name Limit)) (Some Limit)
    (pick (same field (name OutsideRight)) (Some OutsideRight)
    (pick (same field (name LoadShare)) (Some LoadShare)
    (pick (same field (name ExistingContract)) (Some ExistingContract)
    (pick (same field (name PreRaCommitment)) (Some PreRaCommitment)
    (pick (same field (name NewUseCommitment)) (Some NewUseCommitment) None)))))
