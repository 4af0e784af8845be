-- The kinds of record as a type, and their numbers.
use Rattle.std.specs.Prelude.{ℕ}
use Rattle.base.specs.declared.kinds.Kind.{Kind}
use Rattle.base.specs.declared.kinds.Kind.TheVariants.{Limit, OutsideRight, LoadShare, ExistingContract, PreRaCommitment, NewUseCommitment}
use Rattle.base.specs.Kinds.{limit_kind, outside_right_kind, load_share_kind, existing_contract_kind, pre_ra_kind, new_use_kind}

-- the number of a kind
abbrev pub number_of : Kind → ℕ
number_of Limit = limit_kind
number_of OutsideRight = outside_right_kind
number_of LoadShare = load_share_kind
number_of ExistingContract = existing_contract_kind
number_of PreRaCommitment = pre_ra_kind
number_of NewUseCommitment = new_use_kind
