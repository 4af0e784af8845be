-- What a kind of record says, field by field: the fields that it names, and the quantities that stand. Together it is the
-- rule of its kind (`record_stands`).
use Rattle.std.specs.Prelude.{ℕ, Bool, ◌||◌, eqb}
use Rattle.base.specs.Choice.{pick}
use Rattle.base.specs.Limits.{most_kw, most_load_share}
use Rattle.base.specs.Kinds.{limit_kind, outside_right_kind, load_share_kind, existing_contract_kind, new_use_kind}
use Rattle.sheet_records.specs.Refusal.{within}
use Rattle.sheet_reading.specs.declared.rules.Rule.{Rule}

-- whether it names a holder, an intertie, a rank, years
abbrev pub names_holder : ℕ → Bool
names_holder k = within load_share_kind new_use_kind k

abbrev pub names_intertie : ℕ → Bool
names_intertie k = within limit_kind outside_right_kind k || within existing_contract_kind new_use_kind k

abbrev pub names_rank : ℕ → Bool
names_rank k = eqb k new_use_kind

abbrev pub names_years : ℕ → Bool
names_years k = within existing_contract_kind new_use_kind k

-- the least quantity of a kind: 0 for limits and load shares
abbrev pub least_of : ℕ → ℕ
least_of k = pick (eqb k limit_kind || eqb k load_share_kind) 0 1

-- the most of it; kinds 0 and 7 to 15 have no quantity from 1 to 0
abbrev pub most_of : ℕ → ℕ
most_of k = pick (eqb k load_share_kind) most_load_share (pick (within limit_kind new_use_kind k) most_kw 0)

-- together
abbrev pub rule_of : ℕ → Rule
rule_of k =
    record {
      holder = names_holder k;
      intertie = names_intertie k;
      rank = names_rank k;
      years = names_years k;
      least = least_of k;
      most = most_of k;
    }
