-- The share-out on each intertie, as Steps 4a and 4b and the closings make it (docs/RULES.md, "Opening" and "Calls of the
-- year"): a pool for each intertie, a claim for each pair, a weight for each holder.
use Rattle.std.specs.Prelude.{ℕ, Bool, ◌||◌, List, length, ltb}
use Rattle.base.specs.Choice.{pick}
use Rattle.base.specs.Limits.{most_interties, most_holders, most_pairs}
use Rattle.base.specs.Refusals.{room_refused}
use Rattle.base.specs.Sums.{sum_to}
use Rattle.base.specs.Words.{at, tab}
use Rattle.base.specs.Answers.{refused, granted}
use Rattle.share_out.specs.Rule.{Outcome, share_out}
use Rattle.intertie_shares.specs.Pairs.{at_pair, fill_table}

-- a share-out among H holders by their claims and weights; one that is refused grants 0 kW to each
unfoldable pub among_holders : ℕ → ℕ → (ℕ → ℕ) → (ℕ → ℕ) → Outcome
among_holders H pool claim weight = share_out pool (tab H claim) (tab H weight) (tab H (λ h. 0))

module _ (H : ℕ) (pool : ℕ → ℕ) (claim : ℕ → ℕ → ℕ) (weight : ℕ → ℕ) where
  -- the share-out on intertie i: its pool over the claims of the holders there
  abbrev pub share_out_on : ℕ → Outcome
  share_out_on i = among_holders H (pool i) (λ h. claim h i) weight

  -- the kW granted to holder h on intertie i
  abbrev pub grant_on : ℕ → ℕ → ℕ
  grant_on h i = at (share_out_on i).output h

  -- the kW over the first I interties
  abbrev pub kw_over : ℕ → ℕ
  kw_over I = sum_to I (λ i. (share_out_on i).answer.kw)

  -- and the passes
  abbrev pub passes_over : ℕ → ℕ
  passes_over I = sum_to I (λ i. (share_out_on i).answer.passes)

  -- the answer over the first I interties, and the table of grants after it: each pair has its kW, the other words stay
  abbrev pub over_interties : ℕ → List ℕ → Outcome
  over_interties I grants = record { answer = granted (kw_over I) (passes_over I); output = fill_table I H grant_on grants }

-- refusal 5, by the lengths of pools, claims, weights and grants: over 48 interties, over 32 holders, a pool or a weight
-- missing, a table under 1,536 words
abbrev pub unfit_sizes : ℕ → ℕ → ℕ → ℕ → ℕ → ℕ → Bool
unfit_sizes I H pools claims weights grants =
    ltb most_interties I
    || (ltb most_holders H || (ltb pools I || (ltb weights H || (ltb claims most_pairs || ltb grants most_pairs))))

-- the call, from the pools, the table of claims and the weights; a refusal leaves the grants as they are
unfoldable pub share_out_each : ℕ → ℕ → List ℕ → List ℕ → List ℕ → List ℕ → Outcome
share_out_each I H pools claims weights grants =
    pick (unfit_sizes I H (length pools) (length claims) (length weights) (length grants))
    (record { answer = refused room_refused; output = grants })
    (over_interties H (at pools) (at_pair claims) (at weights) I grants)
