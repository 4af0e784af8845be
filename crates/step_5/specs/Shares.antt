-- Step 5 (docs/RULES.md, "Opening"): rounds that exclude, then a share for each holder that stays eligible.
use Rattle.std.specs.Prelude.{ℕ, zero, suc, ◌-◌, ◌*◌, ◌/◌, true, false, List, length, eqb}
use Rattle.base.specs.Choice.{pick}
use Rattle.base.specs.Words.{at, tab}
use Rattle.step_5.specs.Round.{eligible, gross_remaining, eligible_loads, newly_excluded, round_marks}

-- repeat until a round excludes none. The first number bounds how many rounds follow: each but the last excludes a holder,
-- so one more than there are holders is enough (`proofs/RoundLaws`, `rounds-end`)
unfoldable pub rounds : ℕ → List ℕ → List ℕ → ℕ → List ℕ → List ℕ
rounds total held loads zero x = x
rounds total held loads (suc more) x =
    elim (eqb (newly_excluded total held loads x) 0) [
      | true ↦ x
      | false ↦ rounds total held loads more (round_marks total held loads x)
    ]

-- all start eligible
abbrev pub all_eligible : List ℕ → List ℕ
all_eligible held = tab (length held) (λ i. eligible)

-- the marks when a round excludes none
unfoldable pub settled : ℕ → List ℕ → List ℕ → List ℕ
settled total held loads = rounds total held loads (suc (length held)) (all_eligible held)

-- an eligible holder's share is G × load share / V rounded down, minus held; others 0
unfoldable pub share_of : ℕ → List ℕ → List ℕ → List ℕ → ℕ → ℕ
share_of total held loads x i =
    pick (eqb (at x i) eligible) (gross_remaining total held x * at loads i / eligible_loads held loads x - at held i) 0

-- the Step 5 shares, one for each holder
unfoldable pub step5_shares : ℕ → List ℕ → List ℕ → List ℕ
step5_shares total held loads = tab (length held) (share_of total held loads (settled total held loads))
