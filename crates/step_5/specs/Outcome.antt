-- Which lists and numbers Step 5 takes, and what its caller gets. The limits leave room for every product in 64 bits.
use Rattle.std.specs.Prelude.{ℕ, Bool, true, false, ◌&&◌, List, length, leb, eqb}
use Rattle.base.specs.Choice.{pick}
use Rattle.base.specs.Limits.{most_holders, most_held_kw, most_load_share}
use Rattle.base.specs.Sums.{all_to}
use Rattle.base.specs.Words.{at, fill}
use Rattle.step_5.specs.Shares.{step5_shares}

-- by the lengths of held, loads and output: lists of like length, of at most 32 holders, and room for their shares
abbrev pub fit_lengths : ℕ → ℕ → ℕ → Bool
fit_lengths n loads output = eqb n loads && (leb n most_holders && leb n output)

-- held at most 2,880,000,000 kW, which is 20,000,000 for each of E, P and N on 48 interties; a load share at most 100,000,000
abbrev pub in_range : List ℕ → List ℕ → ℕ → Bool
in_range held loads i = leb (at held i) most_held_kw && leb (at loads i) most_load_share

-- T at most 2,880,000,000 kW, and every holder's numbers in range
unfoldable pub fit_numbers : ℕ → List ℕ → List ℕ → Bool
fit_numbers total held loads = leb total most_held_kw && all_to (length held) (in_range held loads)

-- whether the lists and numbers fit, and the output afterwards
pub record Outcome : Type 0 where
  pub fit : Bool
  pub output : List ℕ

-- where they fit, the shares stand in the first places; otherwise the output stays
unfoldable pub step5 : ℕ → List ℕ → List ℕ → List ℕ → Outcome
step5 total held loads output =
    pick (fit_lengths (length held) (length loads) (length output) && fit_numbers total held loads)
    (record { fit = true; output = fill (length held) (at (step5_shares total held loads)) output })
    (record { fit = false; output = output })
