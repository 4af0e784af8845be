-- The conditions that calls share, by the numbers of their refusals (docs/RULES.md, "Refusals").
use Rattle.std.specs.Prelude.{ℕ, List, Bool, not, ◌&&◌, ◌||◌, leb, eqb}
use Rattle.base.specs.Limits.{most_kw, most_years}
use Rattle.base.specs.Refusals.{stage_refused}
use Rattle.base.specs.Stages.{open_stage}
use Rattle.state.specs.Layout.{interties, holders, stage_of}
use Rattle.state.specs.Orderly.{state_refusal}
use Rattle.call.specs.Outcome.{or_else, whenever}

-- 5 to 7 of a call in stage 4
abbrev pub open_refusal : List ℕ → ℕ
open_refusal s = or_else (state_refusal s) (whenever (not (eqb (stage_of s) open_stage)) stage_refused)

-- 8: no such holder, no such intertie
abbrev pub no_holder : List ℕ → ℕ → Bool
no_holder s h = leb (holders s) h

abbrev pub no_intertie : List ℕ → ℕ → Bool
no_intertie s i = leb (interties s) i

-- 8: a pair that names no holder or no intertie
abbrev pub no_pair : List ℕ → ℕ → ℕ → Bool
no_pair s h i = no_holder s h || no_intertie s i

-- 8: a party that is no holder, or both parties one
abbrev pub unfit_parties : List ℕ → ℕ → ℕ → Bool
unfit_parties s first second = no_holder s first || no_holder s second || eqb first second

-- 9: kW not 1 to 20,000,000; term not 1 to 30
abbrev pub bad_kw : ℕ → Bool
bad_kw kw = not (leb 1 kw && leb kw most_kw)

abbrev pub bad_term : ℕ → Bool
bad_term years = not (leb 1 years && leb years most_years)
