-- What the workers of a closing are handed and what they leave. A table of the pairs has a row of 48 numbers for each holder.
use Rattle.std.specs.Prelude.{ℕ, ◌-◌, ◌≤◌, ◌<◌, ◌≡◌, List, length}
use Rattle.base.specs.Words.{at}
use Rattle.base.specs.Limits.{state_words, most_holders, most_interties, most_pairs, most_kw}
use Rattle.base.specs.Stages.{second_requests_stage}
use Rattle.intertie_shares.specs.Pairs.{at_pair}
use Rattle.state.specs.Layout.{interties, holders, stage_of, unassigned_of, unplaced_of}
use Rattle.state.specs.Orderly.{state_refusal}
use Rattle.closing.specs.Close.{close_grant, granted_to, granted_on}

-- a state that refusals 5 to 7 let pass, with the sizes that follow
pub record Closable (s : List ℕ) : Type 0 where
  pub fit : state_refusal s ≡ 0
  pub long : state_words ≤ length s
  pub few : interties s ≤ most_interties
  pub low : holders s ≤ most_holders
  pub stage-most : stage_of s ≤ second_requests_stage

-- the table of this closing's grants
pub record Grants (s table : List ℕ) : Type 0 where
  pub size : length table ≡ most_pairs
  pub pairs : (h i : ℕ) → h < holders s → i < interties s → at_pair table h i ≡ close_grant s h i
  pub small : (h i : ℕ) → h < holders s → i < interties s → at_pair table h i ≤ most_kw

-- the numbers that are written over two rows of the state
pub record Written (s unassigned unplaced : List ℕ) : Type 0 where
  pub unassigned-size : most_interties ≤ length unassigned
  pub unassigned-is : (i : ℕ) → i < interties s → at unassigned i ≡ unassigned_of s i - granted_on s i
  pub unplaced-size : most_holders ≤ length unplaced
  pub unplaced-is : (h : ℕ) → h < holders s → at unplaced h ≡ unplaced_of s h - granted_to s h
