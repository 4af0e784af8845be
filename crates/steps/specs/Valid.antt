-- Inputs that keep the rules of the sheet (docs/RULES.md, "The sheet"), as far as the ranges of what the steps give need it.
use Rattle.std.specs.Prelude.{ℕ, ◌+◌, ◌≤◌, ◌<◌}
use Rattle.base.specs.Limits.{most_interties, most_holders, most_kw, most_load_share}
use Rattle.steps.specs.Inputs.{Inputs}
use Rattle.steps.specs.Step4a.{existing_on}

pub record Valid (y : Inputs) : Type 0 where
  pub interties-least : 1 ≤ y.interties
  pub interties-most : y.interties ≤ most_interties
  pub holders-least : 1 ≤ y.holders
  pub holders-most : y.holders ≤ most_holders
  pub limit-most : (i : ℕ) → i < y.interties → y.limit i ≤ most_kw
  pub load-share-most : (h : ℕ) → h < y.holders → y.load_share h ≤ most_load_share
  -- refusal 4 does not apply: outside rights and existing contracts fit into the limit
  pub fits : (i : ℕ) → i < y.interties → y.outside i + existing_on y i ≤ y.limit i
