use Rattle.std.proofs.Common.{refl, rules}
use Rattle.orderly.proofs.CheckLaws.{fit}
use Rattle.orderly.proofs.rows.Rows.of.Goals as goal

pub returns : goal.returns
returns c = (
  refl,
  fit _ _ _ _ _ c.if-state-lt-STATE_WORDS.false c.intertie_count-interties.ensures c.holder_count-holders.ensures c.stage.ensures c.sizes_in_range.ensures
      c.in-Ok.stage (search rules) c.in-Ok.ensures,
)
