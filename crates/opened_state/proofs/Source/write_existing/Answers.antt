use Rattle.base.proofs.Prelude.{◌≡◌, sym, ap, ◌∙◌, arith, rules, at}
use Rattle.sheet_reading.specs.Tables.{existing_slot}
use Rattle.state_rows.proofs.RowLaws.{fill_pairs-none, fill_pairs-turn}
use Rattle.opened_state.specs.Write.{low, existing_written}
use Rattle.opened_state.proofs.Source.write_existing.Goals as goal

pub write_slots-requires : goal.write_slots-requires
write_slots-requires c = (omega (arith, c.args.self.small), c.args.self.few, omega (arith, c.args.self.small))

pub loop-holder-init : goal.loop-holder-init
loop-holder-init c = (search rules, sym (fill_pairs-none _ _ _ _))

pub loop-holder-preserved : goal.loop-holder-preserved
loop-holder-preserved c = let r = c.args.self.read in (
  search rules,
  c.write_slots.ensures
      ∙ fill_pairs-turn 7 c.loop-holder.holder r.interties (λ h i. low (at r.tables.now.kw (existing_slot h i))) _ _ c.loop-holder.invariant.1,
)

pub returns : goal.returns
returns c =
    let r = c.args.self.read in
    let end : c.loop-holder.holder ≡ r.holders = omega arith in
    c.loop-holder.invariant.1 ∙ ap (λ n. existing_written r.tables.now r.interties n c.args.state.now) end
