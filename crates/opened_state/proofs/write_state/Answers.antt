-- `write_state` meets its contract: nothing where the sizes don't fit, else the groups in the order of their rows.
use Rattle.base.proofs.Prelude.{ap, ◌∙◌}
use Rattle.opened_state.specs.Write.{figures_written, reserved_written, stage_written, rows_cleared, pairs_cleared}
use Rattle.opened_state.proofs.WriteLaws.{sizes-pass, written-short, written-large, written-whole}
use Rattle.opened_state.proofs.write_state.Goals as goal

pub returns-then-read : goal.returns-then-read
returns-then-read c = let a = c.args in written-large a.read.tables.now _ _ a.figures.now _ c.if-read.true

pub returns-in_default : goal.returns-in_default
returns-in_default c = let a = c.args in written-short a.read.tables.now _ _ a.figures.now _ c.in_default.ensures.cases

pub returns : goal.returns
returns c =
    let r = c.args.read in
    let I = r.interties in
    let H = r.holders in
    let tables = r.tables.now in
    let figures = c.args.figures.now in
    let cut = c.in-Some.ensures.cases in
    written-whole tables I H figures c.args.state.now _ _ c.if-read.false (cut.enough, cut.same)
    (c.clear_pairs.ensures
    ∙ ap (pairs_cleared I H)
    (c.clear_rows.ensures
    ∙ ap (rows_cleared H)
    (c.write_stage.ensures
    ∙ ap (stage_written I H figures)
    (c.write_reserved.ensures
    ∙ ap (reserved_written tables I H figures)
    (c.write_figures.ensures ∙ ap (figures_written tables I H figures) c.write_sizes.ensures)))))

pub invariant_of-from : goal.invariant_of-from
invariant_of-from c = let z = sizes-pass _ _ c.if-read.false in record { few = z.few; small = z.small }
