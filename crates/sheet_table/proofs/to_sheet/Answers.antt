-- `to_sheet` meets its contract: the first line, then the others, then the bytes (`ConvertLaws`).
use Rattle.base.proofs.Prelude.{refl, ap, ◌∙◌, ◌^◌, ◌<◌, ◌≤◌, take, [], length, arith, rules}
use Rattle.std.specs.Prelude.{get_or, drop}
use lib.ListN.{length-drop}
use Rattle.text.specs.Pieces.{fields}
use Rattle.text.proofs.PieceLaws.{length-fields}
use Rattle.sheet_table.proofs.FieldLaws.{first-piece}
use Rattle.sheet_table.proofs.ConvertLaws.{first_stops, line-stops, text-converts, faulty-answer}
use Rattle.sheet_table.proofs.to_sheet.Goals as goal

pub returns-in_err-sizes : goal.returns-in_err-sizes
returns-in_err-sizes c =
    let first = first-piece c.split-lines.result c.next.new.self c.next.result c.unwrap_or-first.result _ c.next.ensures.steps c.unwrap_or-first.ensures refl in
    faulty-answer _ _ _ _ c.from_residual.ensures.1
    (first_stops c.args.text.now _ _ (first.0 ∙ ap (λ l. get_or l 0 []) c.split-lines.ensures) (first.1 ∙ ap (drop 1) c.split-lines.ensures) _ c.read_first.ensures _ c.in_err-sizes.was)

pub read_lines-requires : goal.read_lines-requires
read_lines-requires c =
    let first = first-piece c.split-lines.result c.next.new.self c.next.result c.unwrap_or-first.result _ c.next.ensures.steps c.unwrap_or-first.ensures refl in
    let rest = first.1 ∙ ap (drop 1) c.split-lines.ensures in
    let small : length c.args.text.now < 2 ^ 63 = search rules in
    omega (arith, ap length rest, length-drop 1 (fields 10 c.args.text.now), length-fields 10 c.args.text.now, small)

pub returns-in_err-records : goal.returns-in_err-records
returns-in_err-records c =
    let first = first-piece c.split-lines.result c.next.new.self c.next.result c.unwrap_or-first.result _ c.next.ensures.steps c.unwrap_or-first.ensures refl in
    faulty-answer _ _ _ _ c.from_residual-in_err-records.ensures.1
    (line-stops c.args.text.now _ _ (first.0 ∙ ap (λ l. get_or l 0 []) c.split-lines.ensures) (first.1 ∙ ap (drop 1) c.split-lines.ensures) _ c.read_first.ensures _ c.in_ok-sizes.was
    c.read_lines.result c.read_lines.ensures.0 _ c.in_err-records.was)

pub returns : goal.returns
returns c =
    let first = first-piece c.split-lines.result c.next.new.self c.next.result c.unwrap_or-first.result _ c.next.ensures.steps c.unwrap_or-first.ensures refl in
    let even = rw c.in_ok-records.was at c.read_lines.ensures.1 in
    let few : length c.in_ok-records.records.keys.items ≤ 1024 = omega (arith, c.as_slice.ensures.fits, ap length c.as_slice.ensures.value) in
    let wrote = rw (c.as_slice.ensures.value, c.as_slice-2.ensures.value) at c.write_sheet.ensures in
    text-converts c.args.text.now _ _ (first.0 ∙ ap (λ l. get_or l 0 []) c.split-lines.ensures) (first.1 ∙ ap (drop 1) c.split-lines.ensures) _ c.read_first.ensures _ c.in_ok-sizes.was
    c.read_lines.result c.read_lines.ensures.0 c.in_ok-records.records _ c.write_sheet.new.output _ _ c.unwrap_or-count.result c.in_ok-records.was few even (search rules) wrote c.unwrap_or-count.ensures
    (c.truncate.ensures.items ∙ ap (take c.unwrap_or-count.result) c.from-sheet.ensures.0)
