-- `read_entry` meets its contract: the kind, then the other fields.
use Rattle.base.proofs.Prelude.{◌≡◌, refl, sym, ap, ◌∙◌, arith, rules}
use Rattle.std.specs.Prelude.{Err, get_or, drop}
use Rattle.base.proofs.Prelude.{[]}
use Rattle.sheet_table.specs.Fields.{within}
use Rattle.sheet_table.proofs.FieldLaws.{first-piece, within-most}
use Rattle.sheet_table.proofs.EntryLaws.{in_column, same-number, fault-in, handed-fault, kind-read, kind-stop}
use Rattle.sheet_table.proofs.fields.read_entry.Goals as goal

pub read_entry_of-requires : goal.read_entry_of-requires
read_entry_of-requires c =
    let put : c.map_err.result ≡ in_column 1 c.check_number.result = search rules in
    omega (arith, within-most 15 c.in_ok-kind.kind c.kind_in.result (same-number 1 _ _ (sym c.in_ok-kind.was ∙ put) ∙ c.check_number.ensures))

pub returns : goal.returns
returns c =
    let put : c.map_err.result ≡ in_column 1 c.check_number.result = search rules in
    let first = first-piece c.split-fields.result c.next.new.self c.next.result c.unwrap_or-name.result _ c.next.ensures.steps c.unwrap_or-name.ensures refl in
    kind-read _ _ c.unwrap_or-name.result.now (first.0 ∙ ap (λ l. get_or l 0 []) c.split-fields.ensures) (first.1 ∙ ap (drop 1) c.split-fields.ensures)
    c.in_ok-kind.kind _ (same-number 1 _ _ (sym c.in_ok-kind.was ∙ put) ∙ c.check_number.ensures ∙ ap (within 15) c.kind_in.ensures) c.read_entry_of.ensures

pub returns-in_err-kind : goal.returns-in_err-kind
returns-in_err-kind c =
    let put : c.map_err.result ≡ in_column 1 c.check_number.result = search rules in
    let fault = fault-in 1 _ _ (sym c.in_err-kind.was ∙ put) in
    let first = first-piece c.split-fields.result c.next.new.self c.next.result c.unwrap_or-name.result _ c.next.ensures.steps c.unwrap_or-name.ensures refl in
    handed-fault _ _ c.from_residual.ensures.1
    ∙ ap Err fault.2
    ∙ kind-stop _ _ c.unwrap_or-name.result.now (first.0 ∙ ap (λ l. get_or l 0 []) c.split-fields.ensures) (first.1 ∙ ap (drop 1) c.split-fields.ensures)
    fault.0 (fault.1 ∙ c.check_number.ensures ∙ ap (within 15) c.kind_in.ensures)
