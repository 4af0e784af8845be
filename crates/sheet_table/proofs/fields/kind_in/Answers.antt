-- `kind_in` meets its contract: a name, or else a number.
use Rattle.base.proofs.Prelude.{sym, ◌∙◌, rules}
use Rattle.sheet_table.proofs.FieldLaws.{kind-named, kind-numbered}
use Rattle.sheet_table.proofs.fields.kind_in.Goals as goal

pub returns-in-Some : goal.returns-in-Some
returns-in-Some c = kind-named c.args.field.now c.in-Some.kind _ (sym c.in-Some.is ∙ c.named.ensures) c.number.ensures

pub returns-in-None : goal.returns-in-None
returns-in-None c = search (rules, kind-numbered)
