-- `fields::pack` meets its contract: fields within their widths lose nothing when they are cut to them.
use Rattle.base.proofs.Prelude.{◌∙◌, arith}
use Rattle.sheet_keys.proofs.KeyLaws.{uncut}
use Rattle.sheet_table.proofs.fields.pack.Goals as goal

pub returns : goal.returns
returns c =
    let k = c.args.key in
    c.from.ensures
    ∙ uncut k.kind k.holder k.intertie k.rank k.years (omega arith) (omega arith) (omega arith) (omega arith) (omega arith)
