-- `all_digits` meets its contract: the library's test of every byte.
use Rattle.std.proofs.Common.{rules, ◌∙◌}
use Rattle.std.proofs.lemmas.Iterator.{YieldsList-from_slice}
use Rattle.std.proofs.lemmas.Iterator.Search.{all_from_yields_List}
use Rattle.base.proofs.Rules.{tests}
use Rattle.text.specs.Decimal.{is_digit}
use Rattle.text.proofs.ReadLaws.{digits-all}
use Rattle.text.proofs.reading.all_digits.Goals as goal

pub returns : goal.returns
returns c =
    all_from_yields_List is_digit _ _ c.all.result c.all.ensures.ran (YieldsList-from_slice c.args.text.now cc) (λ x b q k. search (rules, tests))
    ∙ digits-all c.args.text.now
