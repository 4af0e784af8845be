-- `put_grant` meets its contract: a grant of 0 kW has no line.
use borrow.Author.Tests.{eq-eqb}
use Rattle.text.proofs.PutLaws.{appended-nothing}
use Rattle.year_text.specs.Text.{grant_line}
use Rattle.year_text.proofs.put_grant.Goals as goal

pub returns-else-kw-ne0 : goal.returns-else-kw-ne0
unfolding grant_line
returns-else-kw-ne0 c = rw (eq-eqb c.args.kw 0 c.if-kw-ne0.false) (appended-nothing _ _)
