use Rattle.base.proofs.Prelude.{[], arith, ◌∙◌}
use borrow.Author.Tests.{eq-eqb, ne_eqb}
use Rattle.text.proofs.EachLaws.{each-none, each_turn, each-end}
use Rattle.year_text.specs.Text.{grant_of, grants_text}
use Rattle.year_text.proofs.TextLaws.{grant-few}
use Rattle.year_text.proofs.grants_text.Goals as goal

pub returns-then-interties-eq0 : goal.returns-then-interties-eq0
unfolding grants_text
returns-then-interties-eq0 c = rw (eq-eqb c.args.interties 0 c.if-interties-eq0.true) c.clear.ensures

pub loop-word-init : goal.loop-word-init
loop-word-init c = c.clear.ensures ∙ each-none _ _

pub loop-word-preserved : goal.loop-word-preserved
loop-word-preserved c =
    let a = c.args in
    each_turn 65 (grant_of a.grants.now a.interties) (grant-few a.grants.now a.interties) 99840 c.loop-word.word [] _ _ (omega arith) c.loop-word.invariant c.put_grant.ensures

pub returns : goal.returns
unfolding grants_text
returns c = rw (ne_eqb c.args.interties 0 c.if-interties-eq0.false) (each-end _ 1536 _ _ (omega arith) (omega arith) c.loop-word.invariant)
