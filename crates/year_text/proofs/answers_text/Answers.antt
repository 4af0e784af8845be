use Rattle.base.proofs.Prelude.{◌/◌, [], min, arith, ◌∙◌, length}
use lib.Seq.{length-take-le}
use Rattle.std.proofs.lemmas.List.{get_or-take}
use Rattle.text.proofs.EachLaws.{each-none, each_turn, each-end}
use Rattle.year_text.specs.Text.{answer_of, answers_text}
use Rattle.year_text.proofs.TextLaws.{answer-few, answer-chunk}
use Rattle.year_text.proofs.answers_text.Goals as goal

pub loop-answer-init : goal.loop-answer-init
loop-answer-init c = c.clear.ensures ∙ each-none _ _

pub loop-answer-preserved : goal.loop-answer-preserved
loop-answer-preserved c =
    let a = c.args in
    let i = c.loop-answer.answer-index in
    let size = length-take-le c.min.result c.as_chunks.result.0.now (omega (arith, c.min.ensures)) in
    let front = get_or-take c.min.result c.as_chunks.result.0.now i [] (omega (arith, size)) in
    let is = rw (front, c.as_chunks.ensures.front, answer-chunk a.answers.now (length a.answers.now / 3) i (omega (arith, c.as_chunks.ensures.front_len, c.min.ensures, size))) at c.put_answer.ensures in
    each_turn 45 (answer_of a.answers.now) (answer-few a.answers.now) 99840 i [] _ _ (omega (arith, c.min.ensures, size)) c.loop-answer.invariant is

pub returns : goal.returns
unfolding answers_text
returns c =
    let size = length-take-le c.min.result c.as_chunks.result.0.now (omega (arith, c.min.ensures)) in
    each-end _ (min (length c.args.answers.now / 3) 2048) _ _ (omega (arith, c.as_chunks.ensures.front_len, c.min.ensures, size))
    (omega (arith, c.as_chunks.ensures.front_len, c.min.ensures, size)) c.loop-answer.invariant
