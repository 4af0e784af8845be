use Rattle.base.proofs.Prelude.{sym, ◌∙◌, arith, rules}
use Rattle.year.proofs.StretchLaws.{none_yet, none_more, one-closes, never-closes}
use Rattle.year.proofs.running.Calls.stretch_end.Goals as goal

pub loop-n-init : goal.loop-n-init
loop-n-init c = none_yet c.args.self.words.now c.args.first

pub returns-then-self-n : goal.returns-then-self-n
returns-then-self-n c =
    (search rules, search rules, one-closes c.args.self.words.now c.args.first c.loop-n.n c.loop-n.invariant)

pub loop-n-preserved : goal.loop-n-preserved
loop-n-preserved c =
    none_more c.args.self.words.now c.args.first c.loop-n.n c.loop-n.invariant (λ e. c.if-self-n.false (e ∙ sym c.number.ensures))

pub returns : goal.returns
returns c =
    (search rules, search rules, never-closes c.args.self.words.now c.args.first c.loop-n.n _ (omega arith) c.loop-n.invariant)
