use Rattle.base.proofs.Prelude.{ap, ◌∙◌, length, arith, rules}
use Rattle.year.proofs.YearLaws.{answers-length}
use Rattle.year.proofs.StretchLaws.{stretch-ran, year-none, year-all}
use Rattle.year.proofs.running.Calls.run_all.Goals as goal

pub loop-first-init : goal.loop-first-init
loop-first-init g c =
    (search rules, search rules, search rules, year-none c.args.self.words.now c.args.state.now c.args.answers.now)

pub loop-first-preserved : goal.loop-first-preserved
loop-first-preserved g c = let a = c.args in
    let t = c.loop-first in
    let to = c.stretch_end-end.ensures in
    let ran =
    stretch-ran a.self.words.now t.first c.stretch_end-end.result to.0 (omega (arith, a.self.few, to.1)) to.2
    a.state.now a.answers.now t.answers t.state t.invariant.3.0 t.invariant.3.1 (omega (arith, a.self.few, to.1, t.invariant.1)) _ _
    c.in_ok-run_stretch.ensures in
    (search rules, ap length ran.1 ∙ answers-length a.self.words.now a.state.now a.answers.now c.stretch_end-end.result, search rules, ran)

pub returns : goal.returns
returns g c =
    year-all c.args.self.words.now c.args.state.now c.args.answers.now c.args.self.count c.loop-first.invariant.3 (omega arith)
