use Rattle.base.proofs.Prelude.{◌*◌, refl, ap, ◌∙◌, length, length-set}
use Rattle.sheet_records.proofs.BytesLaws.{words-none, words-turn}
use Rattle.sheet_records.proofs.writing.write_words.Goals as goal

pub loop-k-init : goal.loop-k-init
loop-k-init c =
    let a = c.args in
    (refl, words-none (4 * a.first) a.words.now a.output.now)

pub loop-k-preserved : goal.loop-k-preserved
loop-k-preserved c =
    let a = c.args in
    let inv = c.loop-k.invariant in
    let wrote = c.write_word.ensures in (
      ap length wrote ∙ simp length-set inv.0,
      words-turn a.first c.loop-k.k a.words.now a.output.now _ _ c.loop-k-test.true inv.1 wrote,
    )
