use Rattle.base.proofs.Prelude.{ℕ, ap, ◌∙◌, List, [], ◌∷◌, ◌++◌, arith, length, at, tab}
use Rattle.std.proofs.lemmas.List.{get_or_default}
use Rattle.posting_text.proofs.TextLaws.{length-figures, figures-next, one-put}
use Rattle.posting_text.proofs.put_one.Goals as goal

pub push-requires-in-loop-row : goal.push-requires-in-loop-row
push-requires-in-loop-row c =
    let a = c.args in
    omega (arith, ap length c.loop-row.invariant, length-figures a.rows.now c.loop-row.row-index a.number)

pub loop-row-init : goal.loop-row-init
unfolding tab
loop-row-init c = c.push.ensures.items ∙ ap (λ (l : List ℕ). l ++ c.args.number ∷ []) c.new-figures.ensures

pub loop-row-preserved : goal.loop-row-preserved
loop-row-preserved c =
    let a = c.args in
    let rows = a.rows.now in
    figures-next rows a.number c.loop-row.row-index _ _ _ (ap (λ (row : List ℕ). at row a.number) (get_or_default rows c.loop-row.row-index _ _ c.loop-row-test.true))
    c.loop-row.invariant c.push-in-loop-row.ensures.items

pub returns : goal.returns
returns c =
    let a = c.args in
    one-put a.rows.now a.number a.letter _ _ _ _ (omega arith) (omega arith) (c.deref.ensures.0 ∙ c.loop-row.invariant) c.put_line.ensures
