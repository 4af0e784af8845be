-- `posting_text` meets its contract: the line of a refusal, or the lines of the posting.
use Rattle.base.proofs.Prelude.{ℕ, ap, ◌≡◌, ◌∙◌, List, ◌++◌, arith, length, rules}
use Rattle.posting_text.specs.Workers.Columns.{intertie_by_rows, holder_by_rows}
use Rattle.posting_text.proofs.TextLaws.{part-size, part-lines}
use Rattle.posting_text.proofs.PostedLaws.{refused-text, few-interties, few-holders, interties-room, holders-room, done-text}
use Rattle.posting_text.proofs.posting_text.Goals as goal

pub returns-in-Err : goal.returns-in-Err
returns-in-Err c = refused-text _ _ c.post.ensures.0 _ c.in-Err.is _ _ _ (c.from.ensures ∙ c.number.ensures) c.new-text.ensures c.put_line-in-Err.ensures

pub put_lines-requires : goal.put_lines-requires
put_lines-requires c =
    let p = c.post.ensures in
    let i = c.intertie_count-interties.ensures in
    let h = c.holder_count-holders.ensures in
    let few = few-interties _ _ p.0 _ c.in-Ok.is _ _ i h in
    let size : length c.post.new.lines ≡ 480 = search rules in (
      omega (arith, part-size 73 0 6 c.intertie_count-interties.result _ c.post.new.lines _ c.as_chunks.ensures.front (omega (arith, size)) few),
      few,
      interties-room _ _ p.0 _ c.in-Ok.is _ _ i h _ _ _ p.1 c.new-text.ensures c.put_line.ensures,
    )

pub put_lines-requires-in-Ok : goal.put_lines-requires-in-Ok
unfolding intertie_by_rows
put_lines-requires-in-Ok c =
    let p = c.post.ensures in
    let i = c.intertie_count-interties.ensures in
    let h = c.holder_count-holders.ensures in
    let few = few-interties _ _ p.0 _ c.in-Ok.is _ _ i h in
    let small = few-holders _ _ p.0 _ c.in-Ok.is _ _ i h in
    let size : length c.post.new.lines ≡ 480 = search rules in
    let cut = c.as_chunks.ensures.front in (
      omega (arith, part-size 72 6 4 c.holder_count-holders.result _ c.post.new.lines _ cut (omega (arith, size)) (omega arith)),
      omega arith,
      holders-room _ _ p.0 _ c.in-Ok.is _ _ i h _ _ _ p.1 c.new-text.ensures c.put_line.ensures _
          (c.put_lines.ensures ∙ ap (λ (t : List ℕ). c.put_line.new.out.items ++ t) (part-lines 73 0 6 _ _ c.post.new.lines _ cut (omega (arith, size)) few)),
    )

pub returns-in-Ok : goal.returns-in-Ok
unfolding intertie_by_rows holder_by_rows
returns-in-Ok c =
    let p = c.post.ensures in
    let i = c.intertie_count-interties.ensures in
    let h = c.holder_count-holders.ensures in
    let few = few-interties _ _ p.0 _ c.in-Ok.is _ _ i h in
    let small = few-holders _ _ p.0 _ c.in-Ok.is _ _ i h in
    let size : length c.post.new.lines ≡ 480 = search rules in
    let cut = c.as_chunks.ensures.front in
    done-text _ _ p.0 _ c.in-Ok.is _ _ i h _ _ _ p.1 c.new-text.ensures c.put_line.ensures _
    (c.put_lines.ensures ∙ ap (λ (t : List ℕ). c.put_line.new.out.items ++ t) (part-lines 73 0 6 _ _ c.post.new.lines _ cut (omega (arith, size)) few)) _
    (c.put_lines-in-Ok.ensures
    ∙ ap (λ (t : List ℕ). c.put_lines.new.text.items ++ t) (part-lines 72 6 4 _ _ c.post.new.lines _ cut (omega (arith, size)) (omega arith)))
