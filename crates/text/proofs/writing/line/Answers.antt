-- `line` meets its contract: too long a label, too many figures, or its parts one after the other.
use Rattle.base.proofs.Prelude.{sym, ◌∙◌, rules}
use Rattle.text.proofs.LineLaws.{label-over, figures-over}
use Rattle.text.proofs.PutLaws.{label-room, figures-room, line-put}
use Rattle.text.proofs.writing.line.Goals.{else-label-le-LABEL_BYTES-via-then-label-le-LABEL_BYTES+else-figures-le-FIGURES, else-label-le-LABEL_BYTES-via-else-label-le-LABEL_BYTES}
use Rattle.text.proofs.writing.line.Goals as goal

pub put_figures-requires : goal.put_figures-requires
put_figures-requires c = (search rules, search (rules, label-room))

pub push-requires : goal.push-requires
push-requires c = (search rules, search (rules, figures-room))

pub returns-then-figures-le-FIGURES : goal.returns-then-figures-le-FIGURES
returns-then-figures-le-FIGURES c = search (rules, line-put)

pub returns-else-label-le-LABEL_BYTES : goal.returns-else-label-le-LABEL_BYTES
returns-else-label-le-LABEL_BYTES c = elim c.else-label-le-LABEL_BYTES.branch [
  | else-label-le-LABEL_BYTES-via-then-label-le-LABEL_BYTES+else-figures-le-FIGURES w ↦ c.new-line.ensures ∙ sym (figures-over _ _ _ w.if-figures-le-FIGURES.false)
  | else-label-le-LABEL_BYTES-via-else-label-le-LABEL_BYTES w ↦ c.new-line.ensures ∙ sym (label-over _ _ _ w.if-label-le-LABEL_BYTES.false)
]
