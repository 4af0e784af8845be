-- `refusal::sheet_refusal` meets its contract: refusals 1 and 2 by the head, 3 and 4 by a reading into cleared tables.
use Rattle.base.proofs.Prelude.{ap, sym, ◌∙◌, refl}
use Rattle.base.proofs.RefusedLaws.{handed-on}
use Rattle.sheet_records.specs.Refusal.{sheet_refusal}
use Rattle.sheet_reading.proofs.SheetLaws.{head-kept, head-refused}
use Rattle.sheet_reading.proofs.refusal.sheet_refusal.Goals as goal

pub returns-in_err-headed : goal.returns-in_err-headed
returns-in_err-headed c = handed-on _ _ c.from_residual.ensures.1 ∙ head-refused _ _ (sym c.of.ensures ∙ c.in_err-headed.was)

pub read_sized-requires : goal.read_sized-requires
read_sized-requires c = (refl, refl)

pub returns : goal.returns
returns c =
    (rw c.find_slots-found.ensures at c.read_sized.ensures).0
    ∙ ap sheet_refusal (head-kept _ _ (sym c.of.ensures ∙ c.in_ok-headed.was))
