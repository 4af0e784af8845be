use Rattle.base.proofs.Prelude.{refl, ◌∙◌, arith, length}
use Rattle.carrying.specs.NextRecords.{kept}
use Rattle.sheet_records.proofs.RefusalLaws.{whole}
use Rattle.sheet_records.proofs.ReadingLaws.{record-read, all-read, one-more}
use Rattle.carrying.proofs.DraftLaws.{kept-room, kept_next}
use Rattle.carrying.proofs.draft.Draft.keep_records.Goals as goal

pub loop-record-init : goal.loop-record-init
unfolding kept
loop-record-init c = c.requires.1

pub keep-requires : goal.keep-requires
keep-requires c =
    let loop = c.loop-record in
    let read = record-read c.args.sheet.now c.requires.0 _ loop.yielded _ (c.into_iter-record-iterator.ensures.into_iter_gives ∙ c.records-record-items.ensures) loop.yielded_by _ _ c.in-Some.ensures.steps in
    omega (arith, kept-room c.args.sheet.now (length loop.yielded) _ loop.invariant, read.inside, (whole _ _ c.requires.0 refl).few)

pub loop-record-preserved : goal.loop-record-preserved
loop-record-preserved c =
    let loop = c.loop-record in
    let read = record-read c.args.sheet.now c.requires.0 _ loop.yielded _ (c.into_iter-record-iterator.ensures.into_iter_gives ∙ c.records-record-items.ensures) loop.yielded_by _ _ c.in-Some.ensures.steps in
    kept_next c.args.sheet.now _ _ loop.invariant _ _ _ _ read.key-is read.kw-is (one-more _ _) c.keep.ensures

pub returns : goal.returns
returns c =
    let loop = c.loop-record in
    let end = all-read c.args.sheet.now c.requires.0 _ loop.yielded _ (c.into_iter-record-iterator.ensures.into_iter_gives ∙ c.records-record-items.ensures) loop.yielded_by c.in-None.ensures.steps.0 in
    rw (← end) loop.invariant
