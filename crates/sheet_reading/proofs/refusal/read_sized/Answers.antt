-- `refusal::read_sized` meets its contract: the tests on the tables decide refusals 3 and 4.
use Rattle.base.proofs.Prelude.{rules}
use Rattle.sheet_reading.proofs.DecideLaws.{few-sizes, modest-table, refused-3, refused-4, stands}
use Rattle.sheet_reading.proofs.refusal.read_sized.Goals as goal

pub invariant_of-filled-clause-few_holders : goal.invariant_of-filled-clause-few_holders
invariant_of-filled-clause-few_holders c = (few-sizes _ c.args.found.passed _ _ c.holder_count-holders.ensures c.intertie_count-interties.ensures).0

pub invariant_of-filled-clause-few_interties : goal.invariant_of-filled-clause-few_interties
invariant_of-filled-clause-few_interties c = (few-sizes _ c.args.found.passed _ _ c.holder_count-holders.ensures c.intertie_count-interties.ensures).1

pub invariant_of-filled-clause-modest : goal.invariant_of-filled-clause-modest
invariant_of-filled-clause-modest c =
    modest-table _ c.args.found.passed _ _ c.holder_count-holders.ensures c.intertie_count-interties.ensures c.args.found.bytes _ c.add_records.ensures.1

pub returns-then-not-rules : goal.returns-then-not-rules
returns-then-not-rules c = (search (rules, refused-3), c.add_records.ensures.0, c.add_records.ensures.1)

pub returns-then-not-limits : goal.returns-then-not-limits
returns-then-not-limits c = (search (rules, refused-4), c.add_records.ensures.0, c.add_records.ensures.1)

pub returns : goal.returns
returns c = (search (rules, stands), c.add_records.ensures.0, c.add_records.ensures.1)
