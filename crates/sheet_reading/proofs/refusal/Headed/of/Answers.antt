-- `Headed::of` meets its contract: each test decides its refusal.
use Rattle.base.proofs.Prelude.{rules, sym}
use Rattle.sheet_reading.proofs.DecideLaws.{sizes-1, sizes-2, sizes-0}
use Rattle.sheet_reading.proofs.refusal.Headed.of.Goals as goal

pub returns-then-bad_length : goal.returns-then-bad_length
returns-then-bad_length c = search (rules, sizes-1)

pub returns-then-not-sizes_in_range : goal.returns-then-not-sizes_in_range
returns-then-not-sizes_in_range c = search (rules, sizes-2)

pub invariant_of-result : goal.invariant_of-result
invariant_of-result c = (sym (search (rules, sizes-0)), λ i. (c.type_inv.sheet i).fits)

pub returns : goal.returns
returns c = search (rules, sizes-0)
