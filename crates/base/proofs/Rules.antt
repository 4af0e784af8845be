-- The rules by which `search` closes a return of a ladder of tests: what `rules` has, and each test's value from the branch that was taken.
use Rattle.std.proofs.Common.{rules, le-ltb, lt-ltb, eq-eqb, ne_eqb, le-leb}
use borrow.Author.Tests.{lt-leb}

pub ruleset tests = (rules, le-ltb, lt-ltb, eq-eqb, ne_eqb, le-leb, lt-leb)
