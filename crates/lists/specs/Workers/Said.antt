-- The call that a kind and numbers say, and what it leaves of the words that it is lent.
use Rattle.std.specs.Prelude.{ℕ, List, eqb}
use Rattle.base.specs.CallKind.{number_of}
use Rattle.base.specs.Choice.{pick}
use Rattle.base.specs.Encoding.{close_call}
use Rattle.base.specs.declared.encoding.CallKind.{CallKind}
use Rattle.base.specs.declared.encoding.CallKind.TheVariants.{Trade, Request, Close, Take, Move, Lock}
use Rattle.balances.specs.Calls as Calls
use Rattle.lists.specs.declared.encoded.Call.{Call}

-- a closing gets the words that are lent to it
abbrev pub by_kind : CallKind → (a b c kw : ℕ) → List ℕ → Calls.Call
by_kind Trade a b c kw lent = Calls.trade a b kw
by_kind Request a b c kw lent = Calls.request a b kw
by_kind Close a b c kw lent = Calls.close lent
by_kind Take a b c kw lent = Calls.take a b kw c
by_kind Move a b c kw lent = Calls.move a b c kw
by_kind Lock a b c kw lent = Calls.lock a b kw c

abbrev pub said : Call → List ℕ → Calls.Call
said call lent = by_kind call.kind call.a call.b call.c call.kw lent

-- a closing leaves there what it granted, other calls leave what was there
abbrev pub lent_after : CallKind → (grants lent : List ℕ) → List ℕ
lent_after kind grants lent = pick (eqb (number_of kind) close_call) grants lent
