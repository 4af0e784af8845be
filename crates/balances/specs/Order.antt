-- No call and no list of calls takes a state out of order (docs/RULES.md, "The year's state"): `state_refusal` is 0 of a state that is
-- long enough and orderly, and what it is of a state it is after every call, granted or refused.
use Rattle.std.specs.Prelude.{ℕ, ◌≡◌, List}
use Rattle.state.specs.Orderly.{state_refusal}
use Rattle.opening.specs.Open.{open_refusal, opened}
use Rattle.balances.specs.Calls.{Call, result, after}

-- every call on any words
abbrev pub CallsKeepOrder : Type 0
CallsKeepOrder = (call : Call) (s : List ℕ) → state_refusal (result call s).state ≡ state_refusal s

-- every list of calls on any words
abbrev pub ListsKeepOrder : Type 0
ListsKeepOrder = (calls : List Call) (s : List ℕ) → state_refusal (after calls s) ≡ state_refusal s

-- every list of calls on a state that a sheet opened to
abbrev pub YearInOrder : Type 0
YearInOrder =
    (sheet words : List ℕ) (calls : List Call) → open_refusal sheet words ≡ 0 → state_refusal (after calls (opened sheet words).state) ≡ 0
