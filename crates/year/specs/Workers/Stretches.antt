-- Stretches of calls, each run by the library's list function.
use Rattle.std.specs.Prelude.{ℕ, ◌+◌, ◌*◌, ◌≤◌, ◌<◌, ◌≡◌, true, ◌≢◌, List}
use Rattle.base.specs.Encoding.{call_words, close_call}
use Rattle.base.specs.Words.{at}
use Rattle.lists.specs.Encoded.{run}
use Rattle.year.specs.Year.{zeros}

-- what the library's list function leaves of calls that it ran, each closing lent zeros
abbrev pub Ran : (calls s answers t a : List ℕ) → Type 0
Ran calls s answers t a =
    ((run calls s zeros answers).done ≡ true)
    × (t ≡ (run calls s zeros answers).state)
    × (a ≡ (run calls s zeros answers).answers)

-- only the last of calls first to end - 1 may be a closing
abbrev pub OneClosing : (calls : List ℕ) (first end : ℕ) → Type 0
OneClosing calls first end = (n : ℕ) → first ≤ n → n + 1 < end → at calls (call_words * n) ≢ close_call
