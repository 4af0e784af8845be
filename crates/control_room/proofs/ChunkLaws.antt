-- A list of words cut into calls or answers of n words each: word j of chunk i is word n * i + j of the list.
use Prim.Native.Nat.{ℕ, zero, suc, ◌+◌, ◌*◌, ◌<◌}
use mathlib.Core.Path.{◌≡◌, ap, ◌∙◌}
use mathlib.Core.List.{List, []}
use native.Mathlib.Omega.{arith}
use lib.ListN.{get_or, drop}
use Rattle.std.proofs.lemmas.List.{get_or-take, get_or-drop}
use Rattle.std.specs.Simd.{first_chunks}
use Rattle.base.specs.Words.{at}

pub at-chunk : (n k i j : ℕ) (l : List ℕ) → i < k → j < n → at (get_or (first_chunks n k l) i []) j ≡ at l (n * i + j)
at-chunk n zero i j l few inside = absurd (omega arith)
at-chunk n (suc k) zero j l few inside = get_or-take n l j 0 inside ∙ ap (at l) (omega arith)
at-chunk n (suc k) (suc i) j l few inside =
    at-chunk n k i j (drop n l) (omega arith) inside
    ∙ get_or-drop n l (n * i + j) 0
    ∙ ap (at l) (omega arith)
