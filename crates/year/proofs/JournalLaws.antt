-- A journal that was read has at most 16,384 calls.
use Prim.Native.Nat.{ℕ, ◌≤◌}
use mathlib.Core.Path.{◌≡◌}
use mathlib.Core.List.{List}
use native.Mathlib.Omega.{arith}
use lib.ListN.{length}
use Rattle.std.specs.Prelude.{Ok}
use Rattle.journal.specs.Journals.{answer_of}
use Rattle.journal.proofs.Promise.{room_for}

pub calls-few : (text calls : List ℕ) (count : ℕ) → length calls ≡ 98304 → answer_of text calls ≡ Ok count → count ≤ 16384
calls-few text calls count size stands = omega (arith, room_for text calls count stands, size)
