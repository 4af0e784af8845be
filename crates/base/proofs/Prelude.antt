-- What most function proofs name, handed on from one place.
pub use Prim.Native.Nat.{ℕ, zero, suc, ◌+◌, ◌-◌, ◌*◌, ◌/◌, ◌%◌, ◌^◌, ◌≤◌, ◌<◌, min, zero-le}
pub use mathlib.Core.Path.{◌≡◌, refl, sym, ap, ◌∙◌, subst}
pub use mathlib.Core.List.{List, [], ◌∷◌, ◌++◌}
pub use mathlib.Core.Bool.{Bool, true, false, not, ◌&&◌}
pub use native.Mathlib.Omega.{arith}
pub use lib.ListN.{length, length-set, take, drop, set, replicate}
pub use lib.Dec.{leb, ltb, eqb}
pub use borrow.Author.Rules.{rules}
unfoldable pub use Rattle.base.specs.Choice.{pick}
unfoldable pub use Rattle.base.specs.Sums.{sum_to, all_to}
unfoldable pub use Rattle.base.specs.Words.{at, tab, fill}

-- the value x of type A, said with its type
abbrev pub the : (A : Type 0) → A → A
the A x = x
