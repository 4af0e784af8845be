-- What the tests of refusals 1 and 2 say in plain facts.
use Prim.Native.Nat.{ℕ, ◌+◌, ◌*◌, ◌≤◌, ◌<◌}
use mathlib.Core.Path.{◌≡◌, refl}
use mathlib.Core.Bool.{Bool, true, false, ◌||◌, not, true≢false}
use mathlib.Core.List.{List}
use native.Mathlib.Omega.{arith}
use borrow.Author.Tests.{ltb-false, eqb-true, lt-ltb, le-ltb, not-false, leb-true}
use lib.Dec.{ltb, leb, eqb}
use lib.ListN.{length}
use Rattle.base.specs.Choice.{pick}
use Rattle.sheet_records.specs.Sheet.{interties, holders, count}
use Rattle.sheet_records.specs.Refusal.{within, bad_length, Whole, bad_sizes}
use Rattle.base.proofs.ChoiceLaws.{both}

neither : (a b : Bool) → a || b ≡ false → (a ≡ false) × (b ≡ false)
neither true b e = absurd (true≢false e)
neither false b e = (refl, e)

-- refusal 1 as it is decided, with n for the count that was read
pub short-is-bad : (s : List ℕ) → length s < 12 → true ≡ bad_length s
unfolding bad_length
short-is-bad s h = simp (lt-ltb (length s) 12 h)

pub many-is-bad : (s : List ℕ) (n : ℕ) → n ≡ count s → 12 ≤ length s → 1024 < n → true ≡ bad_length s
unfolding bad_length
many-is-bad s n e h k = simp (← e, le-ltb (length s) 12 h, lt-ltb 1024 n k)

pub length-decides : (s : List ℕ) (n : ℕ) → n ≡ count s → 12 ≤ length s → n ≤ 1024 → not (eqb (length s) (12 + 8 * n)) ≡ bad_length s
unfolding bad_length
length-decides s n e h k = simp (← e, le-ltb (length s) 12 h, le-ltb 1024 n k)

-- what the test of refusal 1 says, with n for the count that was read
pub whole : (s : List ℕ) (n : ℕ) → bad_length s ≡ false → n ≡ count s → Whole s n
unfolding bad_length
whole s n e m =
    let p = neither (ltb (length s) 12 || ltb 1024 (count s)) (not (eqb (length s) (12 + 8 * count s))) e in
    let q = neither (ltb (length s) 12) (ltb 1024 (count s)) p.0 in
    let few : count s ≤ 1024 = ltb-false 1024 (count s) q.1 in
    let exact : length s ≡ 12 + 8 * count s = eqb-true (length s) (12 + 8 * count s) (not-false _ p.1) in
    record { passes = e; records = m; few = omega arith; exact = omega arith }

-- a number that is read as 0 of a short sheet
pub long-enough : (s : List ℕ) (n x : ℕ) → bad_length s ≡ false → n ≡ pick (ltb (length s) 12) 0 x → n ≡ x
long-enough s n x e m =
    let long : 12 ≤ length s = omega (arith, whole s (count s) e refl) in
    rw (le-ltb (length s) 12 long) at m

-- the sizes of a sheet that refusal 2 lets pass
pub record Sized (s : List ℕ) : Type 0 where
  pub some-interties : 1 ≤ interties s
  pub few-interties : interties s ≤ 48
  pub some-holders : 1 ≤ holders s
  pub few-holders : holders s ≤ 32

pub sized : (s : List ℕ) → bad_sizes s ≡ false → Sized s
unfolding bad_sizes
sized s e =
    let p = (both (within 1 48 (interties s)) (within 1 32 (holders s))).0 (not-false _ e) in
    let i = (both (leb 1 (interties s)) (leb (interties s) 48)).0 p.0 in
    let h = (both (leb 1 (holders s)) (leb (holders s) 32)).0 p.1 in
    record {
      some-interties = leb-true 1 (interties s) i.0;
      few-interties = leb-true (interties s) 48 i.1;
      some-holders = leb-true 1 (holders s) h.0;
      few-holders = leb-true (holders s) 32 h.1;
    }

-- refusal 1, test by test
pub ruleset lengths = (short-is-bad, many-is-bad, length-decides)
