-- What calls change between two states, with what they added; nothing for no call, and one change after another.
use Prim.Native.Nat.{ℕ, ◌+◌, ◌*◌, ◌≤◌, ◌<◌}
use mathlib.Core.Path.{◌≡◌, refl, sym, ap}
use mathlib.Core.List.{List}
use native.Mathlib.Decide.{ℕ_discrete}
use native.Mathlib.Nat.{add-zero}
use native.Mathlib.Omega.{arith}
use lib.ListN.{length}
use Rattle.base.specs.Sums.{sum_to}
use Rattle.base.proofs.SumLaws.{sum_to-add, sum_to-zeros}
use Rattle.base.specs.Limits.{state_words}
use Rattle.state.specs.Layout.{interties, holders, step7_total_of, reserved_of, unassigned_of, unplaced_of, locked_of, of_holder}
use Rattle.state.proofs.FrameLaws.{SameOpening, same_refl, same-trans, same-interties, same-holders}
use Rattle.state.proofs.OrderlyLaws.{Orderly}

-- what calls added: per holder bought, sold and locked; per holder and intertie granted by closings; per intertie granted by takings
pub record Added : Type 0 where
  pub bought : ℕ → ℕ
  pub sold : ℕ → ℕ
  pub locked : ℕ → ℕ
  pub closed : ℕ → ℕ → ℕ
  pub taken : ℕ → ℕ

abbrev pub nothing : Added
nothing = record { bought = λ h. 0; sold = λ h. 0; locked = λ h. 0; closed = λ h i. 0; taken = λ i. 0 }

abbrev pub plus : Added → Added → Added
plus a b =
    record {
      bought = λ h. a.bought h + b.bought h;
      sold = λ h. a.sold h + b.sold h;
      locked = λ h. a.locked h + b.locked h;
      closed = λ h i. a.closed h i + b.closed h i;
      taken = λ i. a.taken i + b.taken i;
    }

-- a state that calls may be made on
pub record Ready (s : List ℕ) : Type 0 where
  pub long : state_words ≤ length s
  pub orderly : Orderly s

-- from the state s to the state t, with a added
pub record Change (s t : List ℕ) (a : Added) : Type 0 where
  pub ready : Ready t
  pub opening : SameOpening s t
  pub on-intertie : (i : ℕ) → i < interties s →
      unassigned_of t i + (sum_to (holders s) (λ h. a.closed h i) + a.taken i) ≡ unassigned_of s i
  pub of-holder : (h : ℕ) → h < holders s →
      unplaced_of t h + (a.sold h + sum_to (interties s) (λ i. a.closed h i)) ≡ unplaced_of s h + a.bought h
  pub locks : (h : ℕ) → h < holders s → of_holder locked_of t h ≡ of_holder locked_of s h + a.locked h
  pub three_quarters : (h : ℕ) → h < holders s → 0 < a.locked h →
      4 * (reserved_of t h + of_holder locked_of t h) ≤ 3 * step7_total_of t h

-- no call, or a refused one
pub change-none : {s : List ℕ} → Ready s → Change s s nothing
change-none {s} r =
    record {
      ready = r;
      opening = same_refl 0 103 s;
      on-intertie = λ i l. omega (arith, sum_to-zeros (holders s) (λ h. 0) (λ h k. refl));
      of-holder = λ h l. omega (arith, sum_to-zeros (interties s) (λ i. 0) (λ i k. refl));
      locks = λ h l. sym (add-zero (of_holder locked_of s h));
      three_quarters = λ h l some. absurd (omega arith);
    }

module _ {s t u : List ℕ} {a b : Added} (o : Orderly s) (c : Change s t a) (d : Change t u b) where
  abbrev same-n : interties t ≡ interties s
  same-n = same-interties c.opening

  abbrev same-m : holders t ≡ holders s
  same-m = same-holders c.opening

  intertie-there : (i : ℕ) → i < interties s → i < interties t
  intertie-there i l = rw same-n l

  there : (h : ℕ) → h < holders s → h < holders t
  there h l = rw same-m l

  then-on-intertie : (i : ℕ) → i < interties s →
      unassigned_of u i + (sum_to (holders s) (λ h. a.closed h i + b.closed h i) + (a.taken i + b.taken i)) ≡ unassigned_of s i
  then-on-intertie i l =
      omega (
        arith,
        c.on-intertie i l,
        d.on-intertie i (intertie-there i l),
        ap (λ n. sum_to n (λ h. b.closed h i)) same-m,
        sum_to-add (holders s) (λ h. a.closed h i) (λ h. b.closed h i),
      )

  then-of-holder : (h : ℕ) → h < holders s →
      unplaced_of u h + (a.sold h + b.sold h + sum_to (interties s) (λ i. a.closed h i + b.closed h i)) ≡ unplaced_of s h + (a.bought h + b.bought h)
  then-of-holder h l =
      omega (
        arith,
        c.of-holder h l,
        d.of-holder h (there h l),
        ap (λ n. sum_to n (λ i. b.closed h i)) same-n,
        sum_to-add (interties s) (λ i. a.closed h i) (λ i. b.closed h i),
      )

  -- the last lock was in the second change, or in the first
  then-three-quarters : (h : ℕ) → h < holders s → 0 < a.locked h + b.locked h →
      4 * (reserved_of u h + of_holder locked_of u h) ≤ 3 * step7_total_of u h
  then-three-quarters h l some =
      elim (ℕ_discrete (b.locked h) 0) [
        | yes none ↦
            let column : h < 48 = omega (arith, o.holders-most) in
            omega (
              arith,
              c.three_quarters h l (omega arith),
              d.locks h (there h l),
              d.opening.same 5 h (omega arith) (omega arith) column,
              d.opening.same 6 h (omega arith) (omega arith) column,
            )
        | no more ↦ d.three_quarters h (there h l) (omega arith)
      ]

  -- one change after another
  pub change-then : Change s u (plus a b)
  change-then =
      record {
        ready = d.ready;
        opening = same-trans c.opening d.opening;
        on-intertie = then-on-intertie;
        of-holder = then-of-holder;
        locks = λ h l. omega (arith, c.locks h l, d.locks h (there h l));
        three_quarters = then-three-quarters;
      }
