-- Laws of refusals tried in turn: how a function that tries them answers, what the number 0 says of each, and what a call gives by its number.
use Prim.Native.Nat.{ℕ, zero, suc, ◌<◌}
use mathlib.Core.Path.{◌≡◌, refl}
use mathlib.Core.Bool.{Bool, true, false}
use mathlib.Core.List.{List}
use native.Mathlib.Omega.{arith}
use lib.Dec.{eqb-suc-zero}
use borrow.Author.Tests.{ne_eqb}
use Rattle.base.specs.Answers.{refused}
use Rattle.base.specs.declared.Answer.{Answer}
use Rattle.base.specs.declared.refusals.Refusal.{Refusal}
use Rattle.base.specs.Refused.{number_of}
use Rattle.base.proofs.RefusedLaws.{numbered}
use Rattle.call.specs.Outcome.{Outcome, decided, or_else, whenever}

-- a function that tries refusals in turn by `?`: it passes one that doesn't apply, and stops at the first that does
pub passes : (first rest r : ℕ) → 0 ≡ first → r ≡ rest → r ≡ or_else first rest
passes first rest r e t = rw (← e) t

pub stops : (refusal : Refusal) (first rest : ℕ) → number_of refusal ≡ first → number_of refusal ≡ or_else first rest
stops refusal first rest e =
    rw (← e, ne_eqb (number_of refusal) 0 (λ (z : number_of refusal ≡ 0). omega (arith, numbered refusal)))

-- what a call that tried its refusals so answers and leaves: it is refused, or done
module _ (number : ℕ) (s : List ℕ) (done : Outcome) where
  pub is_refused : (refusal : Refusal) → number_of refusal ≡ number →
      (refused (number_of refusal) ≡ (decided number s done).answer) × (s ≡ (decided number s done).state)
  is_refused refusal e =
      let some : number_of refusal ≡ 0 → ⊥ = λ z. omega (arith, numbered refusal) in
      (rw (← e, ne_eqb (number_of refusal) 0 some) refl, rw (← e, ne_eqb (number_of refusal) 0 some) refl)

  pub is_done : (r : Answer) (t : List ℕ) → 0 ≡ number → r ≡ done.answer → t ≡ done.state →
      (r ≡ (decided number s done).answer) × (t ≡ (decided number s done).state)
  is_done r t e told left = (rw (← e) told, rw (← e) left)

-- where none of two applies, the first doesn't and the second doesn't
pub none_first : (first second : ℕ) → or_else first second ≡ 0 → first ≡ 0
none_first zero second e = refl
none_first (suc n) second e = rw eqb-suc-zero at e

pub none-second : (first second : ℕ) → or_else first second ≡ 0 → second ≡ 0
none-second zero second e = e
none-second (suc n) second e = absurd (omega (arith, rw eqb-suc-zero at e))

-- a number that doesn't apply has a condition that fails
pub not-whenever : (condition : Bool) (number : ℕ) → 0 < number → whenever condition number ≡ 0 → condition ≡ false
not-whenever true number some e = absurd (omega arith)
not-whenever false number some e = refl

pub not_first : (condition : Bool) (number second : ℕ) → 0 < number → or_else (whenever condition number) second ≡ 0 → (condition ≡ false) × (second ≡ 0)
not_first condition number second some e =
    (not-whenever condition number some (none_first (whenever condition number) second e), none-second (whenever condition number) second e)

-- what a call gives: by the number 0, and by any other
pub decided-done : (number : ℕ) (s : List ℕ) (done : Outcome) → number ≡ 0 → decided number s done ≡ done
decided-done number s done e = rw e

pub decided-refused : (number : ℕ) (s : List ℕ) (done : Outcome) → (number ≡ 0 → ⊥) → decided number s done ≡ record { answer = refused number; state = s }
decided-refused number s done some = rw (ne_eqb number 0 some)
