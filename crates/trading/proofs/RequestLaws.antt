-- What a request that isn't refused finds, and what it leaves.
use Prim.Native.Nat.{ℕ, ◌+◌, ◌-◌, ◌≤◌, ◌<◌}
use mathlib.Core.Path.{◌≡◌, sym}
use mathlib.Core.Bool.{true, not, ◌||◌}
use mathlib.Core.List.{List}
use mathlib.Core.Logic.{◌≢◌, ◌⊎◌, ⊎_elim}
use native.Mathlib.Decide.{ℕ_discrete}
use native.Mathlib.Omega.{arith}
use lib.Dec.{ltb, eqb}
use lib.ListN.{length, set, length-set}
use borrow.Author.Tests.{lt-ltb, ltb-true, ltb-false}
use Rattle.base.specs.Sums.{sum_to}
use Rattle.base.proofs.ChoiceLaws.{or_left, or_right, same_test}
use Rattle.base.proofs.SumLaws.{sum_to-same}
use Rattle.base.specs.Limits.{state_words}
use Rattle.state.specs.Layout.{interties, holders, stage_of, unplaced_of, sellers_of, pending_at, pending_of, of_holder}
use Rattle.state.specs.Orderly.{state_refusal}
use Rattle.state.proofs.FrameLaws.{at_stored, SameRows, same-within, same-store-past, row-sum-stored, row-sum-apart}
use Rattle.state.proofs.OrderlyLaws.{Orderly, refusal-none, unplaced-most, pair-pending-most}
use Rattle.call.specs.Tests.{no_holder, no_intertie, bad_kw}
use Rattle.trading.specs.Request.{request_refusal, request_state}
use Rattle.call.proofs.TestLaws.{is-holder, is-intertie, kw-in-range, either-stage}
use Rattle.trading.proofs.StepLaws.{none-applies}
use Rattle.trading.proofs.KeepLaws.{SameOthers, orderly-kept}

-- what holds where no number applies to a request
pub record Requestable (s : List ℕ) (h i kw : ℕ) : Type 0 where
  pub long : state_words ≤ length s
  pub orderly : Orderly s
  pub requests : (stage_of s ≡ 2) ⊎ (stage_of s ≡ 3)
  pub holder-is : h < holders s
  pub intertie-is : i < interties s
  pub kw-some : 1 ≤ kw
  pub kw-few : kw ≤ 20000000
  pub enough : of_holder pending_of s h + kw ≤ unplaced_of s h

pub request-done : (s : List ℕ) (h i kw : ℕ) → request_refusal s h i kw ≡ 0 → Requestable s h i kw
unfolding request_refusal
request-done s h i kw e =
    let requests = eqb (stage_of s) 2 || eqb (stage_of s) 3 in
    let over = ltb (unplaced_of s h) (of_holder pending_of s h + kw) in
    let none = none-applies (state_refusal s) (not requests) (no_holder s h || no_intertie s i) (bad_kw kw) over e in
    let fit = refusal-none s none.0 in
    record {
      long = fit.0;
      orderly = fit.1;
      requests = either-stage (stage_of s) 2 3 none.1;
      holder-is = is-holder s h (or_left (no_holder s h) (no_intertie s i) none.2);
      intertie-is = is-intertie s i (or_right (no_holder s h) (no_intertie s i) none.2);
      kw-some = (kw-in-range kw none.3).0;
      kw-few = (kw-in-range kw none.3).1;
      enough = ltb-false (unplaced_of s h) (of_holder pending_of s h + kw) none.4;
    }

-- the bounds that keep a request's sum and its cast in range
pub request-room : (s : List ℕ) (h i kw : ℕ) → request_refusal s h i kw ≡ 0 → (kw ≤ 20000000) × (pending_of s h i ≤ 960000000)
request-room s h i kw e =
    let d = request-done s h i kw e in
    (d.kw-few, omega (arith, pair-pending-most d.orderly h i d.holder-is d.intertie-is, unplaced-most d.orderly h d.holder-is))

-- the state after the request
pub request-stored : (s t : List ℕ) (h i kw pending : ℕ) → pending ≡ pending_of s h i → t ≡ set s (pending_at h i) (pending + kw) → t ≡ request_state s h i kw
unfolding request_state
request-stored s t h i kw pending e f = rw (f, e)

-- kW and what is pending are more than the unplaced where what is pending is
pub over-by-pending : (unplaced held kw most pending : ℕ) →
    most ≡ unplaced → pending ≡ held → most < pending → true ≡ ltb unplaced (held + kw)
over-by-pending unplaced held kw most pending a b l = sym (lt-ltb unplaced (held + kw) (omega arith))

-- where what is pending isn't, they are more exactly if the kW are more than the rest
pub over-by-rest : (unplaced held kw most pending : ℕ) →
    most ≡ unplaced → pending ≡ held → pending ≤ most → ltb (most - pending) kw ≡ ltb unplaced (held + kw)
over-by-rest unplaced held kw most pending a b l =
    same_test (ltb (most - pending) kw) (ltb unplaced (held + kw))
    (λ (e : ltb (most - pending) kw ≡ true). lt-ltb unplaced (held + kw) (omega (arith, ltb-true (most - pending) kw e)))
    (λ (e : ltb unplaced (held + kw) ≡ true). lt-ltb (most - pending) kw (omega (arith, ltb-true unplaced (held + kw) e)))

pub request-length : (s : List ℕ) (h i kw : ℕ) → length (request_state s h i kw) ≡ length s
unfolding request_state
request-length s h i kw = simp length-set

module _ {s : List ℕ} {h i kw : ℕ} (d : Requestable s h i kw) where
  row_fits : h < 32
  row_fits = omega (arith, d.holder-is, d.orderly.holders-most)

  column : i < 48
  column = omega (arith, d.intertie-is, d.orderly.interties-most)

  -- the rows before pending
  pub request-before : SameRows 0 237 s (request_state s h i kw)
  unfolding request_state
  request-before = same-store-past 0 237 s (237 + h) i (pending_of s h i + kw) column (omega arith)

  pub request-others : SameOthers s (request_state s h i kw)
  request-others =
      record {
        before = same-within (omega arith) (omega arith) request-before;
        after = same-within (omega arith) (omega arith) request-before;
      }

  -- unplaced and sellers stay
  pub request-unplaced : (g : ℕ) → g < 48 → unplaced_of (request_state s h i kw) g ≡ unplaced_of s g
  request-unplaced g l = request-before.same 105 g (omega arith) (omega arith) l

  pub request-sellers : (g : ℕ) → g < 48 → sellers_of (request_state s h i kw) g ≡ sellers_of s g
  request-sellers g l = request-before.same 106 g (omega arith) (omega arith) l

  -- the pair's pending is more by the kW, and so is the holder's together; another holder's stays
  pub request-pending : pending_of (request_state s h i kw) h i ≡ pending_of s h i + kw
  unfolding request_state
  request-pending = at_stored s (237 + h) i (pending_of s h i + kw) d.long (omega (arith, row_fits)) column

  pub request-pending-sum : sum_to (interties s) (λ j. pending_of (request_state s h i kw) h j) ≡ sum_to (interties s) (λ j. pending_of s h j) + kw
  unfolding request_state
  request-pending-sum =
      omega (arith, row-sum-stored s (237 + h) (interties s) i (pending_of s h i + kw) d.long (omega (arith, row_fits)) d.orderly.interties-most d.intertie-is)

  pub other-pending-sum : (g : ℕ) → g ≢ h → sum_to (interties s) (λ j. pending_of (request_state s h i kw) g j) ≡ sum_to (interties s) (λ j. pending_of s g j)
  unfolding request_state
  other-pending-sum g other =
      row-sum-apart s (237 + h) i (pending_of s h i + kw) (237 + g) (interties s) column d.orderly.interties-most (omega arith)

  request-pending-most : (g : ℕ) → g < holders s → sum_to (interties s) (λ j. pending_of (request_state s h i kw) g j) ≤ unplaced_of (request_state s h i kw) g
  request-pending-most g l =
      let same = request-unplaced g (omega (arith, d.orderly.holders-most)) in
      elim (ℕ_discrete g h) [
        | yes e ↦ rw (e, request-pending-sum, rw e at same) d.enough
        | no other ↦ rw (other-pending-sum g other, same) (d.orderly.pending-most g l)
      ]

  pub request-keeps-orderly : Orderly (request_state s h i kw)
  request-keeps-orderly =
      let n : ℕ = holders s in
      let unplaced-sum = sum_to-same n (λ g. unplaced_of (request_state s h i kw) g) (λ g. unplaced_of s g) (λ g l. request-unplaced g (omega (arith, d.orderly.holders-most))) in
      orderly-kept d.orderly request-others
      (record {
        pending-most = request-pending-most;
        no-pending = λ closed g l. absurd (⊎_elim (λ a. ⊎_elim (λ b. omega arith) (λ b. omega arith) closed) (λ a. ⊎_elim (λ b. omega arith) (λ b. omega arith) closed) d.requests);
        unplaced-sum-most = omega (arith, unplaced-sum, d.orderly.unplaced-sum-most);
        sellers-below = λ g l. rw (request-sellers g (omega (arith, d.orderly.holders-most))) (d.orderly.sellers-below g l);
      })
