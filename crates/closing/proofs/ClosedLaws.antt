-- What a closing leaves in the state, from what its workers leave, and what it answers.
use Prim.Native.Nat.{ℕ, ◌+◌, ◌-◌, ◌*◌, ◌%◌, ◌^◌, ◌≤◌, ◌<◌}
use mathlib.Core.Path.{◌≡◌, refl, sym, ap, ◌∙◌}
use mathlib.Core.List.{List}
use native.Mathlib.Nat.{mod-eq_of_lt}
use native.Mathlib.Omega.{arith}
use lib.ListN.{length, set}
use Rattle.base.specs.Choice.{pick}
use Rattle.base.specs.Sums.{sum_to}
use Rattle.base.specs.Words.{at, tab}
use Rattle.base.specs.Answers.{refused, granted}
use Rattle.base.specs.declared.Answer.{Answer}
use Rattle.base.specs.declared.refusals.Refusal.{Refusal}
use Rattle.base.specs.Refused.{number_of}
use Rattle.base.proofs.RefusedLaws.{numbered}
use Rattle.base.proofs.SumLaws.{sum_to-same}
use Rattle.base.proofs.WordLaws.{at-tab}
use Rattle.intertie_shares.specs.Pairs.{at_pair}
use Rattle.state.specs.Layout.{place, interties, holders, stage_at, stage_of, unassigned_of, unplaced_of, placed_of}
use Rattle.state.proofs.OrderlyLaws.{Orderly, none-refused, unassigned-most, unplaced-most, placed-most}
use Rattle.state_rows.specs.Rows.{fill_row, fill_pairs, fit_row, fit_field, fit_pairs}
use Rattle.state_rows.proofs.RowLaws.{length-fill_row, at-fill_row-apart, length-fill_pairs}
use Rattle.state_rows.proofs.FitLaws.{cleared-pairs}
use Rattle.closing.specs.Close.{close_refusal, close_grant, close_kw, close_passes, granted_to, granted_on, close_state, close_grants, close}
use Rattle.closing.specs.Workers.Work.{Closable, Grants, Written}
use Rattle.closing.proofs.CloseLaws.{close-done, close-granted, close-refused}
use Rattle.closing.proofs.GrantLaws.{granted-to-most}
use Rattle.closing.proofs.SharingLaws.{at-read, length-read}
use Rattle.closing.proofs.StoreLaws.{stored_row, raised-pairs}

-- what is left on each intertie, and to each holder, once a table of the grants is taken off what was read
module _ (s table : List ℕ) (g : Grants s table) where
  pub unassigned-left : (n H : ℕ) (read after : List ℕ) → interties s ≤ n → H ≡ holders s → read ≡ tab n (λ c. at s (place 104 c)) →
      after ≡ tab (length read) (λ i. at read i - sum_to H (λ h. at_pair table h i)) → (i : ℕ) → i < interties s → at after i ≡ unassigned_of s i - granted_on s i
  unassigned-left n H read after few f r e i l =
      ap (λ k. at k i) e
      ∙ at-tab (length read) _ i (omega (arith, length-read s n read 104 r))
      ∙ ap (λ x. x - sum_to H (λ h. at_pair table h i)) (at-read s n read 104 i r (omega arith))
      ∙ rw f (ap (λ x. unassigned_of s i - x) (sum_to-same (holders s) (λ h. at_pair table h i) (λ h. close_grant s h i) (λ h k. g.pairs h i k l)))

  pub unplaced-left : Orderly s → (n I : ℕ) (read after : List ℕ) → holders s ≤ n → I ≡ interties s → read ≡ tab n (λ c. at s (place 105 c)) →
      after ≡ tab (length read) (λ h. at read h - sum_to I (λ i. at_pair table h i) % 2 ^ 64) → (h : ℕ) → h < holders s → at after h ≡ unplaced_of s h - granted_to s h
  unplaced-left o n I read after low f r e h k =
      let granted : sum_to (interties s) (λ i. at_pair table h i) ≡ granted_to s h =
      sum_to-same (interties s) (λ i. at_pair table h i) (λ i. close_grant s h i) (λ i l. g.pairs h i k l) in
      ap (λ l. at l h) e
      ∙ at-tab (length read) _ h (omega (arith, length-read s n read 105 r))
      ∙ ap (λ x. x - sum_to I (λ i. at_pair table h i) % 2 ^ 64) (at-read s n read 105 h r (omega arith))
      ∙ rw (f, granted) (ap (λ x. unplaced_of s h - x) (mod-eq_of_lt (omega (arith, granted-to-most s o h k, unplaced-most o h k))))

-- the state, store by store
pub state-is : (s unassigned unplaced table t1 t2 t3 t4 t5 : List ℕ) (I H stage : ℕ) → 16000 ≤ length s → Orderly s → Grants s table → Written s unassigned unplaced →
    I ≡ interties s → H ≡ holders s → stage ≡ stage_of s →
    t1 ≡ pick (fit_row (length s) 104 I (length unassigned)) (fill_row 104 I (λ c. at unassigned c % 4294967296) s) s →
    t2 ≡ pick (fit_row (length t1) 105 H (length unplaced)) (fill_row 105 H (λ c. at unplaced c % 4294967296) t1) t1 →
    t3 ≡ pick (fit_pairs (length t2) 109 H I (length table)) (fill_pairs 109 H I (λ h i. (at t2 (place (109 + h) i) + at table (48 * h + i) % 4294967296) % 4294967296) t2) t2 →
    t4 ≡ pick (fit_field (length t3) 237 H I) (fill_pairs 237 H I (λ h i. 0) t3) t3 →
    t5 ≡ set t4 stage_at (stage + 1) → t5 ≡ close_state s
unfolding close_state
state-is s unassigned unplaced table t1 t2 t3 t4 t5 I H stage long o d w e f g a1 a2 a3 a4 a5 =
    let few : I ≤ 48 = omega (arith, o.interties-most) in
    let low : H ≤ 32 = omega (arith, o.holders-most) in
    let left-on : ℕ → ℕ = λ i. unassigned_of s i - granted_on s i in
    let left-to : ℕ → ℕ = λ h. unplaced_of s h - granted_to s h in
    let e1 : t1 ≡ fill_row 104 I left-on s =
    stored_row s t1 unassigned 104 I left-on a1 long (omega arith) few (omega (arith, w.unassigned-size))
    (λ i l. w.unassigned-is i (rw (← e) l)) (λ i l. omega (arith, unassigned-most o i (rw (← e) l))) in
    let n1 : length t1 ≡ length s = ap length e1 ∙ length-fill_row 104 I left-on s in
    let e2 : t2 ≡ fill_row 105 H left-to t1 =
    stored_row t1 t2 unplaced 105 H left-to a2 (omega arith) (omega arith) (omega arith) (omega (arith, w.unplaced-size))
    (λ h k. w.unplaced-is h (rw (← f) k)) (λ h k. omega (arith, unplaced-most o h (rw (← f) k))) in
    let n2 : length t2 ≡ length s = ap length e2 ∙ length-fill_row 105 H left-to t1 ∙ n1 in
    let placed : (h i : ℕ) → i < I → at t2 (place (109 + h) i) ≡ placed_of s h i =
    λ h i l.
    ap (λ t. at t (place (109 + h) i)) e2 ∙ at-fill_row-apart 105 H left-to t1 (109 + h) i (omega arith) (omega arith) (omega arith)
    ∙ ap (λ t. at t (place (109 + h) i)) e1 ∙ at-fill_row-apart 104 I left-on s (109 + h) i few (omega arith) (omega arith) in
    let e3 : t3 ≡ fill_pairs 109 H I (λ h i. placed_of s h i + close_grant s h i) t2 =
    raised-pairs t2 t3 table 109 H I (λ h i. placed_of s h i + close_grant s h i) a3 (omega arith) (omega arith) low few (omega (arith, d.size))
    (λ h i k l. omega (arith, placed h i l, d.pairs h i (rw (← f) k) (rw (← e) l)))
    (λ h i k l.
    omega (arith, d.pairs h i (rw (← f) k) (rw (← e) l), d.small h i (rw (← f) k) (rw (← e) l), placed-most o h i (rw (← f) k) (rw (← e) l))) in
    let n3 : length t3 ≡ length s = ap length e3 ∙ length-fill_pairs 109 H I (λ h i. placed_of s h i + close_grant s h i) t2 ∙ n2 in
    let e4 : t4 ≡ fill_pairs 237 H I (λ h i. 0) t3 = cleared-pairs t3 t4 237 H I a4 (omega arith) (omega arith) low few in
    rw (a5, e4, e3, e2, e1, e, f, g)

-- what holds where no refusal applies
pub closable : (s grants : List ℕ) → 0 ≡ close_refusal s grants → Closable s × (1536 ≤ length grants)
closable s grants e =
    let d = close-done s grants (sym e) in (
      record {
        fit = none-refused d.long d.orderly;
        long = d.long;
        few = d.orderly.interties-most;
        low = d.orderly.holders-most;
        stage-most = d.stage-most;
      },
      d.room,
    )

-- what a function answered and left is what the call gives, by the number that it found
pub is_refused : (s grants : List ℕ) (refusal : Refusal) → number_of refusal ≡ close_refusal s grants →
    (refused (number_of refusal) ≡ (close s grants).answer) × (s ≡ (close s grants).state) × (grants ≡ (close s grants).grants)
is_refused s grants refusal e =
    let some : number_of refusal ≡ 0 → ⊥ = λ z. omega (arith, numbered refusal) in
    let o : close s grants ≡ record { answer = refused (number_of refusal); state = s; grants = grants } =
    rw e (close-refused s grants (rw e at some)) in
    rw o (refl, refl, refl)

pub is_done : (s grants t after : List ℕ) (r : Answer) → 0 ≡ close_refusal s grants → r ≡ granted (close_kw s) (close_passes s) →
    t ≡ close_state s → after ≡ close_grants s grants → (r ≡ (close s grants).answer) × (t ≡ (close s grants).state) × (after ≡ (close s grants).grants)
is_done s grants t after r z told left wrote = rw (close-granted s grants (sym z)) (told, left, wrote)
