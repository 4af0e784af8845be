-- What Step 5 promises its callers, as theorems about the definition `step5_shares`. Nothing above this crate opens the definition.
use Prim.Native.Nat.{ℕ, suc, ◌+◌, ◌-◌, ◌*◌, ◌/◌, ◌≤◌, ◌<◌}
use mathlib.Core.Path.{◌≡◌, ◌∙◌}
use mathlib.Core.List.{List}
use mathlib.Core.Logic.{⊎_elim}
use native.Mathlib.Nat.{eq-zero-or-pos, mul-zero, zero-div}
use native.Mathlib.Omega.{arith}
use lib.ListN.{length}
use lib.Dec.{eqb}
use borrow.Author.Tests.{eq-eqb, ne_eqb}
use Rattle.base.specs.Sums.{sum_to}
use Rattle.base.specs.Words.{at}
use Rattle.base.proofs.ChoiceLaws.{pick-false}
use Rattle.base.proofs.SumLaws.{sum_to-same, sum_to-term}
use Rattle.base.proofs.WordLaws.{at-tab, length-tab}
use Rattle.step_5.specs.Round.{eligible, excluded, gross_remaining, eligible_loads, newly_excluded, round_marks}
use Rattle.step_5.specs.Shares.{rounds, all_eligible, settled, share_of, step5_shares}
use Rattle.step_5.specs.Workers.Fit.{Marks}
use Rattle.step_5.proofs.RoundLaws.{Settled, marks-first, rounds-last, rounds-same, round-none, settled-end}
use Rattle.step_5.proofs.ShareLaws.{quota, divided, covered, share-held, total-within, shares-most}

-- what Step 5 keeps, whatever the numbers
pub record Promise (total : ℕ) (held loads : List ℕ) : Type 0 where
  -- a mark and a share for each holder
  pub marks : Marks (length held) (settled total held loads)
  pub size : length (step5_shares total held loads) ≡ length held
  -- the rounds are over: one more excludes none
  pub over : newly_excluded total held loads (settled total held loads) ≡ 0
  pub fixed : round_marks total held loads (settled total held loads) ≡ settled total held loads
  -- asking again changes nothing
  pub again : (more : ℕ) → rounds total held loads more (settled total held loads) ≡ settled total held loads
  -- as many rounds as holders are enough: to allow more gives the same
  pub enough : (more : ℕ) → rounds total held loads (length held + more) (all_eligible held) ≡ settled total held loads
  -- nothing is divided by 0
  pub divided : (i : ℕ) → i < length held → at (settled total held loads) i ≡ eligible → 0 < eligible_loads held loads (settled total held loads)
  -- no share is negative before it is stored
  pub covered : (i : ℕ) → i < length held → at (settled total held loads) i ≡ eligible →
      at held i ≤ gross_remaining total held (settled total held loads) * at loads i / eligible_loads held loads (settled total held loads)
  -- an eligible holder ends with G × load share / V
  pub filled : (i : ℕ) → i < length held → at (settled total held loads) i ≡ eligible →
      at held i + at (step5_shares total held loads) i
      ≡ gross_remaining total held (settled total held loads) * at loads i / eligible_loads held loads (settled total held loads)
  -- an excluded one gets nothing
  pub nothing : (i : ℕ) → i < length held → at (settled total held loads) i ≡ excluded → at (step5_shares total held loads) i ≡ 0
  -- and so does one with load share 0
  pub weightless : (i : ℕ) → i < length held → at loads i ≡ 0 → at (step5_shares total held loads) i ≡ 0
  -- the shares together are within what Steps 3 and 4 left of T
  pub within : sum_to (length held) (at held) ≤ total → sum_to (length held) (at (step5_shares total held loads)) ≤ total - sum_to (length held) (at held)
  -- and within T whatever is held, and so is each
  pub most : sum_to (length held) (at (step5_shares total held loads)) ≤ total
  pub each : (i : ℕ) → i < length held → at (step5_shares total held loads) i ≤ total
  -- the Step 7 total, held + share, is within T where all held together is
  pub step7 : sum_to (length held) (at held) ≤ total → (i : ℕ) → i < length held → at held i + at (step5_shares total held loads) i ≤ total

module _ (total : ℕ) (held loads : List ℕ) where
  at-shares : (i : ℕ) → i < length held → at (step5_shares total held loads) i ≡ share_of total held loads (settled total held loads) i
  unfolding step5_shares
  at-shares i l = at-tab (length held) (share_of total held loads (settled total held loads)) i l

  shares_sum : sum_to (length held) (at (step5_shares total held loads)) ≡ sum_to (length held) (share_of total held loads (settled total held loads))
  shares_sum = sum_to-same (length held) _ _ at-shares

  shares-size : length (step5_shares total held loads) ≡ length held
  unfolding step5_shares
  shares-size = length-tab (length held) _

  rounds-enough : (more : ℕ) → rounds total held loads (length held + more) (all_eligible held) ≡ settled total held loads
  unfolding settled
  rounds-enough more =
      rounds-same total held loads (length held + more) (suc (length held)) (all_eligible held) (marks-first held) (omega arith) (omega arith)

  ended : Settled total held loads (settled total held loads)
  ended = settled-end total held loads

  share-filled : (i : ℕ) → i < length held → at (settled total held loads) i ≡ eligible →
      at held i + at (step5_shares total held loads) i ≡ quota total held loads (settled total held loads) i
  share-filled i l e =
      omega (
        arith,
        at-shares i l,
        rw (eq-eqb (at (settled total held loads) i) eligible e) at (share-held total held loads (settled total held loads) ended i l),
      )

  share-nothing : (x : List ℕ) (i : ℕ) → 0 < at x i → share_of total held loads x i ≡ 0
  unfolding share_of
  share-nothing x i p = pick-false (eqb (at x i) eligible) _ 0 (ne_eqb (at x i) eligible (omega arith))

  share-weightless : (x : List ℕ) (i : ℕ) → at loads i ≡ 0 → share_of total held loads x i ≡ 0
  unfolding share_of
  share-weightless x i w =
      let none : quota total held loads x i ≡ 0 = rw (w, mul-zero, zero-div) in
      ⊎_elim
      (λ (e : at x i ≡ 0). rw (eq-eqb (at x i) 0 e) (omega arith))
      (λ (p : 0 < at x i). rw (ne_eqb (at x i) 0 (omega arith)))
      (eq-zero-or-pos (at x i))

  pub promise : Promise total held loads
  promise =
      let x : List ℕ = settled total held loads in
      record {
        marks = ended.marks;
        size = shares-size;
        over = ended.none;
        fixed = round-none total held loads x ended.marks.size ended.none;
        again = λ more. rounds-last total held loads more x ended.none;
        enough = rounds-enough;
        divided = divided total held loads x ended;
        covered = covered total held loads x ended;
        filled = share-filled;
        nothing = λ i l e. at-shares i l ∙ share-nothing x i (omega arith);
        weightless = λ i l w. at-shares i l ∙ share-weightless x i w;
        within = λ fits. omega (arith, shares_sum, total-within total held loads x ended fits);
        most = omega (arith, shares_sum, shares-most total held loads x ended);
        each = λ i l.
            omega (arith, sum_to-term (length held) (at (step5_shares total held loads)) i l, shares_sum, shares-most total held loads x ended);
        step7 = λ fits i l.
            omega (
              arith,
              sum_to-term (length held) (at (step5_shares total held loads)) i l,
              sum_to-term (length held) (at held) i l,
              shares_sum,
              total-within total held loads x ended fits,
            );
      }
