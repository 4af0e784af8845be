-- Laws of the rounds: what a round does to the marks, and that rounds end with one that excludes none.
use Prim.Native.Nat.{ℕ, zero, suc, ◌+◌, ◌≤◌, ◌<◌}
use mathlib.Core.Path.{◌≡◌, refl, sym, ap, ◌∙◌}
use mathlib.Core.Bool.{Bool, true, false}
use mathlib.Core.List.{List}
use mathlib.Core.Logic.{⊎_elim}
use native.Mathlib.Nat.{le_refl, eq-zero-or-pos}
use native.Mathlib.Omega.{arith}
use lib.ListN.{length}
use lib.Seq.{ext_get_or}
use lib.Dec.{eqb}
use borrow.Author.Tests.{eq-eqb, ne_eqb, eqb-true}
use Rattle.base.specs.Choice.{pick}
use Rattle.base.specs.Sums.{sum_to}
use Rattle.base.specs.Words.{at}
use Rattle.base.proofs.ChoiceLaws.{and_left}
use Rattle.base.proofs.SumLaws.{sum_to-same, sum_to-add, sum_to-none, sum_to-bound}
use Rattle.base.proofs.WordLaws.{at-tab, length-tab}
use Rattle.step_5.specs.Round.{eligible, excluded, excludes, newly_excluded, round_marks}
use Rattle.step_5.specs.Shares.{rounds, all_eligible, settled}
use Rattle.step_5.specs.Workers.Fit.{Marks}

-- excluding an eligible holder adds 1 to its mark
raised : (b : Bool) (m : ℕ) → (b ≡ true → m ≡ 0) → m + pick b 1 0 ≡ pick b 1 m
raised true m h = omega (arith, h refl)
raised false m h = omega arith

raised-most : (b : Bool) (m : ℕ) → m ≤ 1 → pick b 1 m ≤ 1
raised-most true m h = le_refl 1
raised-most false m h = h

-- the marks of n holders together are how many are excluded
pub marks-most : (n : ℕ) (x : List ℕ) → Marks n x → sum_to n (at x) ≤ n
marks-most n x m = omega (arith, sum_to-bound n 1 (at x) m.each)

pub marks-first : (held : List ℕ) → Marks (length held) (all_eligible held)
marks-first held =
    record {
      size = length-tab (length held) (λ i. eligible);
      each = λ i l. omega (arith, at-tab (length held) (λ i. eligible) i l);
    }

module _ (total : ℕ) (held loads : List ℕ) where
  -- only an eligible holder is excluded
  pub excludes-eligible : (x : List ℕ) (i : ℕ) → excludes total held loads x i ≡ true → at x i ≡ eligible
  unfolding excludes
  excludes-eligible x i e = eqb-true (at x i) eligible (and_left (eqb (at x i) eligible) _ e)

  pub mark-next : (x : List ℕ) (i : ℕ) → at x i + pick (excludes total held loads x i) 1 0 ≡ pick (excludes total held loads x i) excluded (at x i)
  mark-next x i = raised (excludes total held loads x i) (at x i) (excludes-eligible x i)

  pub at-round : (x : List ℕ) (i : ℕ) → i < length held → at (round_marks total held loads x) i ≡ pick (excludes total held loads x i) excluded (at x i)
  unfolding round_marks
  at-round x i l = at-tab (length held) _ i l

  pub marks-next : (x : List ℕ) → Marks (length held) x → Marks (length held) (round_marks total held loads x)
  unfolding round_marks
  marks-next x m =
      record {
        size = length-tab (length held) _;
        each = λ i l. rw (at-round x i l) (raised-most (excludes total held loads x i) (at x i) (m.each i l));
      }

  -- a round raises the number of the excluded by what it excludes
  pub round-count : (x : List ℕ) → sum_to (length held) (at (round_marks total held loads x)) ≡ sum_to (length held) (at x) + newly_excluded total held loads x
  unfolding newly_excluded
  round-count x =
      sum_to-same (length held) _ (λ i. at x i + pick (excludes total held loads x i) 1 0) (λ i l. at-round x i l ∙ sym (mark-next x i))
      ∙ sum_to-add (length held) (at x) (λ i. pick (excludes total held loads x i) 1 0)

  -- a round that excludes none leaves the marks as they are
  pub round-none : (x : List ℕ) → length x ≡ length held → newly_excluded total held loads x ≡ 0 → round_marks total held loads x ≡ x
  unfolding round_marks newly_excluded
  round-none x size z =
      ext_get_or 0 (round_marks total held loads x) x (length-tab (length held) _ ∙ sym size)
      (λ i h.
      let l : i < length held = omega (arith, length-tab (length held) (λ j. pick (excludes total held loads x j) excluded (at x j))) in
      at-round x i l
      ∙ sym (mark-next x i)
      ∙ (omega (arith, sum_to-none (length held) (λ j. pick (excludes total held loads x j) 1 0) z i l)))

  -- with all excluded a round excludes none
  pub round-full : (x : List ℕ) → Marks (length held) x → length held ≤ sum_to (length held) (at x) → newly_excluded total held loads x ≡ 0
  round-full x m full = omega (arith, round-count x, marks-most (length held) (round_marks total held loads x) (marks-next x m))

  -- after a round that excludes none there is no other
  pub rounds-last : (more : ℕ) (x : List ℕ) → newly_excluded total held loads x ≡ 0 → rounds total held loads more x ≡ x
  unfolding rounds
  rounds-last zero x z = refl
  rounds-last (suc more) x z = rw (eq-eqb (newly_excluded total held loads x) 0 z, rounds)

  -- after any other there is
  pub rounds-next : (more : ℕ) (x : List ℕ) → 0 < newly_excluded total held loads x →
      rounds total held loads (suc more) x ≡ rounds total held loads more (round_marks total held loads x)
  unfolding rounds
  rounds-next more x some = rw (ne_eqb (newly_excluded total held loads x) 0 (omega arith), rounds)

  -- the number that bounds the rounds never runs out where it is at least that of the eligible: the last round excludes none
  pub rounds-end : (more : ℕ) (x : List ℕ) → Marks (length held) x → length held ≤ more + sum_to (length held) (at x) →
      Marks (length held) (rounds total held loads more x) × (newly_excluded total held loads (rounds total held loads more x) ≡ 0)
  rounds-end zero x m enough =
      let z : newly_excluded total held loads x ≡ 0 = round-full x m (omega arith) in
      rw (rounds-last zero x z) (m, z)
  rounds-end (suc more) x m enough =
      ⊎_elim
      (λ (z : newly_excluded total held loads x ≡ 0). rw (rounds-last (suc more) x z) (m, z))
      (λ (some : 0 < newly_excluded total held loads x).
      rw (rounds-next more x some) (rounds-end more (round_marks total held loads x) (marks-next x m) (omega (arith, round-count x))))
      (eq-zero-or-pos (newly_excluded total held loads x))

  -- and any two such numbers give the same
  pub rounds-same : (more other : ℕ) (x : List ℕ) → Marks (length held) x → length held ≤ more + sum_to (length held) (at x) →
      length held ≤ other + sum_to (length held) (at x) → rounds total held loads more x ≡ rounds total held loads other x
  rounds-same zero other x m enough enough' =
      let z : newly_excluded total held loads x ≡ 0 = round-full x m (omega arith) in
      rounds-last zero x z ∙ sym (rounds-last other x z)
  rounds-same (suc more) zero x m enough enough' =
      let z : newly_excluded total held loads x ≡ 0 = round-full x m (omega arith) in
      rounds-last (suc more) x z ∙ sym (rounds-last zero x z)
  rounds-same (suc more) (suc other) x m enough enough' =
      ⊎_elim
      (λ (z : newly_excluded total held loads x ≡ 0). rounds-last (suc more) x z ∙ sym (rounds-last (suc other) x z))
      (λ (some : 0 < newly_excluded total held loads x).
      rounds-next more x some
      ∙ rounds-same more other (round_marks total held loads x) (marks-next x m) (omega (arith, round-count x)) (omega (arith, round-count x))
      ∙ sym (rounds-next other x some))
      (eq-zero-or-pos (newly_excluded total held loads x))

  -- rounds from after a round end as rounds from before it
  pub rounds-round : (x : List ℕ) → Marks (length held) x →
      rounds total held loads (suc (length held)) (round_marks total held loads x) ≡ rounds total held loads (suc (length held)) x
  rounds-round x m =
      ⊎_elim
      (λ (z : newly_excluded total held loads x ≡ 0). ap (rounds total held loads (suc (length held))) (round-none x m.size z))
      (λ (some : 0 < newly_excluded total held loads x).
      sym (rounds-next (suc (length held)) x some) ∙ rounds-same (suc (suc (length held))) (suc (length held)) x m (omega arith) (omega arith))
      (eq-zero-or-pos (newly_excluded total held loads x))

-- the marks of the end, as the shares go by them
pub record Settled (total : ℕ) (held loads x : List ℕ) : Type 0 where
  pub marks : Marks (length held) x
  pub none : newly_excluded total held loads x ≡ 0

pub settled-end : (total : ℕ) (held loads : List ℕ) → Settled total held loads (settled total held loads)
unfolding settled
settled-end total held loads =
    let end = rounds-end total held loads (suc (length held)) (all_eligible held) (marks-first held) (omega arith) in
    record { marks = end.0; none = end.1 }
