-- The loops as the code goes through the holders: a sum over those with a mark, a round, and the shares, each after i holders; and round after round.
use Prim.Native.Nat.{ℕ, suc, ◌+◌, ◌-◌, ◌*◌, ◌/◌, ◌≤◌, ◌<◌, zero-le}
use mathlib.Core.Path.{◌≡◌, refl, sym, ap, ◌∙◌}
use mathlib.Core.Bool.{◌&&◌}
use mathlib.Core.List.{List}
use native.Mathlib.Nat.{le_refl}
use native.Mathlib.Omega.{arith}
use lib.ListN.{length, set, length-set}
use lib.Dec.{eqb, leb}
use Rattle.base.specs.Choice.{pick}
use Rattle.base.specs.Sums.{sum_to}
use Rattle.base.specs.Words.{at, tab, fill}
use Rattle.base.proofs.ChoiceLaws.{pick-by}
use Rattle.base.proofs.SumLaws.{sum_to-zero, sum_to-more}
use Rattle.base.proofs.WordLaws.{fill-zero, fill-turn, fill-whole, at-fill-past}
use Rattle.step_5.specs.Round.{eligible, excluded, together, gross_remaining, eligible_loads, excludes, newly_excluded, round_marks}
use Rattle.step_5.specs.Shares.{rounds, all_eligible, settled, share_of, step5_shares}
use Rattle.step_5.specs.Workers.Fit.{Marks, Accepted, Addends, Quota}
use Rattle.step_5.proofs.RoundLaws.{Settled, marks-most, marks-first, marks-next, mark-next, round-count, round-none, rounds-last, rounds-round, settled-end}
use Rattle.step_5.proofs.ShareLaws.{divided, covered}
use Rattle.step_5.proofs.FitLaws.{gross-within, factors}

-- after i holders the sum has those with the mark
pub record Summed (mark : ℕ) (marks numbers : List ℕ) (sum i : ℕ) : Type 0 where
  pub inside : i ≤ length numbers
  pub total : sum ≡ together i mark marks numbers
  pub most : sum ≤ i * 2880000000

module _ (mark : ℕ) (marks numbers : List ℕ) where
  pub summed-none : Summed mark marks numbers 0 0
  summed-none = record { inside = zero-le; total = sym (sum_to-zero _); most = zero-le }

  pub summed-next : (sum i k : ℕ) → Addends marks numbers → Summed mark marks numbers sum i → i < length numbers →
      k ≡ pick (eqb (at marks i) mark) (at numbers i) 0 → Summed mark marks numbers (sum + k) (i + 1)
  summed-next sum i k a s l e =
      let small : k ≤ 2880000000 =
      rw e (pick-by (λ y. y ≤ 2880000000) (eqb (at marks i) mark) (at numbers i) 0 (λ t. a.each i l) (λ f. zero-le)) in
      record {
        inside = omega arith;
        total = omega (arith, s.total, sum_to-more i (λ j. pick (eqb (at marks j) mark) (at numbers j) 0));
        most = omega (arith, s.most);
      }

-- after i holders of a round from the marks x
pub record Excluding (total : ℕ) (held loads x marks : List ℕ) (newly i : ℕ) : Type 0 where
  pub inside : i ≤ length held
  pub size : length marks ≡ length x
  pub count : newly ≡ sum_to i (λ j. pick (excludes total held loads x j) 1 0)
  pub most : newly ≤ i
  pub written : marks ≡ fill i (λ j. pick (excludes total held loads x j) excluded (at x j)) x

-- a holder's test as the code makes it
pub record Tested (total : ℕ) (held loads x marks : List ℕ) (i gross all out : ℕ) : Type 0 where
  pub before : i < length held
  pub gross-is : gross ≡ gross_remaining total held x
  pub all-is : all ≡ eligible_loads held loads x
  pub out-is : out ≡ pick (eqb (at marks i) eligible && leb (gross * at loads i) (at held i * all)) 1 0

module _ (total : ℕ) (held loads x : List ℕ) where
  pub excluding-none : Excluding total held loads x x 0 0
  excluding-none =
      record { inside = zero-le; size = refl; count = sym (sum_to-zero _); most = zero-le; written = sym (fill-zero _ x) }

  module _ (marks : List ℕ) (newly i gross all out : ℕ) (s : Excluding total held loads x marks newly i) (t : Tested total held loads x marks i gross all out) where
    -- a holder whose turn is to come has its mark from before
    later : at marks i ≡ at x i
    later = ap (λ l. at l i) s.written ∙ at-fill-past i (λ j. pick (excludes total held loads x j) excluded (at x j)) x i (le_refl i)

    out-excludes : out ≡ pick (excludes total held loads x i) 1 0
    unfolding excludes
    out-excludes = t.out-is ∙ rw (later, t.gross-is, t.all-is)

    mark-is : at marks i + out ≡ pick (excludes total held loads x i) excluded (at x i)
    mark-is = rw (later, out-excludes) (mark-next total held loads x i)

    pub excluding-next : Excluding total held loads x (set marks i (at marks i + out)) (newly + out) (i + 1)
    excluding-next =
        let one : out ≤ 1 =
        rw out-excludes (pick-by (λ k. k ≤ 1) (excludes total held loads x i) 1 0 (λ e. le_refl 1) (λ f. zero-le)) in
        record {
          inside = omega (arith, t.before);
          size = length-set marks i (at marks i + out) ∙ s.size;
          count = omega (arith, s.count, out-excludes, sum_to-more i (λ j. pick (excludes total held loads x j) 1 0));
          most = omega (arith, s.most);
          written = fill-turn i (λ j. pick (excludes total held loads x j) excluded (at x j)) x marks (at marks i + out) s.written mark-is;
        }

  -- after all holders it is the round
  pub excluding-all : (marks : List ℕ) (newly i : ℕ) → length x ≡ length held → Excluding total held loads x marks newly i → length held ≤ i →
      (newly ≡ newly_excluded total held loads x) × (marks ≡ round_marks total held loads x)
  unfolding newly_excluded round_marks
  excluding-all marks newly i size s l =
      let end : i ≡ length held = omega (arith, s.inside) in (
        s.count ∙ ap (λ k. sum_to k (λ j. pick (excludes total held loads x j) 1 0)) end,
        s.written
            ∙ ap (λ k. fill k (λ j. pick (excludes total held loads x j) excluded (at x j)) x) end
            ∙ fill-whole (length held) (λ j. pick (excludes total held loads x j) excluded (at x j)) x size,
      )

-- where a round may begin: rounds from here end as those from the start
pub record Settling (total : ℕ) (held loads x : List ℕ) : Type 0 where
  pub marks : Marks (length held) x
  pub same : rounds total held loads (suc (length held)) x ≡ settled total held loads

module _ (total : ℕ) (held loads : List ℕ) where
  pub settling-first : Settling total held loads (all_eligible held)
  unfolding settled
  settling-first = record { marks = marks-first held; same = refl }

  module _ (x after : List ℕ) (newly : ℕ) (s : Settling total held loads x)
      (made : (newly ≡ newly_excluded total held loads x) × (after ≡ round_marks total held loads x)) where
    pub settling-next : Settling total held loads after
    settling-next =
        rw made.1 (record { marks = marks-next total held loads x s.marks; same = rounds-round total held loads x s.marks ∙ s.same })

    -- a round that excludes leaves fewer eligible
    pub settling-less : (newly ≡ 0 → ⊥) → length held - sum_to (length held) (at after) < length held - sum_to (length held) (at x)
    settling-less some =
        rw made.1
        (omega (
          arith,
          made.0,
          round-count total held loads x,
          marks-most (length held) (round_marks total held loads x) (marks-next total held loads x s.marks),
        ))

    -- a round that excludes none ends them
    pub settling-last : newly ≡ 0 → after ≡ settled total held loads
    settling-last z =
        let none : newly_excluded total held loads x ≡ 0 = sym made.0 ∙ z in
        made.1
        ∙ round-none total held loads x s.marks.size none
        ∙ sym (rounds-last total held loads (suc (length held)) x none)
        ∙ s.same

-- after i holders their shares stand in the output
pub record Sharing (total : ℕ) (held loads x output shares : List ℕ) (i : ℕ) : Type 0 where
  pub inside : i ≤ length held
  pub size : length shares ≡ length output
  pub written : shares ≡ fill i (share_of total held loads x) output

module _ (total : ℕ) (held loads x output : List ℕ) where
  pub sharing-none : Sharing total held loads x output output 0
  sharing-none = record { inside = zero-le; size = refl; written = sym (fill-zero _ output) }

  pub sharing-next : (shares : List ℕ) (i gross all share : ℕ) → Sharing total held loads x output shares i → i < length held →
      gross ≡ gross_remaining total held x → all ≡ eligible_loads held loads x →
      share ≡ pick (eqb (at x i) eligible) (gross * at loads i / all - at held i) 0 →
      Sharing total held loads x output (set shares i share) (i + 1)
  unfolding share_of
  sharing-next shares i gross all share s l g v e =
      record {
        inside = omega arith;
        size = length-set shares i share ∙ s.size;
        written = fill-turn i (share_of total held loads x) output shares share s.written (e ∙ rw (g, v));
      }

  pub sharing-all : (shares : List ℕ) (i : ℕ) → length output ≡ length held → Sharing total held loads x output shares i → length held ≤ i →
      x ≡ settled total held loads → shares ≡ step5_shares total held loads
  unfolding step5_shares
  sharing-all shares i size s l e =
      let end : i ≡ length held = omega (arith, s.inside) in
      s.written
      ∙ ap (λ k. fill k (share_of total held loads x) output) end
      ∙ fill-whole (length held) (share_of total held loads x) output size
      ∙ ap (λ y. tab (length held) (share_of total held loads y)) e

-- what a share is made of once the marks are settled
pub settled_is : (total : ℕ) (held loads x : List ℕ) → x ≡ settled total held loads → Settled total held loads x
settled_is total held loads x e = rw e (settled-end total held loads)

pub quota-is : (total : ℕ) (held loads x : List ℕ) (i gross all : ℕ) → Accepted total held loads → x ≡ settled total held loads → i < length held →
    gross ≡ gross_remaining total held x → all ≡ eligible_loads held loads x → Quota (at x i) (at held i) (at loads i) gross all
quota-is total held loads x i gross all a e l g v =
    let end : Settled total held loads x = settled_is total held loads x e in
    record {
      factors = factors total held loads x a end.marks i gross all l (gross-within total held x gross g) v;
      divided = λ z. rw v (divided total held loads x end i l z);
      covered = λ z. rw (g, v) (covered total held loads x end i l z);
    }

-- the turns of `sum_marked`
pub ruleset summing = (summed-none, summed-next)
