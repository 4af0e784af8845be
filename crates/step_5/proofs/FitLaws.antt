-- What is known of lists and numbers once they are found to fit, and what they let the workers rely on.
use Prim.Native.Nat.{ℕ, ◌≤◌, ◌<◌}
use mathlib.Core.Path.{◌≡◌, sym, ap, ◌∙◌}
use mathlib.Core.Bool.{Bool, true, ◌&&◌}
use mathlib.Core.List.{List}
use native.Mathlib.Omega.{arith}
use lib.ListN.{length}
use lib.Dec.{leb, eqb}
use borrow.Author.Tests.{le-leb, eq-eqb, leb-true, eqb-true}
use Rattle.base.specs.Choice.{pick}
use Rattle.base.specs.Sums.{all_to}
use Rattle.base.specs.Words.{at}
use Rattle.base.proofs.ChoiceLaws.{pick-by, and_left, and_right, and_both}
use Rattle.base.proofs.SumLaws.{sum_to-bound, all_to-each, all_to-all, all_to-both}
use Rattle.step_5.specs.Round.{eligible, together, gross_remaining, eligible_loads}
use Rattle.step_5.specs.Outcome.{fit_lengths, in_range, fit_numbers}
use Rattle.step_5.specs.Workers.Fit.{Marks, Accepted, Addends, Factors}

-- the numbers as the code decides them: T, the kW held and the load shares each on their own
pub by-lists : (total : ℕ) (held loads : List ℕ) {h l : Bool} → length loads ≡ length held →
    h ≡ all_to (length held) (λ i. leb (at held i) 2880000000) → l ≡ all_to (length loads) (λ i. leb (at loads i) 100000000) →
    leb total 2880000000 && (h && l) ≡ fit_numbers total held loads
unfolding fit_numbers
by-lists total held loads size e f =
    rw (e, f, size, all_to-both (length held) (λ i. leb (at held i) 2880000000) (λ i. leb (at loads i) 100000000))

pub all_fit : (total : ℕ) (held loads : List ℕ) → total ≤ 2880000000 → all_to (length held) (in_range held loads) ≡ true → fit_numbers total held loads ≡ true
unfolding fit_numbers
all_fit total held loads h a = and_both (leb total 2880000000) _ (le-leb total 2880000000 h) a

-- what the tests leave
pub record FitLengths (n loads output : ℕ) : Type 0 where
  pub paired : loads ≡ n
  pub few : n ≤ 32
  pub room : n ≤ output

pub fit-lengths : (n loads output : ℕ) → fit_lengths n loads output ≡ true → FitLengths n loads output
fit-lengths n loads output e =
    let rest : leb n 32 && leb n output ≡ true = and_right (eqb n loads) (leb n 32 && leb n output) e in
    record {
      paired = sym (eqb-true n loads (and_left (eqb n loads) (leb n 32 && leb n output) e));
      few = leb-true n 32 (and_left (leb n 32) (leb n output) rest);
      room = leb-true n output (and_right (leb n 32) (leb n output) rest);
    }

pub accepted : (total : ℕ) (held loads : List ℕ) → length held ≤ 32 → length loads ≡ length held → fit_numbers total held loads ≡ true →
    Accepted total held loads
unfolding fit_numbers
accepted total held loads few paired e =
    let each : (i : ℕ) → i < length held → in_range held loads i ≡ true =
    all_to-each (length held) (in_range held loads) (and_right (leb total 2880000000) _ e) in
    record {
      few = few;
      paired = paired;
      total-kw = leb-true total 2880000000 (and_left (leb total 2880000000) _ e);
      held-kw = λ i l. leb-true (at held i) 2880000000 (and_left (leb (at held i) 2880000000) (leb (at loads i) 100000000) (each i l));
      load-shares = λ i l. leb-true (at loads i) 100000000 (and_right (leb (at held i) 2880000000) (leb (at loads i) 100000000) (each i l));
    }

-- and lists and numbers within the limits pass them
pub accepted-lengths : (total : ℕ) (held loads output : List ℕ) → Accepted total held loads → length held ≤ length output →
    fit_lengths (length held) (length loads) (length output) ≡ true
accepted-lengths total held loads output a room =
    and_both (eqb (length held) (length loads)) _ (eq-eqb (length held) (length loads) (sym a.paired))
    (and_both (leb (length held) 32) _ (le-leb (length held) 32 a.few) (le-leb (length held) (length output) room))

pub accepted-numbers : (total : ℕ) (held loads : List ℕ) → Accepted total held loads → fit_numbers total held loads ≡ true
accepted-numbers total held loads a =
    all_fit total held loads a.total-kw
    (all_to-all (length held) (in_range held loads)
    (λ i l.
    and_both (leb (at held i) 2880000000) (leb (at loads i) 100000000)
    (le-leb (at held i) 2880000000 (a.held-kw i l))
    (le-leb (at loads i) 100000000 (a.load-shares i l))))

-- G is within T
pub gross-within : (total : ℕ) (held x : List ℕ) (gross : ℕ) → gross ≡ gross_remaining total held x → gross ≤ total
unfolding gross_remaining
gross-within total held x gross e = omega arith

module _ (total : ℕ) (held loads x : List ℕ) (a : Accepted total held loads) (m : Marks (length held) x) where
  pub held-addends : Addends x held
  held-addends = record { few = a.few; marked = m.size; each = a.held-kw }

  pub load-addends : Addends x loads
  load-addends =
      record {
        few = omega (arith, a.few, a.paired);
        marked = m.size ∙ sym a.paired;
        each = λ i l. omega (arith, a.load-shares i (omega (arith, a.paired)));
      }

  -- V as the code adds it up
  pub loads-is : (all : ℕ) → all ≡ together (length loads) eligible x loads → all ≡ eligible_loads held loads x
  unfolding eligible_loads
  loads-is all e = e ∙ ap (λ n. together n eligible x loads) a.paired

  -- a holder's numbers, with G and V, are in range
  pub factors : (i gross all : ℕ) → i < length held → gross ≤ total → all ≡ eligible_loads held loads x →
      Factors (at held i) (at loads i) gross all
  unfolding eligible_loads
  factors i gross all l g v =
      record {
        held-kw = a.held-kw i l;
        load-share = a.load-shares i l;
        gross-kw = omega (arith, a.total-kw);
        all-loads =
            omega (
              arith,
              a.few,
              sum_to-bound (length held) 100000000 (λ j. pick (eqb (at x j) eligible) (at loads j) 0)
                  (λ j k. pick-by (λ y. y ≤ 100000000) (eqb (at x j) eligible) (at loads j) 0 (λ t. a.load-shares j k) (λ f. omega arith)),
            );
      }

-- what `fit_numbers` is decided by
pub ruleset fits = (by-lists)
