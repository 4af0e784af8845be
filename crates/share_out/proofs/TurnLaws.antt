-- Serving in turn as the code goes: holder after holder, with what is left of the pool.
use Prim.Native.Nat.{ℕ, ◌+◌, ◌-◌, ◌≤◌, ◌<◌, min, zero-le}
use mathlib.Core.Path.{◌≡◌, refl, sym, ap, ◌∙◌}
use mathlib.Core.List.{List}
use native.Mathlib.Nat.{le_refl}
use native.Mathlib.Omega.{arith}
use native.Mathlib.Decide.{dec_lt}
use lib.ListN.{length, set, length-set}
use lib.Seq.{ext_get_or, get_or-set_other}
use Rattle.base.specs.Sums.{sum_to}
use Rattle.base.specs.Words.{at, fill, tab}
use Rattle.base.proofs.SumLaws.{sum_to-zero, sum_to-more, sum_to-mono}
use Rattle.base.proofs.WordLaws.{fill-zero, fill-turn, fill-whole, at_fill, at-fill-past, length-fill, length-tab, at-tab}
use Rattle.share_out.specs.Turn.{in_turn}
use Rattle.share_out.specs.Workers.Fit.{Wanting, Served}
use Rattle.share_out.proofs.PassLaws.{in_turn-sum}

-- after i holders: what is left of the pool and the grants, whatever they want by what is answered
pub record Serves (answers : ℕ → ℕ → ℕ → Type 0) (pool : ℕ) (claims brought g grants : List ℕ) (left i : ℕ) : Type 0 where
  pub inside : i ≤ length claims
  pub size : length grants ≡ length g
  -- a holder that is not served yet has its grant from before
  pub later : (k : ℕ) → i ≤ k → at grants k ≡ at g k
  pub rest : left ≤ pool
  pub remains : (kw : ℕ → ℕ) → Wanting answers claims brought g kw → left ≡ pool - sum_to i kw
  pub written : (kw : ℕ → ℕ) → Wanting answers claims brought g kw → grants ≡ fill i (λ j. at g j + in_turn pool kw j) g

module _ (answers : ℕ → ℕ → ℕ → Type 0) (pool : ℕ) (claims brought g : List ℕ) where
  pub serves-none : Serves answers pool claims brought g g pool 0
  serves-none =
      record {
        inside = zero-le;
        size = refl;
        later = λ k l. refl;
        rest = le_refl pool;
        remains = λ kw w. omega (arith, sum_to-zero kw);
        written = λ kw w. sym (fill-zero _ g);
      }

  pub serves-next : (grants : List ℕ) (left i x kw : ℕ) → Serves answers pool claims brought g grants left i → i < length claims →
      answers (at claims i - at grants i) (at brought i) x → kw ≡ min x left →
      Serves answers pool claims brought g (set grants i (at grants i + kw)) (left - kw) (i + 1)
  serves-next grants left i x kw s l a e =
      let before : at grants i ≡ at g i = s.later i (le_refl i) in
      let turn : (want : ℕ → ℕ) → Wanting answers claims brought g want → kw ≡ min (want i) left =
      λ want w. e ∙ ap (λ k. min k left) (w i x l (rw before at a)) in
      record {
        inside = omega arith;
        size = length-set grants i (at grants i + kw) ∙ s.size;
        later = λ k m. get_or-set_other grants i k (at grants i + kw) 0 (omega arith) ∙ s.later k (omega arith);
        rest = omega (arith, s.rest);
        remains = λ want w. omega (arith, turn want w, s.remains want w, sum_to-more i want);
        written = λ want w.
            fill-turn i (λ j. at g j + in_turn pool want j) g grants (at grants i + kw) (s.written want w)
            (rw (before, turn want w, s.remains want w));
      }

  pub serves-all : (grants : List ℕ) (left i : ℕ) → length g ≡ length claims → Serves answers pool claims brought g grants left i → length claims ≤ i →
      Served answers pool (pool - left) claims brought g grants
  serves-all grants left i size s l =
      let n : ℕ = length claims in
      let end : i ≡ n = omega (arith, s.inside) in
      record {
        raised = λ want w.
            let rest : left ≡ pool - sum_to n want = s.remains want w ∙ ap (λ k. pool - sum_to k want) end in
            record {
              total = omega (arith, in_turn-sum pool want n);
              grants =
                  s.written want w ∙ ap (λ k. fill k (λ j. at g j + in_turn pool want j) g) end
                  ∙ fill-whole n (λ j. at g j + in_turn pool want j) g size;
            };
      }

  -- with the pool empty the later holders get nothing
  pub serves-empty : (grants : List ℕ) (left i : ℕ) → length g ≡ length claims → Serves answers pool claims brought g grants left i → left ≡ 0 →
      Served answers pool pool claims brought g grants
  serves-empty grants left i size s z =
      let n : ℕ = length claims in
      record {
        raised = λ want w.
            let spent : pool ≤ sum_to i want = omega (arith, s.remains want w) in
            let raise : ℕ → ℕ = λ j. at g j + in_turn pool want j in
            record {
              total = omega (arith, in_turn-sum pool want n, sum_to-mono i n want s.inside);
              grants =
                  s.written want w
                  ∙ ext_get_or 0 (fill i raise g) (tab n raise)
                  (length-fill i raise g ∙ size ∙ sym (length-tab n raise))
                  (λ k h.
                  let inside : k < n = omega (arith, length-fill i raise g) in
                  elim (dec_lt k i) [
                    | yes early ↦
                        at_fill i raise g k early (omega (arith, s.inside))
                        ∙ sym (at-tab n raise k inside)
                    | no late ↦
                        at-fill-past i raise g k (omega arith)
                        ∙ (omega (arith, sum_to-mono i k want (omega arith), at-tab n raise k inside))
                  ]);
            };
      }
