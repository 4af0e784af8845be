-- What a share-out among holders keeps, from the share-out's promise.
use Prim.Native.Nat.{ℕ, ◌≤◌, ◌<◌, min, zero-le}
use mathlib.Core.Path.{◌≡◌, refl, sym, ap, ◌∙◌}
use mathlib.Core.Logic.{inl}
use mathlib.Core.List.{List}
use native.Mathlib.Nat.{le_refl}
use native.Mathlib.Decide.{dec_le}
use native.Mathlib.Omega.{arith}
use lib.ListN.{length}
use lib.Dec.{leb}
use borrow.Author.Tests.{le-ltb, le-leb, eq-eqb}
use Rattle.base.specs.Sums.{sum_to}
use Rattle.base.specs.Words.{at, tab, fill}
use Rattle.base.specs.Answers.{refused, granted}
use Rattle.base.proofs.ChoiceLaws.{pick-by, and_both}
use Rattle.base.proofs.SumLaws.{sum_to-same, sum_to-zeros, all_to-all}
use Rattle.base.proofs.WordLaws.{length-tab, at-tab, tab-same, tab-at, fill-whole}
use Rattle.share_out.specs.Rule.{Shared, Outcome, claimed, shared, shared_answer, share_out, unfit_lengths, unfit_numbers, in_range}
use Rattle.share_out.proofs.NumberLaws.{all_fit, fit-pool}
use Rattle.share_out.proofs.Promise.{Promise, promise, shared-fits}
use Rattle.share_out.proofs.OutcomeLaws.{outcome-shared}
use Rattle.intertie_shares.specs.Rule.{among_holders}

-- the same numbers are shared out alike
pub among_same : (H : ℕ) {pool pool' : ℕ} (claim claim' weight weight' : ℕ → ℕ) → pool ≡ pool' → ((h : ℕ) → h < H → claim h ≡ claim' h) →
    ((h : ℕ) → h < H → weight h ≡ weight' h) → among_holders H pool claim weight ≡ among_holders H pool' claim' weight'
unfolding among_holders
among_same H claim claim' weight weight' p c w = rw (p, tab-same H claim claim' c, tab-same H weight weight' w)

-- what holds whatever the numbers, of one that is refused too
pub record Kept (H pool : ℕ) (claim : ℕ → ℕ) (o : Outcome) : Type 0 where
  -- a grant for each holder
  pub size : length o.output ≡ H
  -- no grant above its claim
  pub within : (h : ℕ) → h < H → at o.output h ≤ claim h
  -- the kW of the answer are the grants together
  pub kw : o.answer.kw ≡ sum_to H (at o.output)
  -- no more than the pool, and than a pool may have
  pub pooled : o.answer.kw ≤ pool
  pub most : o.answer.kw ≤ 20000000
  -- every pass gives at least 1 kW
  pub counted : o.answer.passes ≤ o.answer.kw

-- numbers that the share-out accepts
pub record Ranged (H pool : ℕ) (claim weight : ℕ → ℕ) : Type 0 where
  pub few : H ≤ 32
  pub pooled : pool ≤ 20000000
  pub claimed : (h : ℕ) → h < H → claim h ≤ 20480000000
  pub weighed : (h : ℕ) → h < H → weight h ≤ 100000000

module _ (H pool : ℕ) (claim weight : ℕ → ℕ) where
  -- the claims and the weights as lists
  abbrev claims : List ℕ
  claims = tab H claim

  abbrev weights : List ℕ
  weights = tab H weight

  -- the share-out by its rule
  abbrev pub shared_among : Shared
  shared_among = shared pool (tab H claim) (tab H weight)

  -- what a share-out that is made answers and leaves
  abbrev pub outcome_among : Outcome
  outcome_among = record { answer = granted (sum_to H (at shared_among.grants)) shared_among.passes; output = shared_among.grants }

  kept-refused : (number : ℕ) → Kept H pool claim (record { answer = refused number; output = tab H (λ h. 0) })
  kept-refused number =
      let nothing : (h : ℕ) → h < H → at (tab H (λ h. 0)) h ≡ 0 = at-tab H (λ h. 0) in
      record {
        size = length-tab H (λ h. 0);
        within = λ h l. omega (arith, nothing h l);
        kw = sym (sum_to-zeros H (at (tab H (λ h. 0))) nothing);
        pooled = zero-le;
        most = zero-le;
        counted = zero-le;
      }

  -- a grant for each holder
  shared-size : length shared_among.grants ≡ H
  shared-size = (promise pool claims weights).size ∙ length-tab H claim

  shared-total : sum_to H (at shared_among.grants) ≡ min pool (sum_to H claim)
  shared-total =
      let all : sum_to H (at claims) ≡ sum_to H claim = sum_to-same H (at claims) claim (at-tab H claim) in
      let total : sum_to H (at shared_among.grants) ≡ min pool (sum_to H (at claims)) = rw (length-tab H claim) at (promise pool claims weights).total in
      total ∙ ap (min pool) all

  kept-shared : pool ≤ 20000000 → Kept H pool claim outcome_among
  kept-shared h =
      let p : Promise pool claims weights shared_among = promise pool claims weights in
      let n : length claims ≡ H = length-tab H claim in
      let all : claimed claims ≡ sum_to H claim = rw n (sum_to-same H (at claims) claim (at-tab H claim)) in
      record {
        size = shared-size;
        within = λ k l. omega (arith, p.within k (omega arith), at-tab H claim k l);
        kw = refl;
        pooled = omega (arith, shared-total);
        most = omega (arith, shared-total);
        counted =
            elim (dec_le (claimed claims) pool) [
              | yes fit ↦ omega (arith, p.idle (inl fit))
              | no over ↦ omega (arith, p.counted, shared-total)
            ];
      }

  -- a share-out writes its grants over all of the zeros
  shared-output : fill (length claims) (at shared_among.grants) (tab H (λ h. 0)) ≡ shared_among.grants
  shared-output =
      rw (length-tab H claim)
      (fill-whole H (at shared_among.grants) (tab H (λ h. 0)) (length-tab H (λ h. 0))
      ∙ (rw shared-size at (tab-at shared_among.grants)))

  shared-outcome : record {
    answer = shared_answer pool claims weights;
    output = fill (length claims) (at shared_among.grants) (tab H (λ h. 0));
  } ≡ outcome_among
  unfolding shared_answer
  shared-outcome = rw (shared-output, length-tab H claim)

  pub kept : Kept H pool claim (among_holders H pool claim weight)
  unfolding among_holders share_out
  kept =
      pick-by (Kept H pool claim) (unfit_lengths (length claims) (length weights) (length (tab H (λ h. 0)))) _ _
      (λ t. kept-refused 5)
      (λ f.
      pick-by (Kept H pool claim) (unfit_numbers pool claims weights) _ _
      (λ t. kept-refused 9)
      (λ e. rw shared-outcome (kept-shared (fit-pool pool claims weights e))))

  -- numbers in range are accepted
  pub among-shared : Ranged H pool claim weight → among_holders H pool claim weight ≡ outcome_among
  unfolding among_holders
  among-shared r =
      outcome-shared pool claims weights (tab H (λ h. 0))
      (rw (length-tab H claim, length-tab H weight, length-tab H (λ h. 0), eq-eqb H H refl, le-ltb 32 H r.few, le-ltb H H (le_refl H)))
      (all_fit pool claims weights r.pooled
      (rw (length-tab H claim)
      (all_to-all H (in_range claims weights)
      (λ h l.
      and_both (leb (at claims h) 20480000000) (leb (at weights h) 100000000)
      (le-leb (at claims h) 20480000000 (omega (arith, at-tab H claim h l, r.claimed h l)))
      (le-leb (at weights h) 100000000 (omega (arith, at-tab H weight h l, r.weighed h l)))))))
      ∙ shared-outcome

  -- and claims together within the pool are met, in no pass
  pub among-fits : Ranged H pool claim weight → sum_to H claim ≤ pool →
      among_holders H pool claim weight ≡ record { answer = granted (sum_to H claim) 0; output = tab H claim }
  among-fits r fit =
      let all : sum_to H (at claims) ≡ sum_to H claim = sum_to-same H (at claims) claim (at-tab H claim) in
      let within : claimed claims ≤ pool = rw (length-tab H claim, all) fit in
      among-shared r ∙ rw (shared-fits pool claims weights within, all)

-- what holds of a share-out that is made
pub record Made (H pool : ℕ) (claim : ℕ → ℕ) (o : Outcome) : Type 0 where
  pub accepted : o.answer.refusal ≡ 0
  -- the grants together are the smaller of the pool and the claims together
  pub total : o.answer.kw ≡ min pool (sum_to H claim)

pub made : (H pool : ℕ) (claim weight : ℕ → ℕ) → Ranged H pool claim weight → Made H pool claim (among_holders H pool claim weight)
made H pool claim weight r =
    rw (among-shared H pool claim weight r) (record { accepted = refl; total = shared-total H pool claim weight })
