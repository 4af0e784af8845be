-- The answer and the grants by cases: refused with 5, shared out on each intertie.
use Prim.Native.Nat.{ℕ, ◌≤◌, ◌<◌}
use mathlib.Core.Path.{◌≡◌, refl, sym, ap, ◌∙◌}
use mathlib.Core.Bool.{Bool, true, false, ◌||◌}
use mathlib.Core.List.{List, ◌++◌}
use lib.ListN.{length, take, drop}
use lib.Dec.{ltb}
use borrow.Author.Tests.{ltb-false, le-ltb, lt-ltb}
use Rattle.base.specs.Words.{at}
use Rattle.base.specs.Answers.{refused}
use Rattle.base.proofs.ChoiceLaws.{or_left, or_right}
use Rattle.base.proofs.SumLaws.{sum_to-same}
use Rattle.std.proofs.lemmas.List.{get_or-take, take-append-drop, length-take-le}
use Rattle.intertie_shares.specs.Pairs.{at_pair, fill_table}
use Rattle.intertie_shares.specs.Rule.{share_out_on, grant_on, kw_over, passes_over, over_interties, unfit_sizes, share_out_each}
use Rattle.intertie_shares.specs.Workers.Fit.{Sized}
use Rattle.intertie_shares.proofs.PairLaws.{fill_table-front, fill_table-same}
use Rattle.intertie_shares.proofs.HolderLaws.{among_same}
use Rattle.share_out.specs.Rule.{Outcome}
use native.Mathlib.Omega.{arith}

-- refusal 5 as its six tests
pub fit-sizes : (I H : ℕ) (pools claims weights grants : List ℕ) →
    unfit_sizes I H (length pools) (length claims) (length weights) (length grants) ≡ false → Sized I H pools claims weights grants
fit-sizes I H pools claims weights grants e =
    let a = or_right (ltb 48 I) _ e in
    let b = or_right (ltb 32 H) _ a in
    let d = or_right (ltb (length pools) I) _ b in
    let f = or_right (ltb (length weights) H) _ d in
    record {
      interties = ltb-false 48 I (or_left (ltb 48 I) _ e);
      holders = ltb-false 32 H (or_left (ltb 32 H) _ a);
      pooled = ltb-false (length pools) I (or_left (ltb (length pools) I) _ b);
      weighed = ltb-false (length weights) H (or_left (ltb (length weights) H) _ d);
      claimed = ltb-false (length claims) 1536 (or_left (ltb (length claims) 1536) _ f);
      room = ltb-false (length grants) 1536 (or_right (ltb (length claims) 1536) _ f);
    }

pub sizes-fit : (I H : ℕ) (pools claims weights grants : List ℕ) → Sized I H pools claims weights grants →
    unfit_sizes I H (length pools) (length claims) (length weights) (length grants) ≡ false
sizes-fit I H pools claims weights grants s =
    rw (
      le-ltb 48 I s.interties,
      le-ltb 32 H s.holders,
      le-ltb (length pools) I s.pooled,
      le-ltb (length weights) H s.weighed,
      le-ltb (length claims) 1536 s.claimed,
      le-ltb (length grants) 1536 s.room,
    )

or_last : (a b c d e f : Bool) → a || (b || (c || (d || (e || f)))) ≡ (a || (b || (c || (d || (e || false))))) || f
or_last true b c d e f = refl
or_last false true c d e f = refl
or_last false false true d e f = refl
or_last false false false true e f = refl
or_last false false false false true f = refl
or_last false false false false false f = refl

-- by the other five tests, and that of the grants
sizes-by-room : (I H pools claims weights grants : ℕ) →
    unfit_sizes I H pools claims weights grants ≡ unfit_sizes I H pools claims weights 1536 || ltb grants 1536
sizes-by-room I H pools claims weights grants = or_last (ltb 48 I) (ltb 32 H) (ltb pools I) (ltb weights H) (ltb claims 1536) (ltb grants 1536)

-- the pools and the weights that are counted are shared out as in longer lists of them
pub over-cut : (I H : ℕ) (pools weights grants : List ℕ) (claim : ℕ → ℕ → ℕ) → I ≤ length pools → H ≤ length weights →
    over_interties (length (take H weights)) (at (take I pools)) claim (at (take H weights)) (length (take I pools)) grants
    ≡ over_interties H (at pools) claim (at weights) I grants
over-cut I H pools weights grants claim p w =
    let on : (i : ℕ) → i < I → share_out_on H (at (take I pools)) claim (at (take H weights)) i ≡ share_out_on H (at pools) claim (at weights) i =
    λ i l. among_same H (λ h. claim h i) (λ h. claim h i) (at (take H weights)) (at weights) (get_or-take I pools i 0 l) (λ h m. refl) (λ h m. get_or-take H weights h 0 m) in
    let kw : kw_over H (at (take I pools)) claim (at (take H weights)) I ≡ kw_over H (at pools) claim (at weights) I =
    sum_to-same I _ _ (λ i l. ap (λ (o : Outcome). o.answer.kw) (on i l)) in
    let passes : passes_over H (at (take I pools)) claim (at (take H weights)) I ≡ passes_over H (at pools) claim (at weights) I =
    sum_to-same I _ _ (λ i l. ap (λ (o : Outcome). o.answer.passes) (on i l)) in
    let written : fill_table I H (grant_on H (at (take I pools)) claim (at (take H weights))) grants ≡ fill_table I H (grant_on H (at pools) claim (at weights)) grants =
    fill_table-same I H _ _ grants (λ h i l m. ap (λ (o : Outcome). at o.output h) (on i m)) in
    rw (length-take-le H weights w, length-take-le I pools p, kw, passes, written)

-- the call by cases: refused with 5, and done
module _ (I H : ℕ) (pools claims weights grants : List ℕ) where
  each-refused : unfit_sizes I H (length pools) (length claims) (length weights) (length grants) ≡ true →
      share_out_each I H pools claims weights grants ≡ record { answer = refused 5; output = grants }
  unfolding share_out_each
  each-refused e = rw e

  pub each-done : Sized I H pools claims weights grants →
      share_out_each I H pools claims weights grants ≡ over_interties H (at pools) (at_pair claims) (at weights) I grants
  unfolding share_out_each
  each-done s = rw (sizes-fit I H pools claims weights grants s)

  -- by the tests as they are made: five sizes, and then the table of grants
  pub five-refused : unfit_sizes I H (length pools) (length claims) (length weights) 1536 ≡ true →
      share_out_each I H pools claims weights grants ≡ record { answer = refused 5; output = grants }
  five-refused e =
      each-refused (sizes-by-room I H (length pools) (length claims) (length weights) (length grants) ∙ ap (λ b. b || ltb (length grants) 1536) e)

  pub short-refused : unfit_sizes I H (length pools) (length claims) (length weights) 1536 ≡ false → length grants < 1536 →
      share_out_each I H pools claims weights grants ≡ record { answer = refused 5; output = grants }
  short-refused e l =
      each-refused
      (sizes-by-room I H (length pools) (length claims) (length weights) (length grants) ∙ ap (λ b. b || ltb (length grants) 1536) e ∙ lt-ltb (length grants) 1536 l)

  pub sizes-left : unfit_sizes I H (length pools) (length claims) (length weights) 1536 ≡ false → 1536 ≤ length grants → Sized I H pools claims weights grants
  sizes-left e l =
      fit-sizes I H pools claims weights grants
      (sizes-by-room I H (length pools) (length claims) (length weights) (length grants) ∙ ap (λ b. b || ltb (length grants) 1536) e ∙ le-ltb (length grants) 1536 l)

  -- shared out in front of the words past the pairs
  pub front-done : (first after : List ℕ) → Sized I H pools claims weights grants → first ≡ take 1536 grants →
      after ≡ (over_interties H (at pools) (at_pair claims) (at weights) I first).output →
      after ++ drop 1536 grants ≡ (share_out_each I H pools claims weights grants).output
  front-done first after s f a =
      let fill : List ℕ → List ℕ = fill_table I H (grant_on H (at pools) (at_pair claims) (at weights)) in
      ap (λ l. l ++ drop 1536 grants) (a ∙ ap fill f)
      ∙ sym (fill_table-front I H (grant_on H (at pools) (at_pair claims) (at weights)) (take 1536 grants) (drop 1536 grants) s.holders s.interties
      (omega (arith, length-take-le 1536 grants s.room)))
      ∙ ap fill (take-append-drop 1536 grants)
      ∙ sym (ap (λ (o : Outcome). o.output) (each-done s))
