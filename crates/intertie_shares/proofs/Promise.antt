-- What a share-out on each intertie promises its callers. It is made of what each share-out keeps; nothing above this crate opens the definitions.
use Prim.Native.Nat.{ℕ, ◌*◌, ◌≤◌, ◌<◌, min}
use mathlib.Core.Path.{◌≡◌, sym, ap, ◌∙◌}
use mathlib.Core.Logic.{◌≢◌}
use mathlib.Core.List.{List}
use native.Mathlib.Omega.{arith}
use lib.ListN.{length}
use Rattle.base.specs.Sums.{sum_to}
use Rattle.base.specs.Words.{at}
use Rattle.base.proofs.SumLaws.{sum_to-same, sum_to-term}
use Rattle.share_out.specs.Rule.{Outcome}
use Rattle.intertie_shares.specs.Pairs.{pair_at, at_pair, fill_table}
use Rattle.intertie_shares.specs.Rule.{share_out_on, grant_on, kw_over, passes_over, over_interties, share_out_each}
use Rattle.intertie_shares.specs.Workers.Fit.{Sized}
use Rattle.intertie_shares.proofs.PairLaws.{length-fill_table, at-fill_table, at-fill_table-other, fill_table-same}
use Rattle.intertie_shares.proofs.HolderLaws.{Kept, among_same, Ranged}
use Rattle.intertie_shares.proofs.IntertieLaws.{kept_on, made-on, kw-most, passes-most}
use Rattle.intertie_shares.proofs.OutcomeLaws.{each-done}

-- what every call keeps that isn't refused with 5, whatever the numbers
pub record Promise (I H : ℕ) (pools claims grants : List ℕ) (o : Outcome) : Type 0 where
  pub accepted : o.answer.refusal ≡ 0
  -- the table keeps its length
  pub size : length o.output ≡ length grants
  -- no grant above its claim
  pub within : (h i : ℕ) → h < H → i < I → at_pair o.output h i ≤ at_pair claims h i
  -- the grants on an intertie are together within its pool, and within what a pool may have
  pub pooled : (i : ℕ) → i < I → sum_to H (λ h. at_pair o.output h i) ≤ at pools i
  pub most : (i : ℕ) → i < I → sum_to H (λ h. at_pair o.output h i) ≤ 20000000
  -- and so is each of them
  pub small : (h i : ℕ) → h < H → i < I → at_pair o.output h i ≤ 20000000
  -- the kW of the answer are all grants together
  pub kw : o.answer.kw ≡ sum_to I (λ i. sum_to H (λ h. at_pair o.output h i))
  pub bounded : o.answer.kw ≤ I * 20000000
  -- every pass gives at least 1 kW
  pub counted : o.answer.passes ≤ o.answer.kw
  -- every other word stays
  pub stays : (p : ℕ) → ((h i : ℕ) → h < H → i < I → p ≢ pair_at h i) → at o.output p ≡ at grants p

module _ (I H : ℕ) (pools claims weights grants : List ℕ) (fit : Sized I H pools claims weights grants) where
  keeps : (i : ℕ) → Kept H (at pools i) (λ h. at_pair claims h i) (share_out_on H (at pools) (at_pair claims) (at weights) i)
  keeps i = kept_on H (at pools) (at_pair claims) (at weights) i

  -- a pair's word is its grant
  pub grant-at : (h i : ℕ) → h < H → i < I → at_pair (share_out_each I H pools claims weights grants).output h i ≡ grant_on H (at pools) (at_pair claims) (at weights) h i
  grant-at h i k l =
      ap (λ (o : Outcome). at_pair o.output h i) (each-done I H pools claims weights grants fit)
      ∙ at-fill_table H (grant_on H (at pools) (at_pair claims) (at weights)) grants I h i k l fit.holders fit.interties fit.room

  -- an intertie's grants together are the kW that its share-out answers
  pub intertie-kw : (i : ℕ) → i < I →
      sum_to H (λ h. at_pair (share_out_each I H pools claims weights grants).output h i) ≡ (share_out_on H (at pools) (at_pair claims) (at weights) i).answer.kw
  intertie-kw i l = sum_to-same H _ (at (share_out_on H (at pools) (at_pair claims) (at weights) i).output) (λ h k. grant-at h i k l) ∙ sym (keeps i).kw

  -- where its numbers are in range, the smaller of the pool and the claims together
  pub intertie-total : (i : ℕ) → i < I → Ranged H (at pools i) (λ h. at_pair claims h i) (at weights) →
      sum_to H (λ h. at_pair (share_out_each I H pools claims weights grants).output h i) ≡ min (at pools i) (sum_to H (λ h. at_pair claims h i))
  intertie-total i l r = intertie-kw i l ∙ (made-on H (at pools) (at_pair claims) (at weights) i r).total

  pub promise : Promise I H pools claims grants (share_out_each I H pools claims weights grants)
  promise =
      let done : share_out_each I H pools claims weights grants ≡ over_interties H (at pools) (at_pair claims) (at weights) I grants =
      each-done I H pools claims weights grants fit in
      let kw : (share_out_each I H pools claims weights grants).answer.kw ≡ kw_over H (at pools) (at_pair claims) (at weights) I =
      ap (λ (o : Outcome). o.answer.kw) done in
      let passes : (share_out_each I H pools claims weights grants).answer.passes ≡ passes_over H (at pools) (at_pair claims) (at weights) I =
      ap (λ (o : Outcome). o.answer.passes) done in
      record {
        accepted = ap (λ (o : Outcome). o.answer.refusal) done;
        size = rw done (length-fill_table H (grant_on H (at pools) (at_pair claims) (at weights)) grants I);
        within = λ h i k l. omega (arith, grant-at h i k l, (keeps i).within h k);
        pooled = λ i l. omega (arith, intertie-kw i l, (keeps i).pooled);
        most = λ i l. omega (arith, intertie-kw i l, (keeps i).most);
        small = λ h i k l.
            omega (arith, intertie-kw i l, (keeps i).most, sum_to-term H (λ j. at_pair (share_out_each I H pools claims weights grants).output j i) h k);
        kw = kw ∙ sum_to-same I _ _ (λ i l. sym (intertie-kw i l));
        bounded = omega (arith, kw-most H (at pools) (at_pair claims) (at weights) I);
        counted = omega (arith, passes-most H (at pools) (at_pair claims) (at weights) I);
        stays = λ p other. rw done (at-fill_table-other H (grant_on H (at pools) (at_pair claims) (at weights)) grants I p other);
      }

-- the same numbers are shared out alike on each intertie
pub over-same : (H I : ℕ) (pool pool' : ℕ → ℕ) (claim claim' : ℕ → ℕ → ℕ) (weight weight' : ℕ → ℕ) (grants : List ℕ) →
    ((i : ℕ) → i < I → pool i ≡ pool' i) → ((h i : ℕ) → h < H → i < I → claim h i ≡ claim' h i) → ((h : ℕ) → h < H → weight h ≡ weight' h) →
    over_interties H pool claim weight I grants ≡ over_interties H pool' claim' weight' I grants
over-same H I pool pool' claim claim' weight weight' grants p c w =
    let same : (i : ℕ) → i < I → share_out_on H pool claim weight i ≡ share_out_on H pool' claim' weight' i =
    λ i l. among_same H (λ h. claim h i) (λ h. claim' h i) weight weight' (p i l) (λ h k. c h i k l) w in
    let k : kw_over H pool claim weight I ≡ kw_over H pool' claim' weight' I = sum_to-same I _ _ (λ i l. ap (λ (o : Outcome). o.answer.kw) (same i l)) in
    let q : passes_over H pool claim weight I ≡ passes_over H pool' claim' weight' I = sum_to-same I _ _ (λ i l. ap (λ (o : Outcome). o.answer.passes) (same i l)) in
    let g : fill_table I H (grant_on H pool claim weight) grants ≡ fill_table I H (grant_on H pool' claim' weight') grants =
    fill_table-same I H _ _ grants (λ h i k l. ap (λ (o : Outcome). at o.output h) (same i l)) in
    rw (k, q, g)
