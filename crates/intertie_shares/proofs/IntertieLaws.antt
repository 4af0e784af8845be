-- What the share-outs on the interties keep, one by one and together.
use Prim.Native.Nat.{ℕ, ◌*◌, ◌≤◌}
use Rattle.base.proofs.SumLaws.{sum_to-le, sum_to-bound}
use Rattle.intertie_shares.specs.Rule.{share_out_on, kw_over, passes_over}
use Rattle.intertie_shares.proofs.HolderLaws.{Kept, kept, Ranged, Made, made}

module _ (H : ℕ) (pool : ℕ → ℕ) (claim : ℕ → ℕ → ℕ) (weight : ℕ → ℕ) where
  -- what each intertie's share-out keeps, whatever the numbers
  pub kept_on : (i : ℕ) → Kept H (pool i) (λ h. claim h i) (share_out_on H pool claim weight i)
  kept_on i = kept H (pool i) (λ h. claim h i) weight

  -- and what holds where its numbers are in range
  pub made-on : (i : ℕ) → Ranged H (pool i) (λ h. claim h i) weight → Made H (pool i) (λ h. claim h i) (share_out_on H pool claim weight i)
  made-on i r = made H (pool i) (λ h. claim h i) weight r

  -- kW and passes over I interties
  pub kw-most : (I : ℕ) → kw_over H pool claim weight I ≤ I * 20000000
  kw-most I = sum_to-bound I 20000000 _ (λ i l. (kept_on i).most)

  pub passes-most : (I : ℕ) → passes_over H pool claim weight I ≤ kw_over H pool claim weight I
  passes-most I = sum_to-le I _ _ (λ i l. (kept_on i).counted)
