-- The share-outs of a closing, from what the share-out on each intertie promises; stages 1 to 3 are alike (`UniformLaws`).
use Prim.Native.Nat.{ℕ, ◌+◌, ◌*◌, ◌≤◌, ◌<◌}
use mathlib.Core.Path.{◌≡◌, refl, sym, ap, ◌∙◌}
use mathlib.Core.List.{List}
use native.Mathlib.Omega.{arith}
use lib.ListN.{length, replicate, length-replicate}
use Rattle.base.specs.Words.{at, tab, fill}
use Rattle.base.specs.Answers.{granted}
use Rattle.base.specs.declared.Answer.{Answer}
use Rattle.base.proofs.WordLaws.{at-tab, length-tab, at_fill, length-fill}
use Rattle.share_out.specs.Rule.{Outcome}
use Rattle.intertie_shares.specs.Pairs.{at_pair}
use Rattle.intertie_shares.specs.Rule.{grant_on, over_interties, share_out_each}
use Rattle.intertie_shares.specs.Workers.Fit.{Sized}
use Rattle.intertie_shares.proofs.PairLaws.{at-fill_table}
use Rattle.intertie_shares.proofs.OutcomeLaws.{each-done}
use Rattle.intertie_shares.proofs.Promise.{Promise, promise, over-same}
use Rattle.state.specs.Layout.{place, interties, holders, stage_of, unassigned_of, pending_of}
use Rattle.state.proofs.OrderlyLaws.{Orderly}
use Rattle.weights.specs.Weight.{weight_of}
use Rattle.closing.specs.Close.{close_grant, close_kw, close_passes}
use Rattle.closing.specs.Workers.Work.{Grants}
use Rattle.closing.proofs.UniformLaws.{uniform-grant, uniform-kw, uniform-passes}

module _ (s : List ℕ) (o : Orderly s) (most : stage_of s ≤ 3) (pools claims weights table : List ℕ)
    (fit : Sized (interties s) (holders s) pools claims weights table)
    (pool : (i : ℕ) → i < interties s → at pools i ≡ unassigned_of s i)
    (claim : (h i : ℕ) → h < holders s → i < interties s → at_pair claims h i ≡ pending_of s h i)
    (weight : (h : ℕ) → h < holders s → at weights h ≡ weight_of s h) where
  abbrev out : Outcome
  out = share_out_each (interties s) (holders s) pools claims weights table

  kept : Promise (interties s) (holders s) pools claims table out
  kept = promise (interties s) (holders s) pools claims weights table fit

  -- the share-outs over the state's own numbers
  same : out ≡ over_interties (holders s) (unassigned_of s) (pending_of s) (weight_of s) (interties s) table
  same =
      each-done (interties s) (holders s) pools claims weights table fit
      ∙ over-same (holders s) (interties s) (at pools) (unassigned_of s) (at_pair claims) (pending_of s) (at weights) (weight_of s) table pool claim weight

  grant-is : (h i : ℕ) → h < holders s → i < interties s → at_pair out.output h i ≡ close_grant s h i
  grant-is h i k l =
      ap (λ (r : Outcome). at_pair r.output h i) same
      ∙ at-fill_table (holders s) (grant_on (holders s) (unassigned_of s) (pending_of s) (weight_of s)) table (interties s) h i k l
      fit.holders fit.interties fit.room
      ∙ sym (uniform-grant s o most h i k l)

  -- the answer, and the table of grants
  pub answer-is : out.answer ≡ granted (close_kw s) (close_passes s)
  answer-is = ap (λ (r : Outcome). r.answer) same ∙ rw (uniform-kw s o most, uniform-passes s o most) refl

  pub table_is : length table ≡ 1536 → Grants s out.output
  table_is size = record { size = kept.size ∙ size; pairs = grant-is; small = kept.small }

-- n numbers that were read from a row of the state on
pub at-read : (s : List ℕ) (n : ℕ) (read : List ℕ) (r c : ℕ) → read ≡ tab n (λ c. at s (place r c)) → c < n → at read c ≡ at s (place r c)
at-read s n read r c e l = ap (λ k. at k c) e ∙ at-tab n (λ c. at s (place r c)) c l

pub length-read : (s : List ℕ) (n : ℕ) (read : List ℕ) (r : ℕ) → read ≡ tab n (λ c. at s (place r c)) → length read ≡ n
length-read s n read r e = ap length e ∙ length-tab n (λ c. at s (place r c))

-- what the workers left is this closing's answer and its table of grants
module _ (s : List ℕ) (o : Orderly s) (most : stage_of s ≤ 3) where
  pub pending-shared : (I H : ℕ) (pools claims weights table after : List ℕ) (r : Answer) → I ≡ interties s → H ≡ holders s →
      pools ≡ tab 48 (λ c. at s (place 104 c)) → claims ≡ tab 1536 (λ c. at s (place 237 c)) →
      weights ≡ fill (holders s) (weight_of s) (replicate 32 0) → length table ≡ 1536 →
      r ≡ (share_out_each I H pools claims weights table).answer → after ≡ (share_out_each I H pools claims weights table).output →
      (r ≡ granted (close_kw s) (close_passes s)) × Grants s after
  pending-shared I H pools claims weights table after r e f p c w k told left =
      let few : interties s ≤ 48 = o.interties-most in
      let low : holders s ≤ 32 = o.holders-most in
      let pool : (i : ℕ) → i < interties s → at pools i ≡ unassigned_of s i = λ i l. at-read s 48 pools 104 i p (omega arith) in
      let claim : (h i : ℕ) → h < holders s → i < interties s → at_pair claims h i ≡ pending_of s h i =
      λ h i a b.
      let here : place 237 (48 * h + i) ≡ place (237 + h) i = omega arith in
      at-read s 1536 claims 237 (48 * h + i) c (omega arith) ∙ ap (at s) here in
      let size : length weights ≡ 32 = ap length w ∙ length-fill (holders s) (weight_of s) (replicate 32 0) ∙ length-replicate {A = ℕ} 32 0 in
      let weight : (h : ℕ) → h < holders s → at weights h ≡ weight_of s h =
      λ h a. rw w (at_fill (holders s) (weight_of s) (replicate 32 0) h a (omega (arith, length-replicate {A = ℕ} 32 0))) in
      let fit : Sized (interties s) (holders s) pools claims weights table =
      record {
        interties = few;
        holders = low;
        pooled = omega (arith, length-read s 48 pools 104 p);
        weighed = omega arith;
        claimed = omega (arith, length-read s 1536 claims 237 c);
        room = omega arith;
      } in
      let own : r ≡ (share_out_each (interties s) (holders s) pools claims weights table).answer = rw (e, f) at told in
      let table-own : after ≡ (share_out_each (interties s) (holders s) pools claims weights table).output = rw (e, f) at left in
      (own ∙ answer-is s o most pools claims weights table fit pool claim weight, rw table-own (table_is s o most pools claims weights table fit pool claim weight k))
