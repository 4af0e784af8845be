-- The claims of Step 4b as the code finds them are the definition's.
use Prim.Native.Nat.{ℕ, ◌+◌, ◌-◌, ◌*◌, ◌≤◌, ◌<◌}
use mathlib.Core.Path.{◌≡◌, refl, sym, ap, ◌∙◌}
use mathlib.Core.List.{List}
use native.Mathlib.Nat.{le_of_eq}
use native.Mathlib.Omega.{arith}
use lib.ListN.{length}
use lib.Seq.{ext_get_or}
use borrow.Rule.Slice.PartMut.{mid_of, mid_len}
use Rattle.base.specs.Sums.{sum_to}
use Rattle.base.specs.Words.{at, tab}
use Rattle.base.proofs.SumLaws.{sum_to-add}
use Rattle.base.proofs.WordLaws.{at-tab, length-tab}
use Rattle.sheet_reading.specs.Tables.{existing_slot, pre_ra_slot, new_use_slot}
use Rattle.sheet_reading.specs.declared.tables.Tables.{Tables}
use Rattle.step_4b.specs.NewUse.{NewUse, new_use}
use Rattle.share_out.specs.Rule.{Outcome}
use Rattle.intertie_shares.specs.Pairs.{at_pair, pair_at}
use Rattle.intertie_shares.specs.Rule.{share_out_each}
use Rattle.intertie_shares.proofs.OutcomeLaws.{each-done}
use Rattle.intertie_shares.proofs.Promise.{over-same}
use Rattle.steps.specs.Inputs.{Inputs}
use Rattle.steps_2_to_4.specs.Workers.Vectors.{Pairs, kept_from, SharedOver}
use Rattle.base.proofs.VectorLaws.{at_mid}
use Rattle.steps_2_to_4.proofs.PartLaws.{part-row}

-- a part is the table of its words
pub mid-tab : (a e n : ℕ) (l : List ℕ) → e ≤ length l → e - a ≡ n → mid_of a (e - a) l ≡ tab n (λ c. at l (a + c))
mid-tab a e n l inside size =
    let long : length (mid_of a (e - a) l) ≡ n = mid_len a e l inside ∙ size in
    ext_get_or 0 (mid_of a (e - a) l) (tab n (λ c. at l (a + c))) (long ∙ sym (length-tab n _))
    (λ i b.
    let low : i < n = omega arith in
    at_mid a (e - a) l i (omega arith) ∙ sym (at-tab n (λ c. at l (a + c)) i low))

pub holder-kept : (tables : Tables) (granted cover last : List ℕ) (I h quantity beyond allowance left j k n size : ℕ) (used : List ℕ) →
    h < 32 → length tables.kw ≡ 12481 → length tables.interties ≡ 12481 →
    cover ≡ tab n (λ c. at (mid_of (192 + 64 * h) j tables.kw) c - at (mid_of (2240 + 64 * h) k tables.kw) c) → n ≡ 48 → 48 ≤ j → 48 ≤ k →
    beyond ≡ quantity - sum_to I (λ c. at tables.kw (192 + 64 * h + c)) →
    allowance ≡ beyond - sum_to I (λ c. at granted (48 * h + c)) →
    size ≡ 48 →
    new_use (mid_of (4288 + 256 * h) (4288 + 256 * h + 256 - (4288 + 256 * h)) tables.kw)
    (mid_of (4288 + 256 * h) (4288 + 256 * h + 256 - (4288 + 256 * h)) tables.interties) allowance cover size
    ≡ record { cover = used; kept = last; allowance = left } →
    last ≡ (kept_from tables I quantity granted h).kept
holder-kept tables granted cover last I h quantity beyond allowance left j k n size used small long wide c len p q b a s e =
    let kw = tables.kw in
    let ties = tables.interties in
    let first : ℕ = 4288 + 256 * h in
    let ranks : mid_of first (first + 256 - first) kw ≡ tab 256 (λ r. at kw (new_use_slot h r)) = mid-tab first (first + 256) 256 kw (omega arith) (omega arith) in
    let places : mid_of first (first + 256 - first) ties ≡ tab 256 (λ r. at ties (new_use_slot h r)) = mid-tab first (first + 256) 256 ties (omega arith) (omega arith) in
    let room : allowance ≡ quantity - sum_to I (λ i. at kw (existing_slot h i) + at granted (pair_at h i)) =
    omega (arith, sum_to-add I (λ i. at kw (existing_slot h i)) (λ i. at granted (pair_at h i))) in
    let covers : cover ≡ tab 48 (λ i. at kw (existing_slot h i) - at kw (pre_ra_slot h i)) =
    ext_get_or 0 cover (tab 48 (λ i. at kw (existing_slot h i) - at kw (pre_ra_slot h i)))
    (ap length c ∙ length-tab n _ ∙ len ∙ sym (length-tab 48 _))
    (λ i m.
    let low : i < 48 = omega (arith, ap length c, length-tab n (λ c. at (mid_of (192 + 64 * h) j kw) c - at (mid_of (2240 + 64 * h) k kw) c)) in
    part-row kw cover (192 + 64 * h) (2240 + 64 * h) j k n c len p q i low
    ∙ sym (at-tab 48 (λ i. at kw (existing_slot h i) - at kw (pre_ra_slot h i)) i low)) in
    sym (ap (λ (u : NewUse). u.kept) (rw (ranks, places, room, covers, s) at e))

-- the grants that a share-out on each intertie leaves, over claims that the table has
pub granted-over : (y : Inputs) (pools loads claimed first after : List ℕ) → y.interties ≤ 48 → y.holders ≤ 32 →
    length pools ≡ y.interties → length loads ≡ y.holders → loads ≡ tab y.holders y.load_share →
    length claimed ≡ 1536 → length first ≡ 1536 → after ≡ (share_out_each y.interties y.holders pools claimed loads first).output →
    (claim : ℕ → ℕ → ℕ) → Pairs y.holders 48 claimed claim → SharedOver y pools claim first after
granted-over y pools loads claimed first after few small pooled weighed weights wide room e claim claims =
    e
    ∙ ap (λ (o : Outcome). o.output)
    (each-done y.interties y.holders pools claimed loads first
    (record { interties = few; holders = small; pooled = le_of_eq (sym pooled); weighed = le_of_eq (sym weighed); claimed = le_of_eq (sym wide); room = le_of_eq (sym room) })
    ∙ over-same y.holders y.interties (at pools) (at pools) (at_pair claimed) claim (at loads) y.load_share first
    (λ i l. refl) (λ h i k l. claims h i k (omega arith)) (λ h k. ap (λ l. at l h) weights ∙ at-tab y.holders y.load_share h k))
