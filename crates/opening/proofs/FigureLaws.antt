-- The rows of Steps 5 to 7, as the code finds them.
use Prim.Native.Nat.{ℕ, ◌+◌, ◌-◌, ◌*◌, ◌%◌, ◌^◌, ◌≤◌, ◌<◌}
use mathlib.Core.Path.{◌≡◌, refl, sym, ap, ◌∙◌}
use mathlib.Core.List.{List, ◌++◌}
use native.Mathlib.Nat.{mod-eq_of_lt}
use native.Mathlib.Omega.{arith}
use lib.ListN.{length, get_or-append}
use borrow.Rule.Slice.PartMut.{mid_of}
use Rattle.base.specs.Sums.{sum_to}
use Rattle.base.specs.Words.{at, tab}
use Rattle.base.proofs.SumLaws.{sum_to-same, sum_to-term, sum_to-bound}
use Rattle.base.proofs.VectorLaws.{sum-part}
use Rattle.base.proofs.WordLaws.{at-tab, length-tab}
use Rattle.sheet_reading.specs.Tables.{load_share_slot, existing_slot}
use Rattle.intertie_shares.specs.Pairs.{pair_at}
use Rattle.step_5.specs.Shares.{step5_shares}
use Rattle.step_5.specs.Outcome.{step5}
use Rattle.step_5.specs.Workers.Fit.{Accepted}
use Rattle.step_5.proofs.OutcomeLaws.{outcome-accepted, shares_whole}
use Rattle.step_5.proofs.Promise.{promise}
use Rattle.steps_2_to_4.proofs.ClaimLaws.{mid-tab}
use Rattle.opening.specs.Workers.Figures.{held_from, HeldGiven, HeldTaken}

-- the sum of a part of a table
part-sum : (r a e I : ℕ) (l : List ℕ) → r ≡ sum_to (length (mid_of a (e - a) l)) (at (mid_of a (e - a) l)) % 2 ^ 64 →
    e ≡ a + I → e ≤ length l → I ≤ 48 → ((c : ℕ) → c < I → at l (a + c) ≤ 20000000) → (r ≡ sum_to I (λ c. at l (a + c))) × (r ≤ 960000000)
part-sum r a e I l is end inside few most =
    let small : sum_to I (λ c. at l (a + c)) ≤ I * 20000000 = sum_to-bound I 20000000 (λ c. at l (a + c)) most in
    let same : r ≡ sum_to I (λ c. at l (a + c)) =
    is ∙ ap (λ (k : ℕ). k % 2 ^ 64) (sum-part a e I l end inside) ∙ mod-eq_of_lt (omega (arith, small, few)) in
    (same, omega (arith, same, small, few))

module _ (total : ℕ) (kw : List ℕ) (I H : ℕ) (pre_ra new_use : List ℕ) (g : HeldGiven total kw I H pre_ra new_use) (slots : length kw ≡ 12481) where
  abbrev hold : ℕ → ℕ
  hold = held_from I kw pre_ra new_use

  -- the three sums along a holder's rows, each of which fits
  module _ (h r : ℕ) (l : h < H) where
    pub existing-sum : r ≡ sum_to (length (mid_of (192 + 64 * h) (192 + 64 * h + I - (192 + 64 * h)) kw)) (at (mid_of (192 + 64 * h) (192 + 64 * h + I - (192 + 64 * h)) kw)) % 2 ^ 64 →
        (r ≡ sum_to I (λ i. at kw (existing_slot h i))) × (r ≤ 960000000)
    existing-sum e =
        part-sum r (192 + 64 * h) (192 + 64 * h + I) I kw e refl (omega (arith, g.small, g.few)) g.few (λ i m. g.existing-most h i l m)

    pub pre-ra-sum : r ≡ sum_to (length (mid_of (48 * h) (48 * h + I - 48 * h) pre_ra)) (at (mid_of (48 * h) (48 * h + I - 48 * h) pre_ra)) % 2 ^ 64 →
        length pre_ra ≡ 1536 → (r ≡ sum_to I (λ i. at pre_ra (pair_at h i))) × (r ≤ 960000000)
    pre-ra-sum e long =
        part-sum r (48 * h) (48 * h + I) I pre_ra e refl (omega (arith, g.small, g.few)) g.few (λ i m. g.pre-ra-most h i l m)

    pub new-use-sum : r ≡ sum_to (length (mid_of (48 * h) (48 * h + I - 48 * h) new_use)) (at (mid_of (48 * h) (48 * h + I - 48 * h) new_use)) % 2 ^ 64 →
        length new_use ≡ 1536 → (r ≡ sum_to I (λ i. at new_use (pair_at h i))) × (r ≤ 960000000)
    new-use-sum e long =
        part-sum r (48 * h) (48 * h + I) I new_use e refl (omega (arith, g.small, g.few)) g.few (λ i m. g.new-use-most h i l m)

  -- the load shares
  abbrev load_shares : List ℕ
  load_shares = tab H (λ h. at kw (load_share_slot h))

  module _ (held : List ℕ) (n : ℕ) (room : n ≡ H) (e : held ≡ tab n hold) where
    held-are : held ≡ tab H hold
    held-are = e ∙ ap (λ k. tab k hold) room

    held-size : length held ≡ H
    held-size = ap length held-are ∙ length-tab H hold

    at_held : (h : ℕ) → h < H → at held h ≡ hold h
    at_held h l = ap (λ m. at m h) held-are ∙ at-tab H hold h l

    held-sum : sum_to (length held) (at held) ≤ total
    held-sum =
        let same : sum_to (length held) (at held) ≡ sum_to H hold = ap (λ n. sum_to n (at held)) held-size ∙ sum_to-same H (at held) hold at_held in
        omega (arith, g.within)

    accepted : Accepted total held load_shares
    accepted =
        record {
          few = omega (arith, held-size, g.small);
          paired = length-tab H _ ∙ sym held-size;
          total-kw = omega (arith, g.total-most);
          held-kw = λ h l. omega (arith, held-sum, g.total-most, sum_to-term (length held) (at held) h l);
          load-shares = λ h l.
              let here : h < H = omega (arith, held-size) in
              omega (arith, at-tab H (λ h. at kw (load_share_slot h)) h here, g.load-shares h here);
        }

    module _ (shares shares₀ : List ℕ) (same : length shares₀ ≡ H) (s : shares ≡ (step5 total held (mid_of 128 (128 + H - 128) kw) shares₀).output) where
      shares-are : shares ≡ step5_shares total held load_shares
      shares-are =
          let alike : length shares₀ ≡ length held = same ∙ sym held-size in
          s ∙ ap (λ l. (step5 total held l shares₀).output) (mid-tab 128 (128 + H) H kw (omega (arith, g.small)) (omega arith))
          ∙ ap (λ o. o.output) (outcome-accepted total held load_shares shares₀ accepted (omega arith)) ∙ shares_whole total held load_shares shares₀ alike

      shares-size : length shares ≡ H
      shares-size = ap length shares-are ∙ (promise total held load_shares).size ∙ held-size

      pub totals-within : (k : ℕ) → k ≡ H → (k ≤ length held) × (k ≤ length shares) × ((h : ℕ) → h < k → at held h + at shares h ≤ 960000000)
      totals-within k size = (
        omega (arith, held-size),
        omega (arith, shares-size),
        λ h l.
            let here : h < length held = omega (arith, held-size) in
            let share : at shares h ≡ at (step5_shares total held load_shares) h = ap (λ m. at m h) shares-are in
            omega (arith, (promise total held load_shares).step7 held-sum h here, g.total-most),
      )

      pub held-taken : (totals rest₁ rest₂ rest₃ : List ℕ) (k : ℕ) → k ≡ H → totals ≡ tab k (λ h. at held h + at shares h) →
          HeldTaken total kw I H pre_ra new_use (held ++ rest₁) (shares ++ rest₂) (totals ++ rest₃)
      held-taken totals rest₁ rest₂ rest₃ k size t =
          let first : (h : ℕ) → h < H → at (held ++ rest₁) h ≡ at held h = λ h l. get_or-append held rest₁ 0 h (omega (arith, held-size)) in
          let second : (h : ℕ) → h < H → at (shares ++ rest₂) h ≡ at shares h = λ h l. get_or-append shares rest₂ 0 h (omega (arith, shares-size)) in
          record {
            hold = λ h l. first h l ∙ at_held h l;
            share = λ h l.
                second h l ∙ ap (λ m. at m h) shares-are ∙ ap (λ m. at (step5_shares total m load_shares) h) held-are;
            step7 = λ h l.
                let sum : length totals ≡ H = ap length t ∙ length-tab k _ ∙ size in
                get_or-append totals rest₃ 0 h (omega (arith, sum))
                ∙ ap (λ m. at m h) t ∙ at-tab k (λ h. at held h + at shares h) h (omega arith)
                ∙ ap (λ x. x + at shares h) (sym (first h l)) ∙ ap (λ x. at (held ++ rest₁) h + x) (sym (second h l));
          }
