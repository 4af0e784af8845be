-- What a trade that isn't refused finds, and what it leaves.
use Prim.Native.Nat.{ℕ, ◌+◌, ◌-◌, ◌^◌, ◌≤◌, ◌<◌}
use mathlib.Core.Path.{◌≡◌, refl, sym, ◌∙◌}
use mathlib.Core.Bool.{not, ◌||◌}
use mathlib.Core.List.{List}
use mathlib.Core.Logic.{◌≢◌, inl}
use native.Mathlib.Decide.{ℕ_discrete}
use native.Mathlib.Omega.{arith}
use lib.Dec.{ltb, eqb}
use lib.ListN.{length, set, length-set}
use borrow.Author.Tests.{eq-eqb, ne_eqb, ltb-false, eqb-true, eqb-false, not-false}
use Rattle.base.specs.Choice.{pick}
use Rattle.base.specs.Sums.{sum_to}
use Rattle.base.specs.Answers.{refused, granted}
use Rattle.base.proofs.ChoiceLaws.{or_left, or_right}
use Rattle.base.specs.Limits.{state_words}
use Rattle.state.specs.Layout.{interties, holders, stage_of, unplaced_at, unplaced_of, sellers_at, sellers_of, pending_of}
use Rattle.state.specs.Orderly.{state_refusal}
use Rattle.state.proofs.FrameLaws.{at_stored, at-other-row, at-other-column, SameRows, same-trans, same-within, same-store-below, same-store-past, same-of-holder, row-sum-stored, row-sum-apart}
use Rattle.state.proofs.OrderlyLaws.{Orderly, refusal-none, unplaced-most}
use Rattle.call.specs.Tests.{no_holder, bad_kw}
use Rattle.trading.specs.Trade.{trade_refusal, with_seller, trade_state, trade}
use Rattle.call.proofs.LadderLaws.{decided-done, decided-refused}
use Rattle.call.proofs.TestLaws.{is-holder, kw-in-range}
use Rattle.trading.proofs.StepLaws.{none-applies}
use Rattle.trading.proofs.KeepLaws.{SameOthers, orderly-kept}
use Rattle.trading.proofs.MaskLaws.{sellers-below}

-- what holds where no number applies to a trade
pub record Tradable (s : List ℕ) (seller buyer kw : ℕ) : Type 0 where
  pub long : state_words ≤ length s
  pub orderly : Orderly s
  pub trading : stage_of s ≡ 1
  pub seller-is : seller < holders s
  pub buyer-is : buyer < holders s
  pub two : seller ≢ buyer
  pub kw-some : 1 ≤ kw
  pub kw-few : kw ≤ 20000000
  pub enough : kw ≤ unplaced_of s seller

pub trade-done : (s : List ℕ) (seller buyer kw : ℕ) → trade_refusal s seller buyer kw ≡ 0 → Tradable s seller buyer kw
unfolding trade_refusal
trade-done s seller buyer kw e =
    let trading = eqb (stage_of s) 1 in
    let no-party = no_holder s seller || no_holder s buyer in
    let over = ltb (unplaced_of s seller) kw in
    let none = none-applies (state_refusal s) (not trading) (no-party || eqb seller buyer) (bad_kw kw) over e in
    let fit = refusal-none s none.0 in
    let parties = or_left no-party (eqb seller buyer) none.2 in
    record {
      long = fit.0;
      orderly = fit.1;
      trading = eqb-true (stage_of s) 1 (not-false trading none.1);
      seller-is = is-holder s seller (or_left (no_holder s seller) (no_holder s buyer) parties);
      buyer-is = is-holder s buyer (or_right (no_holder s seller) (no_holder s buyer) parties);
      two = eqb-false seller buyer (or_right no-party (eqb seller buyer) none.2);
      kw-some = (kw-in-range kw none.3).0;
      kw-few = (kw-in-range kw none.3).1;
      enough = ltb-false (unplaced_of s seller) kw none.4;
    }

-- the bounds that keep a trade's sums and casts in range
pub trade-room : (s : List ℕ) (seller buyer kw : ℕ) → trade_refusal s seller buyer kw ≡ 0 →
    (seller < 32) × (kw ≤ 20000000) × (kw ≤ unplaced_of s seller) × (unplaced_of s seller ≤ 960000000) × (unplaced_of s buyer ≤ 960000000)
trade-room s seller buyer kw e =
    let d = trade-done s seller buyer kw e in
    (omega (arith, d.seller-is, d.orderly.holders-most), d.kw-few, d.enough, unplaced-most d.orderly seller d.seller-is, unplaced-most d.orderly buyer d.buyer-is)

-- the state after the trade, store by store
pub trade-stored : (s t1 t2 t3 : List ℕ) (seller buyer kw u v w mask : ℕ) → u ≡ unplaced_of s seller → v ≡ unplaced_of s buyer → w ≡ sellers_of s buyer →
    mask ≡ with_seller w seller → t1 ≡ set s (unplaced_at seller) (u - kw) → t2 ≡ set t1 (unplaced_at buyer) (v + kw) → t3 ≡ set t2 (sellers_at buyer) mask →
    t3 ≡ trade_state s seller buyer kw
unfolding trade_state
trade-stored s t1 t2 t3 seller buyer kw u v w mask a b c d e f g = rw (g, f, e, d, c, b, a)

-- what a trade gives: granted, and refused
pub trade-granted : (s : List ℕ) (seller buyer kw : ℕ) → trade_refusal s seller buyer kw ≡ 0 → trade s seller buyer kw ≡ record { answer = granted kw 0; state = trade_state s seller buyer kw }
unfolding trade
trade-granted s seller buyer kw e = decided-done (trade_refusal s seller buyer kw) s _ e

pub trade-refused : (s : List ℕ) (seller buyer kw : ℕ) → (trade_refusal s seller buyer kw ≡ 0 → ⊥) → trade s seller buyer kw ≡ record { answer = refused (trade_refusal s seller buyer kw); state = s }
unfolding trade
trade-refused s seller buyer kw ne = decided-refused (trade_refusal s seller buyer kw) s _ ne

-- the state after the seller's store, and after the buyer's
abbrev sold : List ℕ → ℕ → ℕ → List ℕ
sold s seller kw = set s (unplaced_at seller) (unplaced_of s seller - kw)

abbrev bought : List ℕ → ℕ → ℕ → ℕ → List ℕ
bought s seller buyer kw = set (sold s seller kw) (unplaced_at buyer) (unplaced_of s buyer + kw)

pub trade-length : (s : List ℕ) (seller buyer kw : ℕ) → length (trade_state s seller buyer kw) ≡ length s
unfolding trade_state
trade-length s seller buyer kw = simp length-set

module _ {s : List ℕ} {seller buyer kw : ℕ} (d : Tradable s seller buyer kw) where
  seller-column : seller < 48
  seller-column = omega (arith, d.seller-is, d.orderly.holders-most)

  buyer-column : buyer < 48
  buyer-column = omega (arith, d.buyer-is, d.orderly.holders-most)

  -- the rows before unplaced and past sellers
  pub trade-before : SameRows 0 105 s (trade_state s seller buyer kw)
  unfolding trade_state
  trade-before =
      same-trans
      (same-trans
      (same-store-past 0 105 s 105 seller (unplaced_of s seller - kw) seller-column (omega arith))
      (same-store-past 0 105 (sold s seller kw) 105 buyer (unplaced_of s buyer + kw) buyer-column (omega arith)))
      (same-store-past 0 105 (bought s seller buyer kw) 106 buyer (with_seller (sellers_of s buyer) seller) buyer-column (omega arith))

  pub trade-after : SameRows 107 333 s (trade_state s seller buyer kw)
  unfolding trade_state
  trade-after =
      same-trans
      (same-trans
      (same-store-below 107 333 s 105 seller (unplaced_of s seller - kw) seller-column (omega arith))
      (same-store-below 107 333 (sold s seller kw) 105 buyer (unplaced_of s buyer + kw) buyer-column (omega arith)))
      (same-store-below 107 333 (bought s seller buyer kw) 106 buyer (with_seller (sellers_of s buyer) seller) buyer-column (omega arith))

  pub trade-others : SameOthers s (trade_state s seller buyer kw)
  trade-others = record { before = trade-before; after = same-within (omega arith) (omega arith) trade-after }

  -- a holder's unplaced, before the store of the sellers
  unplaced-bought : (h : ℕ) → h < 48 → unplaced_of (trade_state s seller buyer kw) h ≡ unplaced_of (bought s seller buyer kw) h
  unfolding trade_state
  unplaced-bought h l = at-other-row (bought s seller buyer kw) 106 buyer (with_seller (sellers_of s buyer) seller) 105 h buyer-column l (omega arith)

  -- unplaced: less of the seller's, more of the buyer's, the others' the same
  pub seller-unplaced : unplaced_of (trade_state s seller buyer kw) seller ≡ unplaced_of s seller - kw
  seller-unplaced =
      unplaced-bought seller seller-column
      ∙ at-other-column (sold s seller kw) 105 buyer (unplaced_of s buyer + kw) 105 seller buyer-column seller-column d.two
      ∙ at_stored s 105 seller (unplaced_of s seller - kw) d.long (omega arith) seller-column

  pub buyer-unplaced : unplaced_of (trade_state s seller buyer kw) buyer ≡ unplaced_of s buyer + kw
  buyer-unplaced =
      unplaced-bought buyer buyer-column
      ∙ at_stored (sold s seller kw) 105 buyer (unplaced_of s buyer + kw) (simp length-set d.long) (omega arith) buyer-column

  pub other-unplaced : (h : ℕ) → h < 48 → h ≢ seller → h ≢ buyer → unplaced_of (trade_state s seller buyer kw) h ≡ unplaced_of s h
  other-unplaced h l no-seller no-buyer =
      unplaced-bought h l
      ∙ at-other-column (sold s seller kw) 105 buyer (unplaced_of s buyer + kw) 105 h buyer-column l no-buyer
      ∙ at-other-column s 105 seller (unplaced_of s seller - kw) 105 h seller-column l no-seller

  -- the same in one equation: what a holder has and what it sold are what it had and what it bought
  pub trade-unplaced : (h : ℕ) → h < 48 → unplaced_of (trade_state s seller buyer kw) h + pick (eqb h seller) kw 0 ≡ unplaced_of s h + pick (eqb h buyer) kw 0
  trade-unplaced h l =
      elim (ℕ_discrete h seller) [
        | yes e ↦
            rw (e, eq-eqb seller seller refl, ne_eqb seller buyer d.two)
            (omega (arith, seller-unplaced, d.enough))
        | no no-seller ↦
            elim (ℕ_discrete h buyer) [
              | yes e ↦
                  let apart : buyer ≢ seller = λ (z : buyer ≡ seller). d.two (sym z) in
                  rw (e, eq-eqb buyer buyer refl, ne_eqb buyer seller apart)
                  (omega (arith, buyer-unplaced))
              | no no-buyer ↦
                  rw (ne_eqb h seller no-seller, ne_eqb h buyer no-buyer)
                  (omega (arith, other-unplaced h l no-seller no-buyer))
            ]
      ]

  -- all unplaced together stay
  pub trade-unplaced-sum : sum_to (holders s) (λ h. unplaced_of (trade_state s seller buyer kw) h) ≡ sum_to (holders s) (λ h. unplaced_of s h)
  unfolding trade_state
  trade-unplaced-sum =
      let n : ℕ = holders s in
      let most : n ≤ 48 = omega (arith, d.orderly.holders-most) in
      let apart : buyer ≢ seller = λ (z : buyer ≡ seller). d.two (sym z) in
      omega (
        arith,
        row-sum-stored s 105 n seller (unplaced_of s seller - kw) d.long (omega arith) most d.seller-is,
        row-sum-stored (sold s seller kw) 105 n buyer (unplaced_of s buyer + kw) (simp length-set d.long) (omega arith) most d.buyer-is,
        at-other-column s 105 seller (unplaced_of s seller - kw) 105 buyer seller-column buyer-column apart,
        row-sum-apart (bought s seller buyer kw) 106 buyer (with_seller (sellers_of s buyer) seller) 105 n buyer-column most (omega arith),
        d.enough,
      )

  -- the seller joins the buyer's sellers; the others' stay
  pub buyer-sellers : sellers_of (trade_state s seller buyer kw) buyer ≡ with_seller (sellers_of s buyer) seller
  unfolding trade_state
  buyer-sellers = at_stored (bought s seller buyer kw) 106 buyer (with_seller (sellers_of s buyer) seller) (simp length-set d.long) (omega arith) buyer-column

  pub other-sellers : (h : ℕ) → h < 48 → h ≢ buyer → sellers_of (trade_state s seller buyer kw) h ≡ sellers_of s h
  unfolding trade_state
  other-sellers h l no-buyer =
      at-other-column (bought s seller buyer kw) 106 buyer (with_seller (sellers_of s buyer) seller) 106 h buyer-column l no-buyer
      ∙ at-other-row (sold s seller kw) 105 buyer (unplaced_of s buyer + kw) 106 h buyer-column l (omega arith)
      ∙ at-other-row s 105 seller (unplaced_of s seller - kw) 106 h seller-column l (omega arith)

  trade-sellers-below : (h : ℕ) → h < holders s → sellers_of (trade_state s seller buyer kw) h < 2 ^ holders s
  trade-sellers-below h l =
      elim (ℕ_discrete h buyer) [
        | yes e ↦ rw (e, buyer-sellers) (sellers-below (holders s) (sellers_of s buyer) seller (d.orderly.sellers-below buyer d.buyer-is) d.seller-is)
        | no no-buyer ↦ rw (other-sellers h (omega (arith, d.orderly.holders-most)) no-buyer) (d.orderly.sellers-below h l)
      ]

  -- nothing is pending while trades are made
  trade-pending : (h : ℕ) → h < holders s → sum_to (interties s) (λ i. pending_of (trade_state s seller buyer kw) h i) ≡ 0
  trade-pending h l =
      same-of-holder 237 (interties s) h trade-after (omega arith) (omega arith) d.orderly.interties-most (omega (arith, d.orderly.holders-most))
      ∙ d.orderly.no-pending (inl d.trading) h l

  pub trade-keeps-orderly : Orderly (trade_state s seller buyer kw)
  trade-keeps-orderly =
      orderly-kept d.orderly trade-others
      (record {
        pending-most = λ h l. omega (arith, trade-pending h l);
        no-pending = λ closed h l. trade-pending h l;
        unplaced-sum-most = omega (arith, trade-unplaced-sum, d.orderly.unplaced-sum-most);
        sellers-below = trade-sellers-below;
      })
