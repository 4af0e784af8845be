-- The records of next year's sheet fit the widths of a key, so the drafted keys and quantities are theirs.
use Rattle.std.proofs.Common.{ℕ, zero, suc, ◌+◌, ◌-◌, ◌*◌, ◌≤◌, ◌<◌, ◌≡◌, refl, sym, ap, ◌∙◌, Bool, true, false, ◌||◌, not, ◌⊎◌, inl, inr, ⊎_elim, List, [], ◌∷◌, map, le_trans, not-suc-le-zero, le_of_suc-le-suc, arith, ltb, leb, length, take, ext_get_or, get_or-take, length-take-le, eq-eqb, lt-ltb, le-ltb, le-leb, ltb-true, ltb-false, leb-true}
use native.Mathlib.Nat.{le-max_left, le-max_right}
use lib.ListN.{length-map, get_or-map}
use Rattle.std.specs.List.{list_all, list_any}
use Rattle.base.proofs.ListLaws.{all_places}
use native.Mathlib.Decide.{dec_lt}
use borrow.Author.Tests.{not-false, lt-leb}
use Rattle.base.specs.Sums.{all_to}
use Rattle.base.specs.Words.{at}
use Rattle.base.proofs.ChoiceLaws.{pick-by, or_left, or_right}
use Rattle.base.proofs.SumLaws.{all_to-each, all_to-same}
use Rattle.sheet_keys.specs.Key.{years_of}
use Rattle.sheet_records.specs.Sheet.{size_of, key_at, kw_at}
use Rattle.sheet_records.proofs.ReadingLaws.{word_below}
use Rattle.state.specs.Layout.{interties, holders, locked_of}
use Rattle.state.proofs.OrderlyLaws.{Orderly}
use Rattle.carrying.specs.NextRecord.{NextRecord, key_of, record_in}
use Rattle.carrying.specs.NextRecords.{yearless, next_record, rank_for, highest, lock_record, next_records}
use Rattle.carrying.specs.Carry.{does_not_fit}
use Rattle.carrying.specs.Workers.Draft.{record_key, Drafted, shown, Tables, DraftOf}
use Rattle.sheet_keys.proofs.KeyLaws.{uncut}
use Rattle.carrying.proofs.RecordLaws.{AllRecords, no_record, records-all}
use Rattle.carrying.proofs.DraftLaws.{shown-few, draft-few}

-- a record within the widths; a rank that is not is one of holder 0 to H - 1
pub record Fits (H : ℕ) (x : NextRecord) : Type 0 where
  pub kind-low : x.kind < 16
  pub holder-low : x.holder < 64
  pub intertie-low : x.intertie < 64
  pub years-low : x.years < 256
  pub rank-low : (x.rank < 256) ⊎ ((x.kind ≡ 6) × (x.holder < H))

abbrev pub AllFit : ℕ → List NextRecord → Type 0
AllFit H = AllRecords (Fits H)

next-fit : (H key quantity : ℕ) → key ≤ 4_294_967_295 → Fits H (next_record key quantity)
next-fit H key quantity low =
    record {
      kind-low = omega arith;
      holder-low = omega arith;
      intertie-low = omega arith;
      years-low = pick-by (λ (n : ℕ). n < 256) (yearless key) (years_of key) (years_of key - 1) (λ _. omega arith) (λ _. omega arith);
      rank-low = inl (omega arith);
    }

module _ (s : List ℕ) (o : Orderly s) where
  lock-fit : (h i : ℕ) (l : List NextRecord) → h < holders s → i < interties s → ltb 0 (locked_of s h i) ≡ true → Fits (holders s) (lock_record s h i l)
  lock-fit h i l a b t =
      let term = o.term-range h i a b (ltb-true 0 (locked_of s h i) t) in
      record {
        kind-low = omega arith;
        holder-low = omega (arith, o.holders-most);
        intertie-low = omega (arith, o.interties-most);
        years-low = omega (arith, term.1);
        rank-low = inr (refl, a);
      }

  pub records_fit : (sheet : List ℕ) → ((i : ℕ) → at sheet i < 256) → AllFit (holders s) (next_records sheet s)
  records_fit sheet bytes =
      records-all (Fits (holders s)) s lock-fit sheet
      (λ k _ _. next-fit (holders s) (key_at sheet k) (kw_at sheet k) (word_below sheet (12 + 4 * k) bytes))

-- a New Use commitment's rank is at most its holder's highest
own-rank : (x : NextRecord) → x.kind ≡ 6 → rank_for x.holder x ≡ x.rank
own-rank x e = rw (e, eq-eqb x.holder x.holder refl) refl

pub below-highest : (l : List NextRecord) (j : ℕ) → j < length l → (record_in l j).kind ≡ 6 → (record_in l j).rank ≤ highest (record_in l j).holder l
unfolding highest
below-highest [] j b e = absurd (not-suc-le-zero b)
below-highest (x ∷ l) zero b e = omega (arith, own-rank x e, le-max_left (rank_for x.holder x) (highest x.holder l))
below-highest (x ∷ l) (suc j) b e =
    let h : ℕ = (record_in l j).holder in
    le_trans (below-highest l j (le_of_suc-le-suc b) e) (le-max_right (rank_for h x) (highest h l))

module _ (H : ℕ) (l : List NextRecord) (fit : AllFit H l) (low : all_to H (λ h. leb (highest h l) 255) ≡ true) where
  pub rank-fits : (j : ℕ) → j < length l → (record_in l j).rank < 256
  rank-fits j b =
      ⊎_elim
      (λ (r : (record_in l j).rank < 256). r)
      (λ (p : ((record_in l j).kind ≡ 6) × ((record_in l j).holder < H)).
      let h : ℕ = (record_in l j).holder in
      let most : highest h l ≤ 255 = leb-true (highest h l) 255 (all_to-each H (λ h. leb (highest h l) 255) low h p.1) in
      omega (arith, below-highest l j b p.0))
      (fit j b).rank-low

  key_fits : (j : ℕ) → j < length l → record_key (record_in l j) ≡ key_of (record_in l j)
  key_fits j b =
      let x : NextRecord = record_in l j in
      let f = fit j b in
      uncut x.kind x.holder x.intertie x.rank x.years f.kind-low f.holder-low f.intertie-low (rank-fits j b) f.years-low

  -- the drafted keys are the records'
  pub keys_same : map record_key l ≡ map key_of l
  keys_same =
      ext_get_or 0 (map record_key l) (map key_of l) (length-map l record_key ∙ sym (length-map l key_of))
      (λ j b.
      let c : j < length l = rw (← length-map l record_key) b in
      get_or-map record_key l j no_record ∙ key_fits j c ∙ sym (get_or-map key_of l j no_record))

-- a rank over 255 is one that isn't within
any-over : (l : List ℕ) → list_any (λ r. ltb 255 r) l ≡ not (list_all (λ r. leb r 255) l)
any-over [] = refl
any-over (x ∷ l) =
    elim (dec_lt 255 x) [
      | yes over ↦ rw (lt-ltb 255 x over, lt-leb x 255 over) refl
      | no within ↦ rw (le-ltb 255 x (omega arith), le-leb x 255 (omega arith)) (any-over l)
    ]

-- the draft's test of refusal 14 is the records'
pub fit_same : (l : List NextRecord) (d : Drafted) → DraftOf l d → (keys kws ranks : List ℕ) (n : ℕ) → Tables keys kws ranks n → shown keys kws ranks n ≡ d →
    (H room : ℕ) → H ≤ 32 → (b : Bool) → b ≡ list_any (λ r. ltb 255 r) (take H ranks) →
    (ltb 1024 n || b || ltb room (size_of n)) ≡ does_not_fit H l room
unfolding does_not_fit
fit_same l d of keys kws ranks n t v H room few b e =
    let size : length (take H ranks) ≡ H = length-take-le H ranks (omega (arith, t.rank-places)) in
    let count : n ≡ length l = sym (shown-few keys kws ranks n t) ∙ ap (λ (x : Drafted). length x.keys) v ∙ draft-few l d of in
    let ranked : b ≡ not (all_to H (λ h. leb (highest h l) 255)) =
    e ∙ any-over (take H ranks) ∙ ap not
    (all_places (λ r. leb r 255) (take H ranks) ∙ ap (λ (k : ℕ). all_to k (λ h. leb (at (take H ranks) h) 255)) size
    ∙ all_to-same H (λ h. leb (at (take H ranks) h) 255) (λ h. leb (highest h l) 255)
    (λ h m. ap (λ (r : ℕ). leb r 255) (get_or-take H ranks h 0 m ∙ ap (λ (x : Drafted). at x.ranks h) v ∙ of.rank_is h (omega arith)))) in
    rw (ranked, count) refl

-- what records that fit say
pub fitting : (H : ℕ) (l : List NextRecord) (room : ℕ) → does_not_fit H l room ≡ false →
    (length l ≤ 1024) × (all_to H (λ h. leb (highest h l) 255) ≡ true) × (size_of (length l) ≤ room)
unfolding does_not_fit
fitting H l room f =
    let long : Bool = ltb 1024 (length l) in
    let low : Bool = all_to H (λ h. leb (highest h l) 255) in
    let two = or_left (long || not low) (ltb room (size_of (length l))) f in (
      ltb-false 1024 (length l) (or_left long (not low) two),
      not-false low (or_right long (not low) two),
      ltb-false room (size_of (length l)) (or_right (long || not low) (ltb room (size_of (length l))) f),
    )
