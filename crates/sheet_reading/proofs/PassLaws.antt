-- The passes over the records: what holds after n of them, and that a further record keeps it.
use Prim.Native.Nat.{ℕ, suc, ◌+◌, ◌*◌, ◌≤◌, ◌<◌, ◌^◌}
use mathlib.Core.Path.{◌≡◌, refl, sym, ap, ◌∙◌}
use mathlib.Core.Bool.{Bool, true, false, ◌&&◌}
use mathlib.Core.List.{List}
use native.Mathlib.Nat.{le_refl, zero-add}
use native.Mathlib.Omega.{arith}
use native.Mathlib.Numerals.{add-one}
use Rattle.base.specs.Sums.{all_to}
use lib.ListN.{length, set}
use Rattle.base.specs.Words.{at, fill}
use Rattle.base.proofs.WordLaws.{fill-turn, at_fill}
use Rattle.sheet_keys.specs.Key.{intertie_of}
use Rattle.sheet_records.specs.Sheet.{interties, holders, count, key_at, kw_at, sum_over}
use Rattle.sheet_records.specs.Refusal.{bad_length, record_stands, records_stand}
use Rattle.sheet_reading.specs.Tables.{slot_of, slots, table}
use Rattle.sheet_reading.specs.Workers.Adding.{SlotsOf}
use Rattle.sheet_records.specs.declared.reader.Record.{Record}
use Rattle.sheet_records.proofs.ReadingLaws.{RecordRead, word_below, PlacedSteps, begun, places-fit, placed-read, all-placed, one-more}
use Rattle.sheet_records.proofs.RefusalLaws.{whole}
use Rattle.sheet_records.specs.Reading.{record_at, records_of}
use Rattle.sheet_reading.specs.Headed.{headed}
use Rattle.std.proofs.Common.{Ok, Some, None, ◌++◌, ◌∷◌, []}
use Rattle.std.specs.Iterator.{Yields}
use Rattle.std.specs.Iterator.Adapters.{enumerate_source, enumerate_count}
use Rattle.std.specs.declared.iter.Enumerate.{Enumerate}
use Rattle.base.proofs.ListLaws.{fold_turns}
use Rattle.std.specs.List.{fold, range_with_len}
use Rattle.std.proofs.lemmas.List.Folds.{fold-map}
use Rattle.std.proofs.lemmas.List.FromFn.{length-range_with_len, get_or-range_with_len}
use Rattle.sheet_reading.proofs.TallyLaws.{zeros, tally, tally-bound, tally-all}
use Rattle.sheet_reading.proofs.SlotLaws.{slot-of-below}
use Rattle.sheet_reading.proofs.HeadLaws.{passes}

-- whether record k keeps its rule
abbrev pub stands_at : List ℕ → ℕ → Bool
stands_at s k = record_stands (interties s) (holders s) (key_at s k) (kw_at s k)

-- its slot, and its intertie
abbrev pub slot_at : List ℕ → ℕ → ℕ
slot_at s k = slot_of (key_at s k)

abbrev pub tie_at : List ℕ → ℕ → ℕ
tie_at s k = intertie_of (key_at s k)

-- the tests of all records in turn
pub tested-all : (s : List ℕ) → bad_length s ≡ false → (I H : ℕ) → I ≡ interties s → H ≡ holders s
    → fold (λ stand (x : Record). stand && record_stands I H x.key x.kw) true (records_of s) ≡ records_stand s
unfolding records_of records_stand all_to
tested-all s whole I H ei eh =
    let places : List ℕ = range_with_len 0 (count s) in
    let long : length places ≡ count s = length-range_with_len 0 (count s) in
    rw (whole, ei, eh)
    (fold-map (λ stand (x : Record). stand && record_stands (interties s) (holders s) x.key x.kw) (record_at s) true places
    ∙ fold_turns (λ stand k. stand && stands_at s k) (λ i. all_to i (stands_at s)) places
    (λ i l. ap (λ k. all_to i (stands_at s) && stands_at s k) (get_or-range_with_len 0 (count s) i 0 (omega (arith, long)) ∙ zero-add i))
    ∙ ap (λ n. all_to n (stands_at s)) long)

-- one record more
module _ (s : List ℕ) (n m : ℕ) (r : Record) (read : RecordRead s n r) (next : m ≡ n + 1) where
  pub slotted-more : (found₀ found : List ℕ) (place j : ℕ) → place ≡ n → found ≡ fill n (slot_at s) found₀ → j ≡ slot_of r.key
      → set found place j ≡ fill m (slot_at s) found₀
  slotted-more found₀ found place j here e ej = ap (λ x. set found x j) here ∙ fill-turn n (slot_at s) found₀ found j e (ej ∙ ap slot_of read.key-is) ∙ ap (λ x. fill x (slot_at s) found₀) (sym next)

-- the slots of no record, and of all
pub slotted-none : (s found : List ℕ) → found ≡ fill 0 (slot_at s) found
unfolding fill
slotted-none s found = refl

pub slotted-all : (s found₀ found : List ℕ) (n : ℕ) → found ≡ fill n (slot_at s) found₀ → n ≡ count s → headed s ≡ Ok s → length found₀ ≡ 1024 → SlotsOf s found
slotted-all s found₀ found n p all passed room k l =
    ap (λ (x : List ℕ). at x k) p ∙ at_fill n (slot_at s) found₀ k (omega arith) (omega (arith, (whole s (count s) (passes s passed) refl).few))

-- a table after n records were added to their slots
abbrev pub added : List ℕ → (ℕ → ℕ) → ℕ → List ℕ
added s amount n = tally (slot_at s) amount n (zeros slots)

-- it is empty before the first record
pub added-none : (s : List ℕ) (amount : ℕ → ℕ) (l : List ℕ) → l ≡ zeros slots → l ≡ added s amount 0
unfolding tally
added-none s amount l clear = clear

-- after the last record it is the table of the sheet
pub added-all : (s : List ℕ) (amount : ℕ → ℕ) (l : List ℕ) (n : ℕ) → l ≡ added s amount n → n ≡ count s → l ≡ table s amount
unfolding table sum_over
added-all s amount l n t e = t ∙ ap (λ (x : ℕ). added s amount x) e ∙ tally-all (slot_at s) amount (count s) slots

below_64 : (key : ℕ) → intertie_of key ≤ 63
below_64 key = omega arith

-- a loop over the records of a sheet and their places, by what its iterators say
module _ (s : List ℕ) (begin items : Enumerate (List Record)) (all : List Record)
    (r : enumerate_source items ≡ all) (f : all ≡ records_of s) (n : enumerate_count items ≡ 0) (e : begin ≡ items) (passed : headed s ≡ Ok s) where
  pub places-counted : enumerate_count begin + length (enumerate_source begin) < 2 ^ 64
  places-counted = places-fit s begin (begun s begin items all (passes s passed) e r f n)

  pub all-walked : (now after : Enumerate (List Record)) (had : List (ℕ × Record)) → Yields PlacedSteps begin had now → PlacedSteps now None after → length had ≡ count s
  all-walked = all-placed s begin (begun s begin items all (passes s passed) e r f n)

-- the next record
module _ (s : List ℕ) (begin items now after : Enumerate (List Record)) (all : List Record) (had : List (ℕ × Record)) (place : ℕ) (x : Record)
    (step : PlacedSteps now (Some (place, x)) after) (by : Yields PlacedSteps begin had now) (r : enumerate_source items ≡ all) (f : all ≡ records_of s)
    (n : enumerate_count items ≡ 0) (e : begin ≡ items) (passed : headed s ≡ Ok s) where
  here : RecordRead s (length had) x × (place ≡ length had)
  here = placed-read s begin (begun s begin items all (passes s passed) e r f n) now after had by (place, x) step

  pub place-below : place < 1024
  place-below = omega (arith, here.1, here.0.inside, (whole s (count s) (passes s passed) refl).few)

  pub slotted-next : (found₀ found : List ℕ) (j : ℕ) → found ≡ fill (length had) (slot_at s) found₀ → j ≡ slot_of x.key
      → set found place j ≡ fill (length (had ++ (place, x) ∷ [])) (slot_at s) found₀
  slotted-next found₀ found j p ej = slotted-more s _ _ x here.0 (one-more had (place, x)) found₀ found place j here.1 p ej

  -- its slot, which was found
  module _ (found : List ℕ) (slotted : SlotsOf s found) where
    pub slot-below : at found place < slots
    slot-below = rw (here.1, slotted (length had) here.0.inside) (slot-of-below (key_at s (length had)))

    module _ (amount : ℕ → ℕ) (l : List ℕ) (p : l ≡ added s amount (length had)) where
      room : (b : ℕ) → ((k : ℕ) → amount k ≤ b) → at l (at found place) ≤ length had * b
      room b small = rw p (tally-bound (slot_at s) amount (length had) b slots (at found place) small slot-below)

      added_more : (y : ℕ) → y ≡ amount (length had) → set l (at found place) (at l (at found place) + y) ≡ added s amount (length (had ++ (place, x) ∷ []))
      unfolding tally
      added_more y ey =
          let m : length (had ++ (place, x) ∷ []) ≡ suc (length had) = one-more had (place, x) ∙ add-one (length had) in
          rw (m, here.1, slotted (length had) here.0.inside, ey, p) refl

    -- the records, the kilowatts and the interties of each slot: there is room for one more, and it is added
    module _ (l : List ℕ) (p : l ≡ added s (λ k. 1) (length had)) where
      pub count_room : at l (at found place) + 1 < 2 ^ 16
      count_room = omega (arith, here.0.inside, (whole s (count s) (passes s passed) refl).few, room (λ k. 1) l p 1 (λ k. le_refl 1))

      pub counted_more : set l (at found place) (at l (at found place) + 1) ≡ added s (λ k. 1) (length (had ++ (place, x) ∷ []))
      counted_more = added_more (λ k. 1) l p 1 refl

    module _ (l : List ℕ) (p : l ≡ added s (kw_at s) (length had)) where
      pub kw-room : ((i : ℕ) → at s i < 256) → at l (at found place) + x.kw < 2 ^ 64
      kw-room bytes =
          omega (arith, here.0.inside, here.0.kw-is, (whole s (count s) (passes s passed) refl).few, room (kw_at s) l p 4_294_967_295 (λ k. word_below s (12 + 4 * count s + 4 * k) bytes), word_below s (12 + 4 * count s + 4 * length had) bytes)

      pub summed_more : (y : ℕ) → y ≡ x.kw → set l (at found place) (at l (at found place) + y) ≡ added s (kw_at s) (length (had ++ (place, x) ∷ []))
      summed_more y e = added_more (kw_at s) l p y (e ∙ here.0.kw-is)

    module _ (l : List ℕ) (p : l ≡ added s (tie_at s) (length had)) (tie : ℕ) (t : tie ≡ intertie_of x.key) where
      pub tie-room : at l (at found place) + tie < 2 ^ 16
      tie-room =
          omega (arith, here.0.inside, t, below_64 x.key, (whole s (count s) (passes s passed) refl).few, room (tie_at s) l p 63 (λ k. below_64 (key_at s k)))

      pub placed_more : set l (at found place) (at l (at found place) + tie) ≡ added s (tie_at s) (length (had ++ (place, x) ∷ []))
      placed_more = added_more (tie_at s) l p tie (t ∙ ap intertie_of here.0.key-is)
