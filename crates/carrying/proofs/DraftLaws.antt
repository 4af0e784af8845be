-- A draft of records: of none, and with one more.
use Rattle.std.proofs.Common.{ℕ, ◌+◌, ◌≤◌, ◌<◌, ◌≡◌, refl, sym, ap, ◌∙◌, arith, Bool, List, [], ◌∷◌, ◌++◌, length, set, replicate, take, max, ◌≢◌, ltb, length-set, get_or-set_same, get_or-set_other, length-take-le, eq-eqb, ltb-false}
use Rattle.base.proofs.Prelude.{pick, at}
use native.Mathlib.Nat.{max-zero}
use native.Mathlib.Decide.{ℕ_discrete}
use lib.ListN.{length-map, length-replicate, get_or-replicate}
use Rattle.std.proofs.lemmas.List.{map-append}
use Rattle.sheet_keys.specs.Key.{holder_of, cut_key}
use Rattle.sheet_records.specs.Sheet.{key_at, kw_at}
use Rattle.state.specs.Layout.{locked_of, term_of}
use Rattle.carrying.specs.NextRecord.{NextRecord, quantity_of}
use Rattle.carrying.specs.NextRecords.{goes_on, next_record, kept_of, kept, rank_for, highest, lock_record, with_lock}
use Rattle.carrying.specs.Workers.Draft.{places, record_key, Drafted, shown, Tables, with_record, DraftOf, Adds}
use Rattle.carrying.proofs.RecordLaws.{highest-more, highest-none, rank-other, either_way, kept_more, kept-few}

-- how many records the tables show
pub shown-few : (keys kws ranks : List ℕ) (n : ℕ) → Tables keys kws ranks n → length (take n keys) ≡ n
shown-few keys kws ranks n t = length-take-le n keys (omega (arith, t.few, t.key-places))

-- no record yet
pub no_tables : Tables (replicate places 0) (replicate places 0) (replicate 64 0) 0
no_tables =
    record {
      key-places = length-replicate {A = ℕ} places 0;
      kw-places = length-replicate {A = ℕ} places 0;
      rank-places = length-replicate {A = ℕ} 64 0;
      few = omega arith;
      low = λ h b. omega (arith, get_or-replicate {A = ℕ} 64 h 0 0 b);
    }

pub draft_none : DraftOf [] (shown (replicate places 0) (replicate places 0) (replicate 64 0) 0)
draft_none =
    record {
      keys-are = refl;
      kws-are = refl;
      sized = length-replicate {A = ℕ} 64 0;
      rank_is = λ h b. get_or-replicate {A = ℕ} 64 h 0 0 b ∙ sym (highest-none h);
    }

-- a record more: its key, its quantity, and its rank
module _ (l : List NextRecord) (d : Drafted) (of : DraftOf l d) (x : NextRecord) where
  ranked : (rank : ℕ) → x.holder < 64 → rank ≡ rank_for x.holder x →
      (h : ℕ) → h < 64 → at (set d.ranks x.holder (max (at d.ranks x.holder) rank)) h ≡ highest h (l ++ (x ∷ []))
  ranked rank low e h b =
      elim (ℕ_discrete h x.holder) [
        | yes same ↦ rw (same, highest-more x.holder l x, ← e, ← of.rank_is x.holder low) (get_or-set_same d.ranks x.holder _ 0 (omega (arith, of.sized)))
        | no other ↦
            rw (highest-more h l x, rank-other h x (λ e. other (sym e)), ← of.rank_is h b, max-zero (at d.ranks h)) (get_or-set_other d.ranks x.holder h _ 0 other)
      ]

  pub draft-more : (key kw h rank : ℕ) → h ≡ x.holder → h < 64 → key ≡ record_key x → kw ≡ x.kw → rank ≡ rank_for x.holder x →
      DraftOf (l ++ (x ∷ [])) (with_record key kw h rank d)
  draft-more key kw h rank eh low ek eq er =
      rw eh
      (record {
        keys-are = rw (of.keys-are, ek) (sym (map-append record_key l (x ∷ [])));
        kws-are = rw (of.kws-are, eq) (sym (map-append quantity_of l (x ∷ [])));
        sized = length-set d.ranks x.holder _ ∙ of.sized;
        rank_is = ranked rank (omega arith) er;
      })

-- an old record, kept or not
pub record_drafted : (key kw : ℕ) (b : Bool) → b ≡ goes_on key → (packed h rank : ℕ) → h ≡ holder_of key → packed ≡ record_key (next_record key 0) →
    rank ≡ rank_for (holder_of key) (next_record key 0) → (before after : Drafted) → after ≡ pick b (with_record packed kw h rank before) before →
    Adds (λ (l : List NextRecord). l ++ kept_of key kw) before after
record_drafted key kw b e packed h rank eh ek er before after made l of =
    either_way (λ (records : List NextRecord). DraftOf records after) (goes_on key) l (next_record key kw)
    (λ y. rw (made, e, y) (draft-more l before of (next_record key kw) packed kw h rank eh (omega arith) ek refl er))
    (λ n. rw (made, e, n) of)

-- a pair with a lock
module _ (state : List ℕ) (h i locked : ℕ) (e : locked ≡ locked_of state h i) (before : Drafted) where
  pub a_lock : locked ≢ 0 → h < 64 → (packed kind rank term : ℕ) → kind ≡ 6 → term ≡ term_of state h i → rank ≡ at before.ranks h + 1 → packed ≡ cut_key kind h i rank term →
      (after : Drafted) → after ≡ with_record packed locked h rank before → Adds (with_lock state h i) before after
  a_lock some low packed kind rank term sixth et er ek after made l of =
      either_way (λ (m : List NextRecord). DraftOf m after) (ltb 0 (locked_of state h i)) l (lock_record state h i l)
      (λ _.
      let next : rank ≡ highest h l + 1 = er ∙ ap (λ (k : ℕ). k + 1) (of.rank_is h low) in
      let own : rank_for h (lock_record state h i l) ≡ highest h l + 1 = rw (eq-eqb h h refl) refl in
      rw made (draft-more l before of (lock_record state h i l) packed locked h rank refl low (rw (← next, ← et) (ek ∙ ap (λ (k : ℕ). cut_key k h i rank term) sixth)) e (next ∙ sym own)))
      (λ f. absurd (some (omega (arith, ltb-false 0 (locked_of state h i) f))))

-- how many records a draft has
pub draft-few : (l : List NextRecord) (d : Drafted) → DraftOf l d → length d.keys ≡ length l
draft-few l d of = ap length of.keys-are ∙ length-map l record_key

-- the first records of a sheet
module _ (sheet : List ℕ) (k : ℕ) (d : Drafted) (of : DraftOf (kept sheet k) d) where
  pub kept-room : k ≤ 1024 → length d.keys ≤ 1024
  kept-room few = omega (arith, draft-few (kept sheet k) d of, kept-few sheet k)

  pub kept_next : (key kw m : ℕ) (after : Drafted) → key ≡ key_at sheet k → kw ≡ kw_at sheet k → m ≡ k + 1 →
      Adds (λ (l : List NextRecord). l ++ kept_of key kw) d after → DraftOf (kept sheet m) after
  kept_next key kw m after ek eq em adds = rw (em, kept_more sheet k, ← ek, ← eq) (adds (kept sheet k) of)
