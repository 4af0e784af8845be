-- What is drafted before a byte is written: keys and quantities in their order, and each holder's highest rank.
use Rattle.std.specs.Prelude.{ℕ, ◌+◌, ◌≤◌, ◌<◌, ◌≡◌, max, List, [], ◌∷◌, ◌++◌, length, map, take, slice_set}
use Rattle.base.specs.Limits.{most_records, most_pairs, most_rank}
use Rattle.base.specs.Words.{at}
use Rattle.sheet_keys.specs.Key.{key_holders, cut_key}
use Rattle.carrying.specs.NextRecord.{NextRecord, quantity_of}
use Rattle.carrying.specs.NextRecords.{highest}

-- the places of a draft: those of 1,024 old records, and of a lock for each pair
abbrev pub places : ℕ
places = most_records + most_pairs

-- the key of a record, its fields cut to their widths
abbrev pub record_key : NextRecord → ℕ
record_key l = cut_key l.kind l.holder l.intertie l.rank l.years

-- what is drafted
pub record Drafted : Type 0 where
  pub keys : List ℕ
  pub kws : List ℕ
  pub ranks : List ℕ

-- what the tables of a draft of n records say
abbrev pub shown : List ℕ → List ℕ → List ℕ → ℕ → Drafted
shown keys kws ranks n = record { keys = take n keys; kws = take n kws; ranks = ranks }

-- the tables have room for n records, and ranks that these could reach
pub record Tables (keys kws ranks : List ℕ) (n : ℕ) : Type 0 where
  pub key-places : length keys ≡ places
  pub kw-places : length kws ≡ places
  pub rank-places : length ranks ≡ key_holders
  pub few : n ≤ places
  pub low : (h : ℕ) → h < key_holders → at ranks h ≤ most_rank + n

-- a record more, of a holder who has a rank by it
abbrev pub with_record : ℕ → ℕ → ℕ → ℕ → Drafted → Drafted
with_record key kw holder rank d =
    record { keys = d.keys ++ key ∷ []; kws = d.kws ++ kw ∷ []; ranks = slice_set d.ranks holder (max (at d.ranks holder) rank) }

-- a draft is that of a list of records
pub record DraftOf (records : List NextRecord) (d : Drafted) : Type 0 where
  pub keys-are : d.keys ≡ map record_key records
  pub kws-are : d.kws ≡ map quantity_of records
  pub sized : length d.ranks ≡ key_holders
  pub rank_is : (h : ℕ) → h < key_holders → at d.ranks h ≡ highest h records

-- a draft of any records becomes one of what a function makes of them
abbrev pub Adds : (List NextRecord → List NextRecord) → Drafted → Drafted → Type 0
Adds f before after = (records : List NextRecord) → DraftOf records before → DraftOf (f records) after
