-- The records of next year's sheet, in their order.
use Rattle.std.specs.Prelude.{ℕ, zero, suc, ◌+◌, ◌-◌, max, Bool, ◌&&◌, ◌||◌, List, [], ◌∷◌, ◌++◌, leb, ltb, eqb}
use Rattle.base.specs.Choice.{pick}
use Rattle.base.specs.Kinds.{load_share_kind, new_use_kind}
use Rattle.sheet_keys.specs.Key.{kind_of, holder_of, intertie_of, rank_of, years_of}
use Rattle.sheet_records.specs.Sheet.{count, key_at, kw_at}
use Rattle.state.specs.Layout.{interties, holders, locked_of, term_of}
use Rattle.carrying.specs.NextRecord.{NextRecord}

-- kinds 1, 2 and 3, which have no years
abbrev pub yearless : ℕ → Bool
yearless key = leb (kind_of key) load_share_kind

-- old records go on: kinds 1, 2, 3; kinds 4, 5, 6 with years 2 or more
abbrev pub goes_on : ℕ → Bool
goes_on key = yearless key || leb 2 (years_of key)

-- its years: kinds 1, 2, 3 as they were; kinds 4, 5, 6 with one year less
abbrev pub next_years : ℕ → ℕ
next_years key = pick (yearless key) (years_of key) (years_of key - 1)

-- an old record as it goes on
abbrev pub next_record : ℕ → ℕ → NextRecord
next_record key quantity =
    record {
      kind = kind_of key;
      holder = holder_of key;
      intertie = intertie_of key;
      rank = rank_of key;
      years = next_years key;
      kw = quantity;
    }

-- what is written of an old record: one record, or none
abbrev pub kept_of : ℕ → ℕ → List NextRecord
kept_of key quantity = pick (goes_on key) (next_record key quantity ∷ []) []

-- what is written of the first k records of an old sheet, in its order
unfoldable pub kept : List ℕ → ℕ → List NextRecord
kept sheet zero = []
kept sheet (suc k) = kept sheet k ++ kept_of (key_at sheet k) (kw_at sheet k)

-- the rank that a record has among holder h's New Use commitments, 0 where it is none of them
abbrev pub rank_for : ℕ → NextRecord → ℕ
rank_for h l = pick (eqb l.kind new_use_kind && eqb l.holder h) l.rank 0

-- holder h's highest rank in a list of records, 0 if none
unfoldable pub highest : ℕ → List NextRecord → ℕ
highest h [] = 0
highest h (x ∷ l) = max (rank_for h x) (highest h l)

-- a lock of holder h on intertie i as kind 6: years = term, rank one above the holder's highest written so far, 1 if none
abbrev pub lock_record : List ℕ → ℕ → ℕ → List NextRecord → NextRecord
lock_record state h i written =
    record {
      kind = new_use_kind;
      holder = h;
      intertie = i;
      rank = highest h written + 1;
      years = term_of state h i;
      kw = locked_of state h i;
    }

-- the records written so far, and the lock of a pair where it has one
abbrev pub with_lock : List ℕ → ℕ → ℕ → List NextRecord → List NextRecord
with_lock state h i written = written ++ pick (ltb 0 (locked_of state h i)) (lock_record state h i written ∷ []) []

-- and the locks of holder h on the first n interties
unfoldable pub with_locks_of : List ℕ → ℕ → ℕ → List NextRecord → List NextRecord
with_locks_of state h zero written = written
with_locks_of state h (suc i) written = with_lock state h i (with_locks_of state h i written)

-- and the locks of the first n holders
unfoldable pub with_locks : List ℕ → ℕ → List NextRecord → List NextRecord
with_locks state zero written = written
with_locks state (suc h) written = with_locks_of state h (interties state) (with_locks state h written)

-- what goes on of the old sheet, then the locks by holder and intertie
unfoldable pub next_records : List ℕ → List ℕ → List NextRecord
next_records sheet state = with_locks state (holders state) (kept sheet (count sheet))
