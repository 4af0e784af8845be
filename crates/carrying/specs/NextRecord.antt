-- A record of next year's sheet by its fields and its kilowatts.
use Rattle.std.specs.Prelude.{ℕ, List, get_or}
use Rattle.sheet_keys.specs.Key.{key_from}

pub record NextRecord : Type 0 where
  pub kind : ℕ
  pub holder : ℕ
  pub intertie : ℕ
  pub rank : ℕ
  pub years : ℕ
  pub kw : ℕ

-- its key
abbrev pub key_of : NextRecord → ℕ
key_of l = key_from l.kind l.holder l.intertie l.rank l.years

-- its quantity
abbrev pub quantity_of : NextRecord → ℕ
quantity_of l = l.kw

-- record j of a list; past the end a record of zeros
abbrev pub record_in : List NextRecord → ℕ → NextRecord
record_in l j = get_or l j (record { kind = 0; holder = 0; intertie = 0; rank = 0; years = 0; kw = 0 })
