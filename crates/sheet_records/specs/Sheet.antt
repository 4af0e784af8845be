-- The sheet, a list of bytes: three words I, H and K, then K keys, then K quantities; and what its records say together.
use Rattle.std.specs.Prelude.{ℕ, ◌+◌, ◌*◌, Bool, ◌&&◌, List, eqb}
use Rattle.base.specs.Choice.{pick}
use Rattle.base.specs.Limits.{sheet_header_bytes, record_bytes}
use Rattle.base.specs.Kinds.{limit_kind, outside_right_kind, load_share_kind, existing_contract_kind, pre_ra_kind, new_use_kind}
use Rattle.base.specs.Sums.{sum_to}
use Rattle.base.specs.Words.{at}
use Rattle.sheet_keys.specs.Key.{kind_of, holder_of, intertie_of, rank_of}

-- the bytes of a word
abbrev pub word_size : ℕ
word_size = 4

-- the bytes of a sheet of n records
abbrev pub size_of : ℕ → ℕ
size_of n = sheet_header_bytes + record_bytes * n

-- the most that a word of 32 bits says
abbrev pub most_word : ℕ
most_word = 4_294_967_295

-- the 32-bit little-endian word from byte b on
unfoldable pub word_at : List ℕ → ℕ → ℕ
word_at s b = at s b + 256 * at s (b + 1) + 65_536 * at s (b + 2) + 16_777_216 * at s (b + 3)

-- I, how many interties a sheet has
abbrev pub interties : List ℕ → ℕ
interties s = word_at s 0

-- H, how many holders
abbrev pub holders : List ℕ → ℕ
holders s = word_at s 4

-- K, how many records
abbrev pub count : List ℕ → ℕ
count s = word_at s 8

-- the key of record k
abbrev pub key_at : List ℕ → ℕ → ℕ
key_at s k = word_at s (sheet_header_bytes + word_size * k)

-- the quantity of record k, in kilowatts; all quantities stand after all keys
abbrev pub kw_at : List ℕ → ℕ → ℕ
kw_at s k = word_at s (sheet_header_bytes + word_size * count s + word_size * k)

-- the sum of an amount over the records whose key passes a test
unfoldable pub sum_over : List ℕ → (ℕ → Bool) → (ℕ → ℕ) → ℕ
sum_over s test amount = sum_to (count s) (λ k. pick (test (key_at s k)) (amount k) 0)

-- how many records' keys pass a test
abbrev pub how_many : List ℕ → (ℕ → Bool) → ℕ
how_many s test = sum_over s test (λ k. 1)

-- the kilowatts of the records whose keys pass a test
abbrev pub kw_of : List ℕ → (ℕ → Bool) → ℕ
kw_of s test = sum_over s test (kw_at s)

-- kind 1: limit (Maximum Import Capability) of intertie i
abbrev pub is_limit : ℕ → ℕ → Bool
is_limit i key = eqb (kind_of key) limit_kind && eqb (intertie_of key) i

-- kind 2: outside right on intertie i
abbrev pub is_outside : ℕ → ℕ → Bool
is_outside i key = eqb (kind_of key) outside_right_kind && eqb (intertie_of key) i

-- kind 3: load share of holder h
abbrev pub is_load_share : ℕ → ℕ → Bool
is_load_share h key = eqb (kind_of key) load_share_kind && eqb (holder_of key) h

-- kind 4: existing contract of holder h on intertie i
abbrev pub is_existing : ℕ → ℕ → ℕ → Bool
is_existing h i key = eqb (kind_of key) existing_contract_kind && eqb (holder_of key) h && eqb (intertie_of key) i

-- kind 5: Pre-RA commitment of holder h on intertie i
abbrev pub is_pre_ra : ℕ → ℕ → ℕ → Bool
is_pre_ra h i key = eqb (kind_of key) pre_ra_kind && eqb (holder_of key) h && eqb (intertie_of key) i

-- kind 6: New Use commitment of holder h with rank r
abbrev pub is_new_use : ℕ → ℕ → ℕ → Bool
is_new_use h r key = eqb (kind_of key) new_use_kind && eqb (holder_of key) h && eqb (rank_of key) r

-- the limit of intertie i
unfoldable pub limit : List ℕ → ℕ → ℕ
limit s i = kw_of s (is_limit i)

-- the outside rights on intertie i
unfoldable pub outside : List ℕ → ℕ → ℕ
outside s i = kw_of s (is_outside i)

-- the load share of holder h, 0 where it has none
unfoldable pub load_share : List ℕ → ℕ → ℕ
load_share s h = kw_of s (is_load_share h)

-- E of holder h on intertie i
unfoldable pub existing : List ℕ → ℕ → ℕ → ℕ
existing s h i = kw_of s (is_existing h i)

-- E of all holders on intertie i
unfoldable pub existing_on : List ℕ → ℕ → ℕ
existing_on s i = sum_to (holders s) (λ h. existing s h i)

-- the Pre-RA commitments of holder h on intertie i
unfoldable pub pre_ra : List ℕ → ℕ → ℕ → ℕ
pre_ra s h i = kw_of s (is_pre_ra h i)

-- the kilowatts of holder h's New Use commitment with rank r, 0 where it has none
unfoldable pub new_use_kw : List ℕ → ℕ → ℕ → ℕ
new_use_kw s h r = kw_of s (is_new_use h r)

-- the intertie of holder h's New Use commitment with rank r, 0 where it has none; no rank stands twice, so the sum over the
-- records with it has one term at most
unfoldable pub new_use_intertie : List ℕ → ℕ → ℕ → ℕ
new_use_intertie s h r = sum_over s (is_new_use h r) (λ k. intertie_of (key_at s k))
