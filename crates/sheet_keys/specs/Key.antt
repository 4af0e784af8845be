-- A key is kind + 16·holder + 1,024·intertie + 65,536·rank + 16,777,216·years; the widths are 4, 6, 6, 8 and 8 bits.
use Rattle.std.specs.Prelude.{ℕ, ◌+◌, ◌*◌, ◌/◌, ◌%◌}

-- how many kinds, holders, interties, ranks and years a key can name
abbrev pub key_kinds : ℕ
key_kinds = 16

abbrev pub key_holders : ℕ
key_holders = 64

abbrev pub key_interties : ℕ
key_interties = 64

abbrev pub key_ranks : ℕ
key_ranks = 256

abbrev pub key_years : ℕ
key_years = 256

-- what a field counts in a key, where a kind counts 1
abbrev pub holder_unit : ℕ
holder_unit = 16

abbrev pub intertie_unit : ℕ
intertie_unit = 1024

abbrev pub rank_unit : ℕ
rank_unit = 65_536

abbrev pub years_unit : ℕ
years_unit = 16_777_216

-- the fields of a key
abbrev pub kind_of : ℕ → ℕ
kind_of key = key % key_kinds

abbrev pub holder_of : ℕ → ℕ
holder_of key = key / holder_unit % key_holders

abbrev pub intertie_of : ℕ → ℕ
intertie_of key = key / intertie_unit % key_interties

abbrev pub rank_of : ℕ → ℕ
rank_of key = key / rank_unit % key_ranks

abbrev pub years_of : ℕ → ℕ
years_of key = key / years_unit

-- a key from its fields
abbrev pub key_from : ℕ → ℕ → ℕ → ℕ → ℕ → ℕ
key_from kind holder intertie rank years = kind + holder_unit * holder + intertie_unit * intertie + rank_unit * rank + years_unit * years

-- a key from fields that are cut to their widths
abbrev pub cut_key : ℕ → ℕ → ℕ → ℕ → ℕ → ℕ
cut_key kind holder intertie rank years =
    key_from (kind % key_kinds) (holder % key_holders) (intertie % key_interties) (rank % key_ranks) (years % key_years)
