-- The fields that are taken out of a key make it again, and fields within their widths make the sum as it is.
use Prim.Native.Nat.{ℕ, ◌+◌, ◌*◌, ◌/◌, ◌<◌}
use mathlib.Core.Path.{◌≡◌, refl}
use native.Mathlib.Nat.{mod-eq_of_lt, div-add-mod, div-div-eq-div-mul}
use native.Mathlib.Omega.{arith}
use Rattle.sheet_keys.specs.Key.{kind_of, holder_of, intertie_of, rank_of, years_of, key_from, cut_key}

-- a key of fields within their widths is the sum as it is
pub uncut : (k h i r y : ℕ) → k < 16 → h < 64 → i < 64 → r < 256 → y < 256 → cut_key k h i r y ≡ key_from k h i r y
uncut k h i r y bk bh bi br by = rw (mod-eq_of_lt bk, mod-eq_of_lt bh, mod-eq_of_lt bi, mod-eq_of_lt br, mod-eq_of_lt by) refl

-- the fields that were taken out of a key make it again
pub same_key : (key : ℕ) → key_from (kind_of key) (holder_of key) (intertie_of key) (rank_of key) (years_of key) ≡ key
same_key key =
    let one : key / 16 / 64 ≡ key / 1024 = div-div-eq-div-mul key 16 64 in
    let two : key / 1024 / 64 ≡ key / 65_536 = div-div-eq-div-mul key 1024 64 in
    let three : key / 65_536 / 256 ≡ key / 16_777_216 = div-div-eq-div-mul key 65_536 256 in
    sum (kind_of key) (holder_of key) (intertie_of key) (rank_of key) (key / 16) (key / 1024) (key / 65_536) (years_of key) (div-add-mod key 16)
    (rw one at (div-add-mod (key / 16) 64)) (rw two at (div-add-mod (key / 1024) 64)) (rw three at (div-add-mod (key / 65_536) 256))
  where
    sum : (k h i r a b c y : ℕ) → 16 * a + k ≡ key → 64 * b + h ≡ a → 64 * c + i ≡ b → 256 * y + r ≡ c → key_from k h i r y ≡ key
    sum k h i r a b c y e f g p = omega arith
